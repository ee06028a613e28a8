use Rattle.ox_bytes.specs.LogForms.{bad_rule}
use Rattle.ox_bytes.specs.WritingLaws.{puts_all}
use Rattle.ox_bytes.proofs.refusal.RuleField.put.Goals as goal

pub returns-in-Size : goal.returns-in-Size
unfolding bad_rule
returns-in-Size c = rw c.in-Size.is (puts_all c.put_u8-in-Size.result c.args.to.now c.put_u8-in-Size.new.self _ c.put_u8-in-Size.ensures.ok c.put_u8-in-Size.ensures.err)

pub returns-in-Deltas : goal.returns-in-Deltas
unfolding bad_rule
returns-in-Deltas c = rw c.in-Deltas.is (puts_all c.put_u8-in-Deltas.result c.args.to.now c.put_u8-in-Deltas.new.self _ c.put_u8-in-Deltas.ensures.ok c.put_u8-in-Deltas.ensures.err)

pub returns-in-First : goal.returns-in-First
unfolding bad_rule
returns-in-First c = rw c.in-First.is (puts_all c.put_u8-in-First.result c.args.to.now c.put_u8-in-First.new.self _ c.put_u8-in-First.ensures.ok c.put_u8-in-First.ensures.err)

pub returns-in-Sequence : goal.returns-in-Sequence
unfolding bad_rule
returns-in-Sequence c = rw c.in-Sequence.is (puts_all c.put_u8-in-Sequence.result c.args.to.now c.put_u8-in-Sequence.new.self _ c.put_u8-in-Sequence.ensures.ok c.put_u8-in-Sequence.ensures.err)

pub returns-in-Long : goal.returns-in-Long
unfolding bad_rule
returns-in-Long c = rw c.in-Long.is (puts_all c.put_u8-in-Long.result c.args.to.now c.put_u8-in-Long.new.self _ c.put_u8-in-Long.ensures.ok c.put_u8-in-Long.ensures.err)

pub returns-in-Indexes : goal.returns-in-Indexes
unfolding bad_rule
returns-in-Indexes c = rw c.in-Indexes.is (puts_all c.put_u8-in-Indexes.result c.args.to.now c.put_u8-in-Indexes.new.self _ c.put_u8-in-Indexes.ensures.ok c.put_u8-in-Indexes.ensures.err)

pub returns-in-Repeated : goal.returns-in-Repeated
unfolding bad_rule
returns-in-Repeated c = rw c.in-Repeated.is (puts_all c.put_u8-in-Repeated.result c.args.to.now c.put_u8-in-Repeated.new.self _ c.put_u8-in-Repeated.ensures.ok c.put_u8-in-Repeated.ensures.err)

pub returns-in-Timeout : goal.returns-in-Timeout
unfolding bad_rule
returns-in-Timeout c = rw c.in-Timeout.is (puts_all c.put_u8-in-Timeout.result c.args.to.now c.put_u8-in-Timeout.new.self _ c.put_u8-in-Timeout.ensures.ok c.put_u8-in-Timeout.ensures.err)

pub returns-in-Expire : goal.returns-in-Expire
unfolding bad_rule
returns-in-Expire c = rw c.in-Expire.is (puts_all c.put_u8-in-Expire.result c.args.to.now c.put_u8-in-Expire.new.self _ c.put_u8-in-Expire.ensures.ok c.put_u8-in-Expire.ensures.err)
