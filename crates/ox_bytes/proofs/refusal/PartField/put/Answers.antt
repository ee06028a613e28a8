use Rattle.ox_bytes.specs.LogForms.{part}
use Rattle.ox_bytes.specs.WritingLaws.{puts_all}
use Rattle.ox_bytes.proofs.refusal.PartField.put.Goals as goal

pub returns-in-Put : goal.returns-in-Put
unfolding part
returns-in-Put c = rw c.in-Put.is (puts_all c.put_u8-in-Put.result c.args.to.now c.put_u8-in-Put.new.self _ c.put_u8-in-Put.ensures.ok c.put_u8-in-Put.ensures.err)

pub returns-in-Session : goal.returns-in-Session
unfolding part
returns-in-Session c = rw c.in-Session.is (puts_all c.put_u8-in-Session.result c.args.to.now c.put_u8-in-Session.new.self _ c.put_u8-in-Session.ensures.ok c.put_u8-in-Session.ensures.err)
