use Rattle.ox_ops.specs.Forms.{compare}
use Rattle.ox_bytes.specs.WritingLaws.{puts_all}
use Rattle.ox_ops.proofs.fields.query.CompareField.put.Goals as goal

pub returns-in-Ceiling : goal.returns-in-Ceiling
unfolding compare
returns-in-Ceiling c = rw c.in-Ceiling.is (puts_all c.put_u8-in-Ceiling.result c.args.to.now c.put_u8-in-Ceiling.new.self _ c.put_u8-in-Ceiling.ensures.ok c.put_u8-in-Ceiling.ensures.err)

pub returns-in-Lower : goal.returns-in-Lower
unfolding compare
returns-in-Lower c = rw c.in-Lower.is (puts_all c.put_u8-in-Lower.result c.args.to.now c.put_u8-in-Lower.new.self _ c.put_u8-in-Lower.ensures.ok c.put_u8-in-Lower.ensures.err)

pub returns-in-Higher : goal.returns-in-Higher
unfolding compare
returns-in-Higher c = rw c.in-Higher.is (puts_all c.put_u8-in-Higher.result c.args.to.now c.put_u8-in-Higher.new.self _ c.put_u8-in-Higher.ensures.ok c.put_u8-in-Higher.ensures.err)
