use Rattle.ox_wire.specs.BodyForms.{asked}
use Rattle.ox_bytes.specs.WritingLaws.{puts_all}
use Rattle.ox_wire.proofs.fields.body.AskedField.put.Goals as goal

pub returns-in-AddFollower : goal.returns-in-AddFollower
unfolding asked
returns-in-AddFollower c = rw c.in-AddFollower.is (puts_all c.put_u8-in-AddFollower.result c.args.to.now c.put_u8-in-AddFollower.new.self _ c.put_u8-in-AddFollower.ensures.ok c.put_u8-in-AddFollower.ensures.err)
