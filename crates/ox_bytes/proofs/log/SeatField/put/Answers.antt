use Rattle.ox_bytes.specs.LogForms.{seat}
use Rattle.ox_bytes.specs.WritingLaws.{puts_all}
use Rattle.ox_bytes.proofs.log.SeatField.put.Goals as goal

pub returns-in-Led : goal.returns-in-Led
unfolding seat
returns-in-Led c = rw c.in-Led.is (puts_all c.put_u8-in-Led.result c.args.to.now c.put_u8-in-Led.new.self _ c.put_u8-in-Led.ensures.ok c.put_u8-in-Led.ensures.err)
