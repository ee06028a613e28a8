use Rattle.ox_wal.specs.ActionForms.{action}
use Rattle.ox_bytes.specs.WritingLaws.{puts_all}
use Rattle.ox_wal.proofs.action.put_action.Goals as goal

pub returns-in-Lead : goal.returns-in-Lead
unfolding action
returns-in-Lead c = rw c.in-Lead.is (puts_all c.put_u8-in-Lead.result c.args.to.now c.put_u8-in-Lead.new.self _ c.put_u8-in-Lead.ensures.ok c.put_u8-in-Lead.ensures.err)
