use Rattle.oxia_top.proofs.ReportLemmas.{event_told}
use Rattle.oxia_top.proofs.report.tell_event.Goals as goal

pub returns : goal.returns
returns c = event_told c.args.world c.happen.result c.args.number c.args.event c.args.text.now c.add_event_line.new.text c.happen.new.text c.in_ok-add_event_line.ensures c.happen.ensures
