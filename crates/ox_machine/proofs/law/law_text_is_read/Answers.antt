use Rattle.ox_machine.proofs.Histories.{text_is_read}
use Rattle.ox_machine.proofs.law.law_text_is_read.Goals as goal

pub returns : goal.returns
returns g c = text_is_read g.M.Machine.meaning g.met.M.Machine.laws
