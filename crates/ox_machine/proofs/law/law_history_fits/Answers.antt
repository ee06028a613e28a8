use Rattle.ox_machine.proofs.Histories.{history_fits}
use Rattle.ox_machine.proofs.law.law_history_fits.Goals as goal

pub returns : goal.returns
returns g c = history_fits g.M.Machine.meaning g.met.M.Machine.laws
