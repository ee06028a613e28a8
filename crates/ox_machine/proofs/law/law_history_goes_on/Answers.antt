use Rattle.ox_machine.specs.Store.{state_after}
use Rattle.ox_machine.proofs.Histories.{goes_on}
use Rattle.ox_machine.proofs.law.law_history_goes_on.Goals as goal

pub returns : goal.returns
unfolding state_after
returns g c = λ first more. goes_on g.M.Machine.meaning g.M.Machine.meaning.opening first more
