use Rattle.ox_solo_replica.proofs.Swapped.{holds_swapped}
use Rattle.ox_solo_replica.proofs.law.law_either_order.Goals as goal

pub returns : goal.returns
returns c = holds_swapped
