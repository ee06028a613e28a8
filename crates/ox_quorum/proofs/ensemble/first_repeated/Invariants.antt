use Rattle.std.proofs.Common.{◌≡◌, ◌<◌, ◌^◌, ℕ, [], get_or, take, drop}
use Rattle.ox_quorum.specs.Ensemble.{first_again}
use Rattle.ox_quorum.proofs.ensemble.first_repeated.Given as goal

abbrev pub invariant-loop-i : goal.invariant-loop-i
invariant-loop-i l = (first_again [] l.nodes ≡ first_again (take l.i l.nodes) (drop l.i l.nodes)) × ((k d : ℕ) → k < l.i → get_or l.nodes k d < 2 ^ 32)
