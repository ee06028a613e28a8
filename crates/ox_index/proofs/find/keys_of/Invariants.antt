use Rattle.std.proofs.Common.{◌≡◌, map, take}
use Rattle.ox_index.proofs.find.keys_of.Given as goal

abbrev pub invariant-loop-added : goal.invariant-loop-added
invariant-loop-added l = l.keys ≡ map (λ a. a.key) (take l.added-index l.entries)
