use Rattle.std.proofs.Common.{map, take}
use Rattle.ox_ops.specs.Page.{key_size}
use Rattle.ox_ops.specs.Filling.{Holds}
use Rattle.ox_index.specs.declared.added.Added.{Added}
use Rattle.ox_shard.proofs.reading.fill_added_keys.Given as goal

abbrev pub invariant-loop-added : goal.invariant-loop-added
invariant-loop-added l = Holds key_size l.page (map (λ (a : Added). a.key) (take l.added-index l.entries))
