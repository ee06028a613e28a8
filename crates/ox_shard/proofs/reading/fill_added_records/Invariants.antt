use Rattle.std.proofs.Common.{take}
use Rattle.std.specs.List.{filter_map}
use Rattle.ox_ops.specs.State.{record_of}
use Rattle.ox_ops.specs.Page.{record_size}
use Rattle.ox_ops.specs.Filling.{Holds}
use Rattle.ox_index.specs.declared.added.Added.{Added}
use Rattle.ox_shard.proofs.reading.fill_added_records.Given as goal

abbrev pub invariant-loop-added : goal.invariant-loop-added
invariant-loop-added l = Holds record_size l.page (filter_map (λ (a : Added). record_of a.key l.records.records) (take l.added-index l.entries))
