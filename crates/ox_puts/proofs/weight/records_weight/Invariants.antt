use Rattle.std.proofs.Common.{◌≡◌, sum_by, take}
use Rattle.ox_ops.specs.Weight.{record_weight}
use Rattle.ox_puts.proofs.weight.records_weight.Given as goal

abbrev pub invariant-loop-item : goal.invariant-loop-item
invariant-loop-item l = l.total ≡ sum_by record_weight (take l.item-index l.records)
