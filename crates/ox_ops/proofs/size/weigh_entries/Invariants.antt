use Rattle.std.proofs.Common.{◌≡◌, ◌-◌, ◌^◌, take, sum_by}
use Rattle.std.specs.Prelude.{min}
use Rattle.ox_ops.specs.Weight.{entry_weight}
use Rattle.ox_ops.proofs.size.weigh_entries.Given as goal

abbrev pub invariant-loop-entry : goal.invariant-loop-entry
invariant-loop-entry l = l.total ≡ min (sum_by entry_weight (take l.entry-index l.entries)) (2 ^ 64 - 1)
