use Rattle.std.proofs.Common.{◌≡◌, ◌-◌, ◌^◌, take, sum_by}
use Rattle.std.specs.Prelude.{min}
use Rattle.ox_ops.proofs.write_size.list_bytes.Given as goal

abbrev pub invariant-loop-item : goal.invariant-loop-item
invariant-loop-item g l = l.total ≡ min (sum_by g.T.Measured.size (take l.item-index l.items)) (2 ^ 64 - 1)
