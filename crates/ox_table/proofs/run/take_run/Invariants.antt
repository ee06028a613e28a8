use Rattle.std.proofs.Common.{◌≡◌, ◌+◌, ◌≤◌, length, vec_len, vec_capacity}
use Rattle.ox_table.proofs.run.take_run.Given as goal

abbrev pub invariant-loop-item : goal.invariant-loop-item
invariant-loop-item g l =
    (l.run.items ≡ l.yielded) × (vec_len l.run ≡ length l.yielded) × (l.fn.end ≤ l.fn.start + vec_capacity l.run)
