use Rattle.std.proofs.Common.{◌≡◌, ◌≤◌, length, map, vec_len, vec_capacity}
use Rattle.ox_puts.proofs.record_table.records_of_pairs.Given as goal

abbrev pub invariant-loop-record : goal.invariant-loop-record
invariant-loop-record l =
    (l.room.items ≡ map (λ p. p.1) l.yielded) × (vec_len l.room ≡ length l.yielded) × (length l.fn.pairs ≤ vec_capacity l.room)
