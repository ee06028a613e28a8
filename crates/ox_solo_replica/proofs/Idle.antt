-- Disks on which nothing is done.
use Rattle.std.proofs.Common.{List, ℕ, inl}
use Rattle.ox_types.specs.Durable.{DurableState}
use Rattle.ox_outside.specs.Disk.{Shown, MayLeave}
use Rattle.ox_journal.specs.Pair.{LeavesPairs}
use Rattle.ox_wal.specs.Files.{BeforeOrBehind, HoldsState}

-- they stand for the state that they stood for
pub idle : (live spare : Shown) (before behind : DurableState) → HoldsState live.seen spare.seen before
    → ((c d : List ℕ) → MayLeave live c → MayLeave spare d → HoldsState c d before) → LeavesPairs live spare live spare (BeforeOrBehind before behind)
idle live spare before behind seen left = record {
  seen = inl seen;
  now = λ c d a b. inl (left c d a b);
  each = λ c d a b. inl (left c d a b);
}
