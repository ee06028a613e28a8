-- Two files that stand for a state, in the other order.
use Rattle.std.proofs.Common.{List, ℕ, inl, inr}
use Rattle.std.specs.Prelude.{◌⊎◌}
use Rattle.ox_types.specs.Durable.{DurableState}
use Rattle.ox_journal.specs.Pair.{Holds, IsJournal}
use Rattle.ox_wal.specs.Files.{HoldsState}

swapped : (c d : List ℕ) (payloads : List (List ℕ)) → Holds c d payloads → Holds d c payloads
swapped c d payloads (inl h) = inr h
swapped c d payloads (inr h) = inl h

pub holds_swapped : (c d : List ℕ) (state : DurableState) → HoldsState c d state → HoldsState d c state
holds_swapped c d state h = record { payloads = h.payloads; holds = swapped c d h.payloads h.holds; folds = h.folds }
