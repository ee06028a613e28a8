-- One call as a step of a run.
use Rattle.std.proofs.Common.{◌≡◌, inl, inr, ℕ, zero, suc, ◌+◌, Bool, true, false, List, [], ◌∷◌, ◌++◌, Option, Some, None, refl, arith}
use Rattle.std.specs.Prelude.{◌==◌, if◌then◌else◌}
use Rattle.ox_outside.specs.Disk.{Shown}
use Rattle.ox_journal.specs.Appended.{BeforeOrAfter}
use Rattle.ox_journal.specs.Chain.{OneOf, in_order, FilesHold, LeavesInTurn}
use Rattle.ox_journal.specs.Filling.{OldOrNew}
use Rattle.ox_journal.specs.Made.{UnformattedOrEmpty}
use Rattle.ox_journal.specs.Pair.{LeavesPairs, Holds}

-- the same two files, named in the other order
swapped : (payloads : Option (List (List ℕ))) (c d : List ℕ) → FilesHold payloads c d → FilesHold payloads d c
swapped None c d dead = (dead.1, dead.0)
swapped (Some payloads) c d (inl one) = inr one
swapped (Some payloads) c d (inr two) = inl two

swapped_one : (states : List (Option (List (List ℕ)))) (c d : List ℕ) → OneOf (λ s. FilesHold s c d) states → OneOf (λ s. FilesHold s d c) states
swapped_one [] c d is = is
swapped_one (s ∷ states) c d (inl here) = inl (swapped s c d here)
swapped_one (s ∷ states) c d (inr there) = inr (swapped_one states c d there)

module _ {D : Type 0} (shows : D → Shown) where
  abbrev ordered : Bool → D → D → D × D
  ordered b live spare = if b then (live, spare) else (spare, live)

  step : (b : Bool) (live spare live_new spare_new : D) (P : List ℕ → List ℕ → Type 0) (states : List (Option (List (List ℕ))))
      → ((c d : List ℕ) → P c d → OneOf (λ s. FilesHold s c d) states)
      → LeavesPairs (shows live) (shows spare) (shows live_new) (shows spare_new) P
      → LeavesInTurn shows FilesHold (states ∷ []) (ordered b live spare) (ordered b live_new spare_new)
  step true live spare live_new spare_new P states is left = (
    (live_new, spare_new),
    record { seen = is _ _ left.seen; now = λ c d at_c at_d. is c d (left.now c d at_c at_d); each = λ c d at_c at_d. is c d (left.each c d at_c at_d) },
    refl,
  )
  step false live spare live_new spare_new P states is left = (
    (spare_new, live_new),
    record {
      seen = swapped_one states _ _ (is _ _ left.seen);
      now = λ d c at_d at_c. swapped_one states c d (is c d (left.now c d at_c at_d));
      each = λ d c at_d at_c. swapped_one states c d (is c d (left.each c d at_c at_d));
    },
    refl,
  )

  -- a call that leaves the halves their places
  one_step : (half : ℕ) (live spare live_new spare_new : D) (P : List ℕ → List ℕ → Type 0) (states : List (Option (List (List ℕ))))
      → ((c d : List ℕ) → P c d → OneOf (λ s. FilesHold s c d) states)
      → LeavesPairs (shows live) (shows spare) (shows live_new) (shows spare_new) P
      → LeavesInTurn shows FilesHold (states ∷ []) (in_order half live spare) (in_order half live_new spare_new)
  one_step half live spare live_new spare_new P states is left = step (half == 0) live spare live_new spare_new P states is left

-- the halves in the other order
pub turned : {D : Type 0} (h k : ℕ) (x y : D) → h + k ≡ 1 → in_order h x y ≡ in_order k y x
turned zero zero x y e = absurd (omega arith)
turned zero (suc zero) x y e = refl
turned zero (suc (suc k)) x y e = absurd (omega arith)
turned (suc zero) zero x y e = refl
turned (suc zero) (suc k) x y e = absurd (omega arith)
turned (suc (suc h)) k x y e = absurd (omega arith)

held_now : (payloads : List (List ℕ)) (c d : List ℕ) → Holds c d payloads → OneOf (λ s. FilesHold s c d) (Some payloads ∷ [])
held_now payloads c d holds = inl holds

before_or_after : (payloads : List (List ℕ)) (payload c d : List ℕ) → BeforeOrAfter payloads payload c d → OneOf (λ s. FilesHold s c d) (Some payloads ∷ Some (payloads ++ payload ∷ []) ∷ [])
before_or_after payloads payload c d (inl holds) = inl holds
before_or_after payloads payload c d (inr holds) = inr (inl holds)

old_or_new : (old new : List (List ℕ)) (c d : List ℕ) → OldOrNew old new c d → OneOf (λ s. FilesHold s c d) (Some old ∷ Some new ∷ [])
old_or_new old new c d (inl holds) = inl holds
old_or_new old new c d (inr holds) = inr (inl holds)

none_or_empty : (c d : List ℕ) → UnformattedOrEmpty c d → OneOf (λ s. FilesHold s c d) (None ∷ Some [] ∷ [])
none_or_empty c d (inl dead) = inl dead
none_or_empty c d (inr holds) = inr (inl holds)

-- the calls of a journal
module _ {D : Type 0} (shows : D → Shown) (half : ℕ) (live spare live_new spare_new : D) where
  pub held_turn : (payloads : List (List ℕ)) → LeavesPairs (shows live) (shows spare) (shows live_new) (shows spare_new) (λ c d. Holds c d payloads)
      → LeavesInTurn shows FilesHold ((Some payloads ∷ []) ∷ []) (in_order half live spare) (in_order half live_new spare_new)
  held_turn payloads left = one_step shows half live spare live_new spare_new (λ c d. Holds c d payloads) (Some payloads ∷ []) (held_now payloads) left

  pub append_turn : (payloads : List (List ℕ)) (payload : List ℕ) → LeavesPairs (shows live) (shows spare) (shows live_new) (shows spare_new) (BeforeOrAfter payloads payload)
      → LeavesInTurn shows FilesHold ((Some payloads ∷ Some (payloads ++ payload ∷ []) ∷ []) ∷ []) (in_order half live spare) (in_order half live_new spare_new)
  append_turn payloads payload left =
      one_step shows half live spare live_new spare_new (BeforeOrAfter payloads payload) (Some payloads ∷ Some (payloads ++ payload ∷ []) ∷ []) (before_or_after payloads payload) left

  pub switch_turn : (old new : List (List ℕ)) → LeavesPairs (shows live) (shows spare) (shows live_new) (shows spare_new) (OldOrNew old new)
      → LeavesInTurn shows FilesHold ((Some old ∷ Some new ∷ []) ∷ []) (in_order half live spare) (in_order half live_new spare_new)
  switch_turn old new left = one_step shows half live spare live_new spare_new (OldOrNew old new) (Some old ∷ Some new ∷ []) (old_or_new old new) left

  pub create_turn : LeavesPairs (shows live) (shows spare) (shows live_new) (shows spare_new) UnformattedOrEmpty
      → LeavesInTurn shows FilesHold ((None ∷ Some [] ∷ []) ∷ []) (in_order half live spare) (in_order half live_new spare_new)
  create_turn left = one_step shows half live spare live_new spare_new UnformattedOrEmpty (None ∷ Some [] ∷ []) none_or_empty left
