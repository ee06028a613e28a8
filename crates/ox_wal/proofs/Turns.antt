-- Recoveries and batches as steps of a run.
use Rattle.std.proofs.Common.{◌≡◌, inl, inr, ℕ, Bool, true, false, List, [], ◌∷◌, refl, sym, ap, subst}
use Rattle.std.specs.Prelude.{◌==◌, if◌then◌else◌}
use Rattle.ox_types.specs.Durable.{DurableState, blank}
use Rattle.ox_outside.specs.Disk.{Shown, MayLeave, Quiet, LeavesOnly}
use Rattle.ox_journal.specs.Chain.{OneOf, in_order, LeavesOneOf, LeavesInTurn}
use Rattle.ox_journal.specs.ChainLaws.{one_of_on}
use Rattle.ox_journal.specs.Made.{DeadOrMade}
use Rattle.ox_journal.specs.Opening.{BothQuiet, IsUnformatted}
use Rattle.ox_journal.specs.Pair.{Holds, LeavesPairs}
use Rattle.ox_wal.specs.Files.{HoldsState, Stands, StandsAs, StandAmong, BeforeOrBehind}
use Rattle.ox_wal.proofs.Restarts.{made_stands}

-- files that are the same
among_at : (states : List DurableState) (a b x y : List ℕ) → a ≡ x → b ≡ y → OneOf (Stands a b) states → OneOf (Stands x y) states
among_at states a b x y ax by is = subst (λ (f : List ℕ). OneOf (Stands x f) states) by (subst (λ (f : List ℕ). OneOf (Stands f b) states) ax is)

module _ (states : List DurableState) where
  -- disks that nothing changed
  pub quiet_among : (first second a b : Shown) → StandAmong first second states → Quiet first a → Quiet second b → StandAmong a b states
  quiet_among first second a b stand one two = record {
    seen = among_at states first.seen second.seen a.seen b.seen (sym one.seen) (sym two.seen) stand.seen;
    left = λ c e at_c at_e. stand.left c e (one.now c at_c) (two.now e at_e);
  }

  quiet_step : (first second a b : Shown) → StandAmong first second states → Quiet first a → Quiet second b → LeavesPairs first second a b (λ c e. OneOf (λ s. StandsAs s c e) states)
  quiet_step first second a b stand one two = record {
    seen = (quiet_among first second a b stand one two).seen;
    now = (quiet_among first second a b stand one two).left;
    each = λ c e at_c at_e. stand.left c e (one.each c at_c) (two.each e at_e);
  }

  idle_step : (a b : Shown) → StandAmong a b states → LeavesPairs a b a b (λ c e. OneOf (λ s. StandsAs s c e) states)
  idle_step a b stand = record { seen = stand.seen; now = stand.left; each = stand.left }

  module _ {D : Type 0} (shows : D → Shown) (first second : D) (stand : StandAmong (shows first) (shows second) states) where
    -- a recovery that changes nothing
    pub quiet_turns : (a b : D) → Quiet (shows first) (shows a) → Quiet (shows second) (shows b) → LeavesInTurn shows StandsAs (states ∷ states ∷ []) (first, second) (a, b)
    quiet_turns a b one two = (
      (a, b),
      quiet_step (shows first) (shows second) (shows a) (shows b) stand one two,
      ((a, b), idle_step (shows a) (shows b) (quiet_among (shows first) (shows second) (shows a) (shows b) stand one two), refl),
    )

    -- a recovery that makes a journal
    module _ (a b : D) (quiet : BothQuiet (shows first) (shows second) (shows a) (shows b)) (none : IsUnformatted (shows a) (shows b))
        (never : (d : DurableState) → HoldsState ((shows first).seen) ((shows second).seen) d → ⊥) where
      blank_of : (d : DurableState) → Stands ((shows first).seen) ((shows second).seen) d → blank ≡ d
      blank_of d (inl holds) = absurd (never d holds)
      blank_of d (inr dead) = sym dead.2

      pub blank_among : OneOf (λ s. blank ≡ s) states
      blank_among = one_of_on states blank_of stand.seen

      is_among : (c e : List ℕ) → Stands c e blank → OneOf (Stands c e) states
      is_among c e stands = one_of_on states (λ d is. subst (λ (s : DurableState). Stands c e s) is stands) blank_among

      made : (new : D) → LeavesOnly (shows a) (shows new) DeadOrMade → LeavesPairs (shows a) (shows b) (shows new) (shows b) (λ c e. OneOf (λ s. StandsAs s c e) states)
      made new left = record {
        seen = at_second ((shows new).seen) left.seen;
        now = λ c e at_c at_e. second_left c e (left.now c at_c) at_e;
        each = λ c e at_c at_e. second_left c e (left.each c at_c) at_e;
      }
        where
          at_second : (c : List ℕ) → DeadOrMade c → OneOf (Stands c ((shows b).seen)) states
          at_second c is = is_among c ((shows b).seen) (made_stands (shows first) (shows second) (shows a) (shows b) quiet none c is)

          second_left : (c e : List ℕ) → DeadOrMade c → MayLeave (shows b) e → OneOf (Stands c e) states
          second_left c e is at_e = subst (λ (f : List ℕ). OneOf (Stands c f) states) (sym (none.two_synced e at_e)) (at_second c is)

      pub made_turns : (new : D) → LeavesOnly (shows a) (shows new) DeadOrMade → LeavesInTurn shows StandsAs (states ∷ states ∷ []) (first, second) (new, b)
      made_turns new left = (
        (a, b),
        quiet_step (shows first) (shows second) (shows a) (shows b) stand quiet.one quiet.two,
        ((new, b), made new left, refl),
      )

      pub made_among : (new : D) → LeavesOnly (shows a) (shows new) DeadOrMade → StandAmong (shows new) (shows b) states
      made_among new left = record { seen = (made new left).seen; left = (made new left).now }

-- the disks in their order
pub order_zero : {D : Type 0} (half : ℕ) (live spare : D) → half ≡ 0 → in_order half live spare ≡ (live, spare)
order_zero half live spare is = ap (λ (h : ℕ). in_order h live spare) is

pub order_one : {D : Type 0} (half : ℕ) (live spare : D) → half ≡ 1 → in_order half live spare ≡ (spare, live)
order_one half live spare is = ap (λ (h : ℕ). in_order h live spare) is

-- Batches.
holds_swapped : (c e : List ℕ) (d : DurableState) → HoldsState c e d → HoldsState e c d
holds_swapped c e d holds = record { payloads = holds.payloads; holds = other c e holds.payloads holds.holds; folds = holds.folds }
  where
    other : (c e : List ℕ) (payloads : List (List ℕ)) → Holds c e payloads → Holds e c payloads
    other c e payloads (inl one) = inr one
    other c e payloads (inr two) = inl two

module _ (before behind : DurableState) where
  either : (c e : List ℕ) → BeforeOrBehind before behind c e → OneOf (λ s. StandsAs s c e) (before ∷ behind ∷ [])
  either c e (inl holds) = inl (inl holds)
  either c e (inr holds) = inr (inl (inl holds))

  either_swapped : (c e : List ℕ) → BeforeOrBehind before behind c e → OneOf (λ s. StandsAs s e c) (before ∷ behind ∷ [])
  either_swapped c e (inl holds) = inl (inl (holds_swapped c e before holds))
  either_swapped c e (inr holds) = inr (inl (inl (holds_swapped c e behind holds)))

  module _ {D : Type 0} (shows : D → Shown) where
    abbrev ordered : Bool → D → D → D × D
    ordered b live spare = if b then (live, spare) else (spare, live)

    step : (b : Bool) (live spare live_new spare_new : D) → LeavesPairs (shows live) (shows spare) (shows live_new) (shows spare_new) (BeforeOrBehind before behind)
        → LeavesOneOf shows StandsAs (before ∷ behind ∷ []) (ordered b live spare) (ordered b live_new spare_new)
    step true live spare live_new spare_new left = record {
      seen = either _ _ left.seen;
      now = λ c e at_c at_e. either c e (left.now c e at_c at_e);
      each = λ c e at_c at_e. either c e (left.each c e at_c at_e);
    }
    step false live spare live_new spare_new left = record {
      seen = either_swapped _ _ left.seen;
      now = λ e c at_e at_c. either_swapped c e (left.now c e at_c at_e);
      each = λ e c at_e at_c. either_swapped c e (left.each c e at_c at_e);
    }

    pub batch_turn : (half half_new : ℕ) (live spare live_new spare_new : D) → half_new ≡ half → LeavesPairs (shows live) (shows spare) (shows live_new) (shows spare_new) (BeforeOrBehind before behind)
        → LeavesInTurn shows StandsAs ((before ∷ behind ∷ []) ∷ []) (in_order half live spare) (in_order half_new live_new spare_new)
    batch_turn half half_new live spare live_new spare_new same left =
        (in_order half live_new spare_new, step (half == 0) live spare live_new spare_new left, ap (λ (h : ℕ). in_order h live_new spare_new) same)

    pub batch_among : (half : ℕ) (live spare live_new spare_new : D) → LeavesPairs (shows live) (shows spare) (shows live_new) (shows spare_new) (BeforeOrBehind before behind)
        → StandAmong (shows (in_order half live_new spare_new).0) (shows (in_order half live_new spare_new).1) (before ∷ behind ∷ [])
    batch_among half live spare live_new spare_new left = let is = step (half == 0) live spare live_new spare_new left in record { seen = is.seen; left = is.now }
