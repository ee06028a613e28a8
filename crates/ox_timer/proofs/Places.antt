-- The place of an id among rising ones.
use Rattle.std.proofs.Common.{◌≡◌, ◌≢◌, ◌<◌, ◌≤◌, ℕ, Bool, true, false, nat_lt, inl, inr, List, length, sym, ◌∙◌, ap, arith, slice_index_or}
use Rattle.std.specs.Prelude.{All}
use Rattle.std.specs.List.Sorted.{IsPartitionedBy, IsPartitionPoint}
use Rattle.std.proofs.Math.Nat.{eq-or-lt_of_le}
use Rattle.std.proofs.lemmas.Bool.{ltb-true, ltb-false, lt-ltb}
use Rattle.std.proofs.lemmas.List.{get_or_default}
use Rattle.ox_timer.specs.declared.running.Running.{Running}
use Rattle.ox_timer.specs.Order.{RunningRise}

abbrev pub is_below : ℕ → Running → Bool
is_below id r = nat_lt r.id id

pub rise_within : (running : List Running) → RunningRise running → (i j : ℕ) (d : Running) → i ≤ j → j < length running → (slice_index_or running i d).id ≤ (slice_index_or running j d).id
rise_within running rise i j d le within =
    elim (eq-or-lt_of_le le) [
      | inl same ↦ rw same (omega arith)
      | inr below ↦ let rises : (slice_index_or running i d).id < (slice_index_or running j d).id = rise i j d below within in (omega arith)
    ]

pub parted : (id : ℕ) (running : List Running) → RunningRise running → IsPartitionedBy (is_below id) running
parted id running rise i j d le within low =
    let last : (slice_index_or running j d).id < id = ltb-true (slice_index_or running j d).id id low in
    let order = rise_within running rise i j d le within in
    lt-ltb (slice_index_or running i d).id id (omega arith)

module _ (id place : ℕ) (running : List Running) (d : Running) (rise : RunningRise running)
    (point : IsPartitionPoint (λ (r : Running). is_below id r ≡ true) (λ (r : Running). is_below id r ≡ false) running place) where
  low : (k : ℕ) (e : Running) → k < place → (slice_index_or running k e).id < id
  low k e below = ltb-true (slice_index_or running k e).id id (point.0 k e (omega arith) below)

  -- no timer has the id where the lesser ids end at the end
  pub none_past : place ≤ length running → length running ≤ place → All (λ (r : Running). r.id ≢ id) running
  none_past inside past k e within =
      let below : (slice_index_or running k e).id < id = low k e (omega arith) in
      λ same. absurd (omega arith)

  high : (k : ℕ) (e : Running) → place ≤ k → k < length running → id ≤ (slice_index_or running k e).id
  high k e from within = ltb-false (slice_index_or running k e).id id (point.1 k e from within)

  -- the id stands at the place alone
  numbers : (k idp idk : ℕ) → id ≡ idk → (k < place → idk < id) → (place < k → id ≤ idp) → (place < k → idp < idk) → (place ≡ k → ⊥) → ⊥
  numbers k idp idk same below above rises apart = grind arith

  -- and where another id follows them
  pub none_other : ((slice_index_or running place d).id ≡ id → ⊥) → All (λ (r : Running). r.id ≢ id) running
  none_other other k e within same =
      let read : (slice_index_or running k e).id ≡ (slice_index_or running k d).id = ap (λ (r : Running). r.id) (get_or_default running k e d within) in
      numbers k (slice_index_or running place d).id (slice_index_or running k d).id (sym same ∙ read)
      (λ below. low k d below)
      (λ behind. high place d (omega arith) (omega arith))
      (λ behind. rise place k d behind within)
      (λ here. other (rw (here) (sym read ∙ same)))
