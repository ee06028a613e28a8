-- The pairs on each side of a place.
use Rattle.std.proofs.Common.{◌≡◌, ◌∙◌, ℕ, ◌+◌, ◌<◌, ◌≤◌, Bool, List, ◌++◌, length, get_or, set, add-one, take, drop, filter, find, Some, None, refl, sym, ap, arith, inl, inr}
use Rattle.std.specs.List.{AllWithin, insert, remove}
use Rattle.std.proofs.lemmas.List.{set_split}
use Rattle.std.specs.Option.{option_map}
use Rattle.std.specs.Ordering.{is_lt, is_le, is_eq, is_ne, is_ge, is_gt}
use Rattle.std.specs.declared.cmp.Ordering.{Ordering}
use Rattle.std.specs.declared.cmp.Ordering.TheVariants.{Less, Equal, Greater}
use Rattle.std.proofs.lemmas.Bool.{cases_lt}
use Rattle.ox_types.specs.Order.{key_cmp}
use Rattle.ox_types.specs.OrderLaws.{key_anti}
use Rattle.ox_table.specs.Table.{Pairs, table_get, inserted, removed}
use Rattle.ox_table.specs.Place.{IsPlaceOf, IsGapFor}
use Rattle.ox_table.proofs.Filters.{filter_all, filter_sides, filter_front, filter_back, find_place, find_nowhere}

module _ {V : Type 0} {pairs : Pairs V} {key : List ℕ} {place : ℕ} (h : IsPlaceOf pairs key place) where
  -- a test of the comparison with the key, on each side of the place
  before : (t : Ordering → Bool) → AllWithin (λ p. t (key_cmp p.0 key) ≡ t Less) pairs 0 place
  before t k d low high = ap t (h.less k d low high)

  up_to : (t : Ordering → Bool) → t Equal ≡ t Less → AllWithin (λ p. t (key_cmp p.0 key) ≡ t Less) pairs 0 (place + 1)
  up_to t e k d low high = elim (cases_lt k place) [
    | inl lt ↦ ap t (h.less k d low lt)
    | inr ge ↦
        let same : k ≡ place = omega arith in
        rw same (ap t (h.equal d) ∙ e)
  ]

  from : (t : Ordering → Bool) → t Equal ≡ t Greater → AllWithin (λ p. t (key_cmp p.0 key) ≡ t Greater) pairs place (length pairs)
  from t e k d low high = elim (cases_lt place k) [
    | inl gt ↦ ap t (h.greater k d (omega arith) high)
    | inr le ↦
        let same : k ≡ place = omega arith in
        rw same (ap t (h.equal d) ∙ e)
  ]

  after : (t : Ordering → Bool) → AllWithin (λ p. t (key_cmp p.0 key) ≡ t Greater) pairs (place + 1) (length pairs)
  after t k d low high = ap t (h.greater k d low high)

  here : (t : Ordering → Bool) → AllWithin (λ p. t (key_cmp p.0 key) ≡ t Equal) pairs place (place + 1)
  here t k d low high =
      let same : k ≡ place = omega arith in
      rw same (ap t (h.equal d))

  inside : place ≤ length pairs
  inside = let lt = h.inside in omega arith

  next_inside : place + 1 ≤ length pairs
  next_inside = let lt = h.inside in omega arith

  pub lt-place : filter (λ p. is_lt (key_cmp p.0 key)) pairs ≡ take place pairs
  lt-place = filter_front _ pairs place (before is_lt) (from is_lt refl) inside

  pub ge-place : filter (λ p. is_ge (key_cmp p.0 key)) pairs ≡ drop place pairs
  ge-place = filter_back _ pairs place (before is_ge) (from is_ge refl) inside

  pub le-place : filter (λ p. is_le (key_cmp p.0 key)) pairs ≡ take (place + 1) pairs
  le-place = filter_front _ pairs (place + 1) (up_to is_le refl) (after is_le) next_inside

  pub gt-place : filter (λ p. is_gt (key_cmp p.0 key)) pairs ≡ drop (place + 1) pairs
  gt-place = filter_back _ pairs (place + 1) (up_to is_gt refl) (after is_gt) next_inside

  pub ne-place : filter (λ p. is_ne (key_cmp p.0 key)) pairs ≡ take place pairs ++ drop (place + 1) pairs
  ne-place = filter_sides _ pairs place (place + 1) (before is_ne) (here is_ne) (after is_ne) (omega arith) next_inside

  pub find-place : (d : List ℕ × V) → find (λ p. is_eq (key_cmp p.0 key)) pairs ≡ Some (get_or pairs place d)
  find-place d = find_place _ pairs place d (before is_eq) (ap is_eq (h.equal d)) h.inside

module _ {V : Type 0} {pairs : Pairs V} {key : List ℕ} {place : ℕ} (h : IsGapFor pairs key place) where
  low_side : (t : Ordering → Bool) → AllWithin (λ p. t (key_cmp p.0 key) ≡ t Less) pairs 0 place
  low_side t k d low high = ap t (h.less k d low high)

  high_side : (t : Ordering → Bool) → AllWithin (λ p. t (key_cmp p.0 key) ≡ t Greater) pairs place (length pairs)
  high_side t k d low high = ap t (h.greater k d low high)

  both_sides : (t : Ordering → Bool) → t Greater ≡ t Less → AllWithin (λ p. t (key_cmp p.0 key) ≡ t Less) pairs 0 (length pairs)
  both_sides t e k d low high = elim (cases_lt k place) [
    | inl lt ↦ ap t (h.less k d low lt)
    | inr ge ↦ ap t (h.greater k d ge high) ∙ e
  ]

  pub lt-gap : filter (λ p. is_lt (key_cmp p.0 key)) pairs ≡ take place pairs
  lt-gap = filter_front _ pairs place (low_side is_lt) (high_side is_lt) h.inside

  pub ge-gap : filter (λ p. is_ge (key_cmp p.0 key)) pairs ≡ drop place pairs
  ge-gap = filter_back _ pairs place (low_side is_ge) (high_side is_ge) h.inside

  pub le-gap : filter (λ p. is_le (key_cmp p.0 key)) pairs ≡ take place pairs
  le-gap = filter_front _ pairs place (low_side is_le) (high_side is_le) h.inside

  pub gt-gap : filter (λ p. is_gt (key_cmp p.0 key)) pairs ≡ drop place pairs
  gt-gap = filter_back _ pairs place (low_side is_gt) (high_side is_gt) h.inside

  pub ne-gap : filter (λ p. is_ne (key_cmp p.0 key)) pairs ≡ pairs
  ne-gap = filter_all _ pairs (both_sides is_ne refl)

  pub find-gap : find (λ p. is_eq (key_cmp p.0 key)) pairs ≡ None
  find-gap = find_nowhere _ pairs (both_sides is_eq refl)

module _ {V : Type 0} where
  -- the value that a table has at a place, and at none
  pub table_get-place : (pairs : Pairs V) (key : List ℕ) (place : ℕ) (p : List ℕ × V) → IsPlaceOf pairs key place → p ≡ get_or pairs place p → Some p.1 ≡ table_get pairs key
  table_get-place pairs key place p h e = ap (option_map (λ (q : List ℕ × V). q.1)) (ap Some e ∙ sym (find-place h p))

  pub table_get-gap : (pairs : Pairs V) (key : List ℕ) (place : ℕ) → IsGapFor pairs key place → None ≡ table_get pairs key
  table_get-gap pairs key place h = ap (option_map (λ (q : List ℕ × V). q.1)) (sym (find-gap h))

  -- the pairs after an edit at a place, and at none
  pub set-place : (pairs : Pairs V) (key : List ℕ) (place : ℕ) (p : List ℕ × V) (value : V) → IsPlaceOf pairs key place → p ≡ get_or pairs place p
      → set pairs place (p.0, value) ≡ inserted pairs key value
  set-place pairs key place p value h e =
      let same : p.0 ≡ key = ap (λ (q : List ℕ × V). q.0) e ∙ key_anti _ key (h.equal p) in
      let lt : place < length pairs = h.inside in
      rw (set_split pairs place (p.0, value) lt, lt-place h, gt-place h, add-one, same) refl

  pub insert-gap : (pairs : Pairs V) (key : List ℕ) (place : ℕ) (value : V) → IsGapFor pairs key place → insert pairs place (key, value) ≡ inserted pairs key value
  insert-gap pairs key place value h = rw (lt-gap h, gt-gap h) refl

  pub remove-place : (pairs : Pairs V) (key : List ℕ) (place : ℕ) → IsPlaceOf pairs key place → remove pairs place ≡ removed pairs key
  remove-place pairs key place h = rw (ne-place h, add-one) refl

  pub removed-gap : (pairs : Pairs V) (key : List ℕ) (place : ℕ) → IsGapFor pairs key place → pairs ≡ removed pairs key
  removed-gap pairs key place h = sym (ne-gap h)
