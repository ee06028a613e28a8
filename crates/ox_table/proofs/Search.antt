-- What a binary search finds among pairs in rising order of keys.
use Rattle.std.proofs.Common.{◌≡◌, ◌∙◌, ℕ, zero, suc, ◌<◌, ◌≤◌, List, [], ◌∷◌, length, get_or, refl, sym, arith, inl, inr, Result, Ok, Err, MatchResult}
use Rattle.std.specs.List.Sorted.{IsSearchInRange, IsBinarySearchResult, IsNonDecreasingBy}
use Rattle.std.specs.Ordering.{ordering_index}
use Rattle.std.specs.Cmp.{alike_right}
use Rattle.std.specs.declared.cmp.Ordering.{Ordering}
use Rattle.std.specs.declared.cmp.Ordering.TheVariants.{Less, Equal, Greater}
use Rattle.std.proofs.lemmas.Bool.{cases_lt}
use Rattle.ox_types.specs.Order.{key_cmp, IsBefore}
use Rattle.ox_types.specs.OrderLaws.{key_total, key_turned}
use Rattle.ox_table.specs.Table.{Pairs, IsBelow, IsRising}
use Rattle.ox_table.specs.Place.{IsPlaceOf, IsGapFor}

-- the comparisons of a lesser and a greater key with a third
index_rises : (a b key : List ℕ) (r s : Ordering) → IsBefore a b → key_cmp a key ≡ r → key_cmp b key ≡ s → ordering_index r ≤ ordering_index s
index_rises a b key Less s lt x y = omega arith
index_rises a b key Equal Less lt x y = cc (sym x ∙ key_total.trans a b key lt y)
index_rises a b key Equal Equal lt x y = omega arith
index_rises a b key Equal Greater lt x y = omega arith
index_rises a b key Greater Less lt x y = cc (sym x ∙ key_total.trans a b key lt y)
index_rises a b key Greater Equal lt x y = cc (sym x ∙ (sym (alike_right key_total b key a y) ∙ lt))
index_rises a b key Greater Greater lt x y = omega arith

module _ {V : Type 0} where
  pub below_at : (key : List ℕ) (pairs : Pairs V) → IsBelow key pairs → (k : ℕ) (d : List ℕ × V) → k < length pairs → IsBefore key (get_or pairs k d).0
  below_at key [] b k d lt = absurd (omega arith)
  below_at key (p ∷ pairs) b zero d lt = b.0
  below_at key (p ∷ pairs) b (suc k) d lt = below_at key pairs b.1 k d (omega arith)

  -- of two places the earlier has the lesser key
  pub rising_at : (pairs : Pairs V) → IsRising pairs → (i j : ℕ) (d : List ℕ × V) → i < j → j < length pairs → IsBefore (get_or pairs i d).0 (get_or pairs j d).0
  rising_at [] r i j d lt h = absurd (omega arith)
  rising_at (p ∷ pairs) r i zero d lt h = absurd (omega arith)
  rising_at (p ∷ pairs) r zero (suc j) d lt h = below_at p.0 pairs r.0 j d (omega arith)
  rising_at (p ∷ pairs) r (suc i) (suc j) d lt h = rising_at pairs r.1 i j d (omega arith) (omega arith)

  pub comparisons_rise : (pairs : Pairs V) → IsRising pairs → (key : List ℕ) → IsNonDecreasingBy (λ p. ordering_index (key_cmp p.0 key)) pairs
  comparisons_rise pairs r key i j d le h = elim (cases_lt i j) [
    | inl lt ↦ index_rises _ _ key _ _ (rising_at pairs r i j d lt h) refl refl
    | inr ge ↦
        let same : i ≡ j = omega arith in
        rw same (omega arith)
  ]

  pub searched : (pairs : Pairs V) → IsRising pairs → (key : List ℕ) (r : Result ℕ ℕ) → IsSearchInRange r (length pairs)
      → IsBinarySearchResult (λ p. key_cmp p.0 key) pairs r → MatchResult r (IsPlaceOf pairs key) (IsGapFor pairs key)
  searched pairs r key (Ok place) inside equal = record {
    inside = inside;
    less = λ k d low lt. sym (alike_right key_total _ key _ (equal d)) ∙ rising_at pairs r k place d lt inside;
    equal = equal;
    greater = λ k d low lt. (key_turned _ key).1 (sym (key_total.congr _ key _ (equal d)) ∙ rising_at pairs r place k d (omega arith) lt);
  }
  searched pairs r key (Err place) inside parted =
      let halves = parted (comparisons_rise pairs r key) in
      record { inside = inside; less = halves.0; greater = halves.1 }
