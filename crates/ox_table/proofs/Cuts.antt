-- A list that is cut where a test begins to fail.
use Rattle.std.proofs.Common.{◌≡◌, ◌∙◌, ℕ, ◌+◌, ◌-◌, ◌<◌, ◌≤◌, Bool, true, false, List, length, get_or, take, drop, filter, find, slice_get, refl, sym, ap, arith, inl, inr}
use Rattle.std.specs.Prelude.{not, ◌&&◌}
use Rattle.std.specs.List.{AllWithin}
use Rattle.std.specs.Ordering.{is_lt, is_le, is_ge, is_gt, ordering_reverse}
use Rattle.std.specs.declared.cmp.Ordering.{Ordering}
use Rattle.std.specs.declared.cmp.Ordering.TheVariants.{Less, Equal, Greater}
use Rattle.std.proofs.lemmas.Bool.{cases_lt}
use Rattle.ox_types.specs.Order.{key_cmp}
use Rattle.ox_types.specs.OrderLaws.{key_total}
use Rattle.ox_types.specs.Lists.{IsCut}
use Rattle.ox_order.specs.Range.{is_from, is_up_to, in_range}
use Rattle.ox_order.specs.declared.range.KeyRange.{KeyRange}
use Rattle.ox_table.specs.Table.{Pairs}
use Rattle.ox_table.specs.Place.{IsRunOf}
use Rattle.ox_table.proofs.Filters.{filter_none, filter_run, filter_sides, filter_front, filter_back, find_first}

module _ {X : Type 0} {xs : List X} {n : ℕ} (t : X → Bool) (h : IsCut t xs n) where
  pub cut_front : filter t xs ≡ take n xs
  cut_front = filter_front t xs n h.front h.back h.inside

  -- a test that passes just where the other fails
  pub cut_back : (u : X → Bool) → ((x : X) → u x ≡ not (t x)) → filter u xs ≡ drop n xs
  cut_back u e = filter_back u xs n
      (λ k d low high. e _ ∙ ap not (h.front k d low high)) (λ k d low high. e _ ∙ ap not (h.back k d low high)) h.inside

  -- the first that it passes
  pub cut_find : (u : X → Bool) → ((x : X) → u x ≡ not (t x)) → find u xs ≡ slice_get (drop n xs) 0
  cut_find u e = find_first u xs ∙ ap (λ ys. slice_get ys 0) (cut_back u e)

  pub cut_agree : (u : X → Bool) → ((x : X) → u x ≡ t x) → IsCut u xs n
  cut_agree u e = record {
    inside = h.inside;
    front = λ k d low high. e _ ∙ h.front k d low high;
    back = λ k d low high. e _ ∙ h.back k d low high;
  }

-- the comparison turned round
turned_le : (r s : Ordering) → r ≡ ordering_reverse s → not (is_le r) ≡ is_lt s
turned_le r Less e = rw e refl
turned_le r Equal e = rw e refl
turned_le r Greater e = rw e refl

turned_lt : (r s : Ordering) → r ≡ ordering_reverse s → not (is_lt r) ≡ is_le s
turned_lt r Less e = rw e refl
turned_lt r Equal e = rw e refl
turned_lt r Greater e = rw e refl

pub not-le : (a b : List ℕ) → not (is_le (key_cmp a b)) ≡ is_lt (key_cmp b a)
not-le a b = turned_le (key_cmp a b) (key_cmp b a) (key_total.antisymm a b)

pub not-lt : (a b : List ℕ) → not (is_lt (key_cmp a b)) ≡ is_le (key_cmp b a)
not-lt a b = turned_lt (key_cmp a b) (key_cmp b a) (key_total.antisymm a b)

pub ge-not_lt : (r : Ordering) → is_ge r ≡ not (is_lt r)
ge-not_lt Less = refl
ge-not_lt Equal = refl
ge-not_lt Greater = refl

pub gt-not_le : (r : Ordering) → is_gt r ≡ not (is_le r)
gt-not_le Less = refl
gt-not_le Equal = refl
gt-not_le Greater = refl

-- a test that fails with either of two
left_fails : (a b : Bool) → not a ≡ true → (a && b) ≡ false
left_fails true b e = cc e
left_fails false b e = refl

right_fails : (a b : Bool) → b ≡ false → (a && b) ≡ false
right_fails true b e = e
right_fails false b e = refl

both_pass : (a b : Bool) → not a ≡ false → b ≡ true → (a && b) ≡ true
both_pass true b e f = f
both_pass false b e f = cc e

module _ {V : Type 0} (pairs : Pairs V) (range : KeyRange) (start end : ℕ)
    (low : IsCut (λ p. not (is_from range.lo p.0)) pairs start) (high : IsCut (λ p. is_up_to range.hi p.0) pairs end) where
  outside_low : AllWithin (λ p. in_range range p.0 ≡ false) pairs 0 start
  outside_low k d lo hi = left_fails _ _ (low.front k d lo hi)

  outside_high : AllWithin (λ p. in_range range p.0 ≡ false) pairs end (length pairs)
  outside_high k d lo hi = right_fails (is_from range.lo (get_or pairs k d).0) _ (high.back k d lo hi)

  inside_both : AllWithin (λ p. in_range range p.0 ≡ true) pairs start end
  inside_both k d lo hi =
      let inside = high.inside in
      both_pass _ _ (low.back k d lo (omega arith)) (high.front k d (omega arith) hi)

  -- the pairs of the range stand between its ends
  pub run_between : start < end → IsRunOf pairs range start end
  run_between lt =
      let inside = high.inside in
      let sum : start + (end - start) ≡ end = omega arith in
      record {
        ordered = omega arith;
        inside = inside;
        run = sym (filter_run (λ p. in_range range p.0) pairs start (end - start) outside_low
            (λ k d lo hi. inside_both k d lo (omega arith)) (λ k d lo hi. outside_high k d (omega arith) hi) (omega arith));
        others = sym (filter_sides (λ p. not (in_range range p.0)) pairs start end
            (λ k d lo hi. ap not (outside_low k d lo hi)) (λ k d lo hi. ap not (inside_both k d lo hi)) (λ k d lo hi. ap not (outside_high k d lo hi))
            (omega arith) inside);
      }

  -- no pair is in it
  nowhere : end ≤ start → AllWithin (λ p. in_range range p.0 ≡ false) pairs 0 (length pairs)
  nowhere le k d lo hi = elim (cases_lt k start) [
    | inl lt ↦ outside_low k d lo lt
    | inr ge ↦ outside_high k d (omega arith) hi
  ]

  pub run_empty : end ≤ start → IsRunOf pairs range start start
  run_empty le =
      let inside = low.inside in
      let none = nowhere le in
      let zero_long : start - start ≡ 0 = omega arith in
      record {
        ordered = omega arith;
        inside = inside;
        run = rw zero_long (sym (filter_none (λ p. in_range range p.0) pairs none));
        others = sym (filter_sides (λ p. not (in_range range p.0)) pairs start start
            (λ k d lo hi. ap not (none k d lo (omega arith))) (λ k d lo hi. absurd (omega arith)) (λ k d lo hi. ap not (none k d (omega arith) hi))
            (omega arith) inside);
      }
