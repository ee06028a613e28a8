-- The pairs of an index are those of its records, sorted.
use Rattle.std.proofs.Common.{◌≡◌, ◌∙◌, ℕ, Bool, true, false, List, [], ◌∷◌, ◌++◌, filter, refl, sym, ap, inl, inr}
use Rattle.std.specs.Prelude.{◌||◌, ◌&&◌, not, if◌then◌else◌}
use Rattle.std.specs.Cmp.{tied_itself}
use Rattle.std.specs.Cmp.Lexicographic.{texts_ties}
use Rattle.std.specs.Ordering.{is_lt, is_le, is_eq, is_gt, is_ne, ordering_reverse}
use Rattle.std.specs.declared.cmp.Ordering.{Ordering}
use Rattle.std.specs.declared.cmp.Ordering.TheVariants.{Less, Equal, Greater}
use Rattle.std.proofs.lemmas.Bool.{cases_Bool}
use Rattle.ox_types.specs.Order.{bytes_cmp}
use Rattle.ox_types.specs.Comparisons.{equal_of}
use Rattle.ox_ops.specs.Answer.{IndexPair, pair_cmp, with_pair, sorted}
use Rattle.ox_index.specs.declared.added.Added.{Added}
use Rattle.ox_index.specs.Order.{added_cmp, StandsBefore, IsInOrder}
use Rattle.ox_index.specs.OrderTotal.{name_total, added_total}
use Rattle.ox_index.specs.OrderLaws.{added_anti, gt_after, lt_after, before_earlier, in_order-with}
use Rattle.ox_index.specs.Pairs.{has_name, pair_of, pairs_under, with_added, without_added, has_added, IsDistinct, in_order_of}

-- ---- which entries there are after an edit

eq_false : (r : Ordering) → (r ≡ Equal → ⊥) → is_eq r ≡ false
eq_false Less h = refl
eq_false Equal h = absurd (h refl)
eq_false Greater h = refl

tied : (a : Added) → is_eq (added_cmp a a) ≡ true
tied a = ap is_eq (tied_itself added_total a)

-- nothing that stands behind a is a
not_behind : (a : Added) (xs : List Added) → StandsBefore a xs → has_added a xs ≡ false
not_behind a [] h = refl
not_behind a (x ∷ xs) h =
    let other : is_eq (added_cmp x a) ≡ false = ap is_eq (gt_after a x h.0) in
    rw other (not_behind a xs h.1)

-- ---- an addition puts the entry before the first one that isn't less

abbrev put : Added → List Added → List Added
put a [] = a ∷ []
put a (x ∷ xs) = if is_lt (added_cmp x a) then x ∷ put a xs else a ∷ x ∷ xs

gt_all : (a : Added) (xs : List Added) → StandsBefore a xs → filter (λ x. is_gt (added_cmp x a)) xs ≡ xs
gt_all a [] h = refl
gt_all a (x ∷ xs) h =
    let first : is_gt (added_cmp x a) ≡ true = ap is_gt (gt_after a x h.0) in
    rw first (ap (λ (ys : List Added). x ∷ ys) (gt_all a xs h.1))

lt_none : (a : Added) (xs : List Added) → StandsBefore a xs → filter (λ x. is_lt (added_cmp x a)) xs ≡ []
lt_none a [] h = refl
lt_none a (x ∷ xs) h =
    let first : is_lt (added_cmp x a) ≡ false = ap is_lt (gt_after a x h.0) in
    rw first (lt_none a xs h.1)

with_at : (a x : Added) (xs : List Added) (r : Ordering) → added_cmp x a ≡ r → IsInOrder (x ∷ xs) → has_added a (x ∷ xs) ≡ false
    → (has_added a xs ≡ false → with_added a xs ≡ put a xs) → with_added a (x ∷ xs) ≡ put a (x ∷ xs)
with_at a x xs Less e h free more = rw e (ap (λ (ys : List Added). x ∷ ys) (more (rw e at free)))
with_at a x xs Equal e h free more = cc (rw e at free)
with_at a x xs Greater e h free more =
    let after : StandsBefore a xs = before_earlier a x xs (lt_after x a e) h.0 in
    rw (e, lt_none a xs after, gt_all a xs after) refl

with_is_put : (a : Added) (xs : List Added) → IsInOrder xs → has_added a xs ≡ false → with_added a xs ≡ put a xs
with_is_put a [] h free = refl
with_is_put a (x ∷ xs) h free = with_at a x xs (added_cmp x a) refl h free (with_is_put a xs h.1)

-- ---- the pairs after an addition

abbrev pair_first : List ℕ → Added → List Added → Type 0
pair_first name a xs = with_pair (pair_of a) (pairs_under name xs) ≡ pair_of a ∷ pairs_under name xs

-- entries of one name compare as their pairs
same_name : (name : List ℕ) (a b : Added) → has_name name a ≡ true → has_name name b ≡ true → added_cmp a b ≡ pair_cmp (pair_of a) (pair_of b)
same_name name a b x y =
    let first : bytes_cmp a.entry.name name ≡ Equal = equal_of _ (sym (texts_ties a.entry.name name) ∙ x) in
    let second : bytes_cmp b.entry.name name ≡ Equal = equal_of _ (sym (texts_ties b.entry.name name) ∙ y) in
    let names : bytes_cmp a.entry.name b.entry.name ≡ Equal = name_total.congr a.entry.name name b.entry.name first
    ∙ name_total.antisymm name b.entry.name ∙ ap ordering_reverse second in
    rw names refl

-- before entries that all stand behind it, the pair is the first
goes_first : (name : List ℕ) (a : Added) (xs : List Added) → has_name name a ≡ true → StandsBefore a xs → pair_first name a xs
goes_first name a [] n h = refl
goes_first name a (x ∷ xs) n h = elim (cases_Bool (has_name name x)) [
  | inl named ↦
      let less : is_le (pair_cmp (pair_of a) (pair_of x)) ≡ true = ap is_le (sym (same_name name a x n named) ∙ h.0) in
      rw (named, less) refl
  | inr other ↦ rw other (goes_first name a xs n h.1)
]

put_at : (name : List ℕ) (a x : Added) (xs : List Added) (r : Ordering) → added_cmp x a ≡ r → has_name name a ≡ true → IsInOrder (x ∷ xs) → has_added a (x ∷ xs) ≡ false
    → (has_added a xs ≡ false → pairs_under name (put a xs) ≡ with_pair (pair_of a) (pairs_under name xs)) → pairs_under name (put a (x ∷ xs)) ≡ with_pair (pair_of a) (pairs_under name (x ∷ xs))
put_at name a x xs Less e n h free more = elim (cases_Bool (has_name name x)) [
  | inl named ↦
      let above : is_le (pair_cmp (pair_of a) (pair_of x)) ≡ false = ap is_le (sym (same_name name a x n named) ∙ gt_after x a e) in
      rw (e, named, above) (ap (λ (ps : List IndexPair). pair_of x ∷ ps) (more (rw e at free)))
  | inr other ↦ rw (e, other) (more (rw e at free))
]
put_at name a x xs Equal e n h free more = cc (rw e at free)
put_at name a x xs Greater e n h free more =
    let low = lt_after x a e in
    rw (e, n) (sym (goes_first name a (x ∷ xs) n (low, before_earlier a x xs low h.0)))

put_pairs : (name : List ℕ) (a : Added) (xs : List Added) → has_name name a ≡ true → IsInOrder xs → has_added a xs ≡ false
    → pairs_under name (put a xs) ≡ with_pair (pair_of a) (pairs_under name xs)
put_pairs name a [] n h free = rw n refl
put_pairs name a (x ∷ xs) n h free = put_at name a x xs (added_cmp x a) refl n h free (put_pairs name a xs n h.1)

put_other : (name : List ℕ) (a : Added) (xs : List Added) → has_name name a ≡ false → pairs_under name (put a xs) ≡ pairs_under name xs
put_other name a [] n = rw n refl
put_other name a (x ∷ xs) n = elim (cases_Bool (is_lt (added_cmp x a))) [
  | inl less ↦ elim (cases_Bool (has_name name x)) [
    | inl named ↦ rw (less, named) (ap (λ (ps : List IndexPair). pair_of x ∷ ps) (put_other name a xs n))
    | inr other ↦ rw (less, other) (put_other name a xs n)
  ]
  | inr more ↦ rw (more, n) refl
]

-- ---- entries that are added one after the other

pub in_order-in_order_of : (bs : List Added) → IsInOrder (in_order_of bs)
in_order-in_order_of [] = tt
in_order-in_order_of (a ∷ bs) = in_order-with a (in_order_of bs) (in_order-in_order_of bs)

-- the same entry
same : (a b : Added) → is_eq (added_cmp a b) ≡ true → a ≡ b
same a b e = added_anti a b (equal_of _ e)

has_put : (q a : Added) (xs : List Added) → has_added q (put a xs) ≡ (is_eq (added_cmp a q) || has_added q xs)
has_put q a [] = refl
has_put q a (x ∷ xs) = elim (cases_Bool (is_lt (added_cmp x a))) [
  | inl less ↦ rw (less, has_put q a xs) (swap (is_eq (added_cmp x q)) (is_eq (added_cmp a q)) (has_added q xs))
  | inr more ↦ rw more refl
]
  where
    swap : (a b c : Bool) → (a || (b || c)) ≡ (b || (a || c))
    swap true true c = refl
    swap true false c = refl
    swap false b c = refl

pub has-in_order_of : (q : Added) (bs : List Added) → IsDistinct bs → has_added q (in_order_of bs) ≡ has_added q bs
has-in_order_of q [] d = refl
has-in_order_of q (a ∷ bs) d =
    let free = has-in_order_of a bs d.1 ∙ d.0 in
    ap (has_added q) (with_is_put a (in_order_of bs) (in_order-in_order_of bs) free) ∙ has_put q a (in_order_of bs)
    ∙ ap (λ (b : Bool). is_eq (added_cmp a q) || b) (has-in_order_of q bs d.1)

-- the pairs of an index are the sorted pairs of its entries, in whatever order they were added
pub pairs_sorted : (name : List ℕ) (bs : List Added) → IsDistinct bs → pairs_under name (in_order_of bs) ≡ sorted (pairs_under name bs)
pairs_sorted name [] d = refl
pairs_sorted name (a ∷ bs) d =
    let free = has-in_order_of a bs d.1 ∙ d.0 in
    let ordered = in_order-in_order_of bs in
    let one : pairs_under name (with_added a (in_order_of bs)) ≡ pairs_under name (put a (in_order_of bs)) = ap (pairs_under name) (with_is_put a (in_order_of bs) ordered free) in
    elim (cases_Bool (has_name name a)) [
      | inl named ↦ rw named (one ∙ put_pairs name a (in_order_of bs) named ordered free ∙ ap (with_pair (pair_of a)) (pairs_sorted name bs d.1))
      | inr other ↦ rw other (one ∙ put_other name a (in_order_of bs) other ∙ pairs_sorted name bs d.1)
    ]

-- ---- one entry more or less

lt_has_gt : (r : Ordering) → (is_lt r || is_gt r) ≡ not (is_eq r)
lt_has_gt Less = refl
lt_has_gt Equal = refl
lt_has_gt Greater = refl

has_append : (q : Added) (xs ys : List Added) → has_added q (xs ++ ys) ≡ (has_added q xs || has_added q ys)
has_append q [] ys = refl
has_append q (x ∷ xs) ys = rw (has_append q xs ys) (assoc (is_eq (added_cmp x q)) (has_added q xs) (has_added q ys))
  where
    assoc : (a b c : Bool) → (a || (b || c)) ≡ ((a || b) || c)
    assoc true b c = refl
    assoc false b c = refl

filter_head : (t : Ordering → Bool) (a q : Added) (xs : List Added) (b : Bool) → t (added_cmp q a) ≡ b
    → has_added q (filter (λ x. t (added_cmp x a)) xs) ≡ (t (added_cmp q a) && has_added q xs)
    → has_added q (filter (λ x. t (added_cmp x a)) (q ∷ xs)) ≡ (t (added_cmp q a) && (is_eq (added_cmp q q) || has_added q xs))
filter_head t a q xs true e h = rw (e, tied q) refl
filter_head t a q xs false e h = rw e (rw e at h)

-- a filter by the comparison with a keeps q where it passes
has_filter : (t : Ordering → Bool) (a q : Added) (xs : List Added) → has_added q (filter (λ x. t (added_cmp x a)) xs) ≡ (t (added_cmp q a) && has_added q xs)
has_filter t a q [] = sym (none (t (added_cmp q a)))
  where
    none : (b : Bool) → (b && false) ≡ false
    none true = refl
    none false = refl
has_filter t a q (x ∷ xs) = elim (cases_Bool (is_eq (added_cmp x q))) [
  | inl here ↦
      let is = same x q here in
      rw is (filter_head t a q xs (t (added_cmp q a)) refl (has_filter t a q xs))
  | inr other ↦ elim (cases_Bool (t (added_cmp x a))) [
    | inl passes ↦ rw (passes, other) (has_filter t a q xs)
    | inr fails ↦ rw (fails, other) (has_filter t a q xs)
  ]
]

ne_turned : (a q : Added) → is_ne (added_cmp q a) ≡ not (is_eq (added_cmp a q))
ne_turned a q = ap is_ne (added_total.antisymm q a) ∙ both (added_cmp a q)
  where
    both : (r : Ordering) → is_ne (ordering_reverse r) ≡ not (is_eq r)
    both Less = refl
    both Equal = refl
    both Greater = refl

pub has-without : (a q : Added) (xs : List Added) → has_added q (without_added a xs) ≡ (not (is_eq (added_cmp a q)) && has_added q xs)
has-without a q xs = has_filter is_ne a q xs ∙ ap (λ (b : Bool). b && has_added q xs) (ne_turned a q)

pub has-with : (a q : Added) (xs : List Added) → has_added q (with_added a xs) ≡ (is_eq (added_cmp a q) || has_added q xs)
has-with a q xs =
    has_append q (filter (λ x. is_lt (added_cmp x a)) xs) (a ∷ filter (λ x. is_gt (added_cmp x a)) xs)
    ∙ (λ i. has_filter is_lt a q xs i || (is_eq (added_cmp a q) || has_filter is_gt a q xs i))
    ∙ ap (λ (r : Ordering). (is_lt r && has_added q xs) || (is_eq (added_cmp a q) || (is_gt r && has_added q xs))) (added_total.antisymm q a)
    ∙ cases (added_cmp a q) (has_added q xs)
  where
    cases : (r : Ordering) (b : Bool) → ((is_lt (ordering_reverse r) && b) || (is_eq r || (is_gt (ordering_reverse r) && b))) ≡ (is_eq r || b)
    cases Less b = refl
    cases Equal b = refl
    cases Greater true = refl
    cases Greater false = refl

-- ---- lists in order with the same entries

not_here : (a x : Added) (xs : List Added) → added_cmp a x ≡ Less → IsInOrder (x ∷ xs) → has_added a (x ∷ xs) ≡ false
not_here a x xs lt h = not_behind a (x ∷ xs) (lt, before_earlier a x xs lt h.0)

here : (x : Added) (xs : List Added) → has_added x (x ∷ xs) ≡ true
here x xs = rw (tied x) refl

-- the entries behind two equal first ones
rests : (x : Added) (xs ys : List Added) → StandsBefore x xs → StandsBefore x ys → ((q : Added) → has_added q (x ∷ xs) ≡ has_added q (x ∷ ys)) → (q : Added) → has_added q xs ≡ has_added q ys
rests x xs ys a b h q = elim (cases_Bool (is_eq (added_cmp x q))) [
  | inl first ↦
      let is = same x q first in
      rw (← is) (not_behind x xs a ∙ sym (not_behind x ys b))
  | inr other ↦ rw other at (h q)
]

same_firsts : (x y : Added) (xs ys : List Added) (r : Ordering) → added_cmp x y ≡ r → IsInOrder (x ∷ xs) → IsInOrder (y ∷ ys)
    → ((q : Added) → has_added q (x ∷ xs) ≡ has_added q (y ∷ ys)) → (((q : Added) → has_added q xs ≡ has_added q ys) → xs ≡ ys) → x ∷ xs ≡ y ∷ ys
same_firsts x y xs ys Less r a b h more = cc (sym (here x xs) ∙ h x ∙ not_here x y ys r b)
same_firsts x y xs ys Greater r a b h more = cc (sym (here y ys) ∙ sym (h y) ∙ not_here y x xs (lt_after x y r) a)
same_firsts x y xs ys Equal r a b h more =
    let is = added_anti x y r in
    let before : StandsBefore x ys = rw is b.0 in
    let all = rw (← is) at h in
    λ i. is i ∷ more (rests x xs ys a.0 before all) i

pub told_by_entries : (xs ys : List Added) → IsInOrder xs → IsInOrder ys → ((q : Added) → has_added q xs ≡ has_added q ys) → xs ≡ ys
told_by_entries [] [] a b h = refl
told_by_entries [] (y ∷ ys) a b h = cc (h y ∙ here y ys)
told_by_entries (x ∷ xs) [] a b h = cc (sym (h x) ∙ here x xs)
told_by_entries (x ∷ xs) (y ∷ ys) a b h = same_firsts x y xs ys (added_cmp x y) refl a b h (told_by_entries xs ys a.1 b.1)
