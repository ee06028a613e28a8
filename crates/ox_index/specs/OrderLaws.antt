-- The order of added entries tells every two of them apart, and edits keep a list in it.
use Rattle.std.proofs.Common.{◌≡◌, ◌∙◌, ℕ, zero, suc, Bool, List, [], ◌∷◌, ◌++◌, drop, filter, ap, inl, inr}
use Rattle.std.specs.Ordering.{is_lt, is_gt, ordering_reverse}
use Rattle.std.specs.FinMap.{nat_cmp-IsAntisymmetric, slice_cmp-IsAntisymmetric}
use Rattle.std.specs.declared.cmp.Ordering.TheVariants.{Less, Equal, Greater}
use Rattle.std.proofs.lemmas.Bool.{cases_Bool}
use Rattle.ox_types.specs.OrderLaws.{key_anti}
use Rattle.ox_types.specs.Comparisons.{then_first, then_second, less_of, greater_of}
use Rattle.ox_index.specs.declared.added.Added.{Added}
use Rattle.ox_index.specs.Order.{entry_cmp, added_cmp, StandsBefore, IsInOrder}
use Rattle.ox_index.specs.OrderTotal.{added_total}
use Rattle.ox_index.specs.Pairs.{with_added, without_added}

-- entries that tie are the same
pub added_anti : (a b : Added) → added_cmp a b ≡ Equal → a ≡ b
added_anti a b e =
    let entries : entry_cmp a.entry b.entry ≡ Equal = then_first _ _ e in
    let names : a.entry.name ≡ b.entry.name = slice_cmp-IsAntisymmetric nat_cmp-IsAntisymmetric a.entry.name b.entry.name (then_first _ _ entries) in
    let seconds : a.entry.key ≡ b.entry.key = key_anti a.entry.key b.entry.key (then_second _ _ entries) in
    let keys : a.key ≡ b.key = key_anti a.key b.key (then_second _ _ e) in
    λ i. record { entry = record { name = names i; key = seconds i }; key = keys i }

-- the comparison turned round
pub gt_after : (a b : Added) → added_cmp a b ≡ Less → added_cmp b a ≡ Greater
gt_after a b e = added_total.antisymm b a ∙ ap ordering_reverse e

pub lt_after : (a b : Added) → added_cmp a b ≡ Greater → added_cmp b a ≡ Less
lt_after a b e = added_total.antisymm b a ∙ ap ordering_reverse e

-- what is less than the first is less than all
pub before_earlier : (a b : Added) (xs : List Added) → added_cmp a b ≡ Less → StandsBefore b xs → StandsBefore a xs
before_earlier a b [] lt h = tt
before_earlier a b (x ∷ xs) lt h = (added_total.trans a b x lt h.0, before_earlier a b xs lt h.1)

pub in_order-drop : (n : ℕ) (xs : List Added) → IsInOrder xs → IsInOrder (drop n xs)
in_order-drop zero xs h = h
in_order-drop (suc n) [] h = h
in_order-drop (suc n) (x ∷ xs) h = in_order-drop n xs h.1

before-filter : (t : Added → Bool) (a : Added) (xs : List Added) → StandsBefore a xs → StandsBefore a (filter t xs)
before-filter t a [] h = tt
before-filter t a (x ∷ xs) h = elim (cases_Bool (t x)) [
  | inl passes ↦ rw passes (h.0, before-filter t a xs h.1)
  | inr fails ↦ rw fails (before-filter t a xs h.1)
]

-- what a filter leaves still stands in order
pub in_order-filter : (t : Added → Bool) (xs : List Added) → IsInOrder xs → IsInOrder (filter t xs)
in_order-filter t [] h = tt
in_order-filter t (x ∷ xs) h = elim (cases_Bool (t x)) [
  | inl passes ↦ rw passes (before-filter t x xs h.0, in_order-filter t xs h.1)
  | inr fails ↦ rw fails (in_order-filter t xs h.1)
]

-- each stands before a
abbrev StandsAfter : Added → List Added → Type 0
StandsAfter a [] = Unit {0}
StandsAfter a (x ∷ xs) = (added_cmp x a ≡ Less) × StandsAfter a xs

after-lt : (a : Added) (xs : List Added) → StandsAfter a (filter (λ x. is_lt (added_cmp x a)) xs)
after-lt a [] = tt
after-lt a (x ∷ xs) = elim (cases_Bool (is_lt (added_cmp x a))) [
  | inl passes ↦ rw passes (less_of _ passes, after-lt a xs)
  | inr fails ↦ rw fails (after-lt a xs)
]

before-gt : (a : Added) (xs : List Added) → StandsBefore a (filter (λ x. is_gt (added_cmp x a)) xs)
before-gt a [] = tt
before-gt a (x ∷ xs) = elim (cases_Bool (is_gt (added_cmp x a))) [
  | inl passes ↦ rw passes (lt_after x a (greater_of _ passes), before-gt a xs)
  | inr fails ↦ rw fails (before-gt a xs)
]

before-between : (b a : Added) (xs ys : List Added) → StandsBefore b xs → added_cmp b a ≡ Less → StandsBefore a ys → StandsBefore b (xs ++ a ∷ ys)
before-between b a [] ys x lt y = (lt, before_earlier b a ys lt y)
before-between b a (x ∷ xs) ys h lt y = (h.0, before-between b a xs ys h.1 lt y)

in_order-between : (a : Added) (xs ys : List Added) → IsInOrder xs → IsInOrder ys → StandsAfter a xs → StandsBefore a ys → IsInOrder (xs ++ a ∷ ys)
in_order-between a [] ys x y low high = (high, y)
in_order-between a (x ∷ xs) ys h y low high = (before-between x a xs ys h.0 low.0 high, in_order-between a xs ys h.1 y low.1 high)

-- an addition keeps the order
pub in_order-with : (a : Added) (xs : List Added) → IsInOrder xs → IsInOrder (with_added a xs)
in_order-with a xs h = in_order-between a _ _ (in_order-filter _ xs h) (in_order-filter _ xs h) (after-lt a xs) (before-gt a xs)

pub in_order-without : (a : Added) (xs : List Added) → IsInOrder xs → IsInOrder (without_added a xs)
in_order-without a xs h = in_order-filter _ xs h
