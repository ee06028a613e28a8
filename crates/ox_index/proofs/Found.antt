-- What a comparison of secondary keys finds in a list of added entries that stands in order.
use Rattle.std.proofs.Common.{◌≡◌, ◌∙◌, ℕ, zero, suc, ◌-◌, Bool, false, List, [], ◌∷◌, length, take, drop, filter, slice_get, refl, sym, ap, arith, inl, inr}
use Rattle.std.specs.Prelude.{not, ◌&&◌}
use Rattle.std.specs.Str.{bytes_eq}
use Rattle.std.specs.Ordering.{is_lt, is_le, is_eq, ordering_then, ordering_reverse}
use Rattle.std.specs.Cmp.Lexicographic.{texts_ties}
use Rattle.std.specs.declared.cmp.Ordering.{Ordering}
use Rattle.std.specs.declared.cmp.Ordering.TheVariants as ordering
use Rattle.std.proofs.lemmas.Bool.{cases_Bool}
use Rattle.ox_types.specs.Order.{bytes_cmp, key_cmp}
use Rattle.ox_types.specs.OrderLaws.{key_total, key_ties}
use Rattle.ox_types.specs.Lists.{first_of, last_of, IsCut}
use Rattle.ox_ops.specs.declared.query.Compare.TheVariants.{Equal, Floor, Ceiling, Lower, Higher}
use Rattle.ox_index.specs.declared.added.Added.{Added}
use Rattle.ox_index.specs.Order.{entry_cmp, StandsBefore, IsInOrder}
use Rattle.ox_index.specs.OrderLaws.{in_order-drop}
use Rattle.ox_index.specs.Pairs.{has_name, found}
use Rattle.ox_index.specs.Place.{kept}
use Rattle.ox_index.proofs.Cuts.{cut_front, cut_back, filter_alike, filter_both}
use Rattle.ox_index.proofs.Orders.{GoesDown, name_lt, name_le, entry_le}

-- ---- the first and the last of those that pass

module _ (t : Added → Bool) (down : GoesDown t) where
  none_after : (a : Added) (xs : List Added) → t a ≡ false → StandsBefore a xs → filter t xs ≡ []
  none_after a [] e h = refl
  none_after a (x ∷ xs) e h = elim (cases_Bool (t x)) [
    | inl passes ↦ cc (sym e ∙ down a x h.0 passes)
    | inr fails ↦ rw fails (none_after a xs e h.1)
  ]

  first_passing : (xs : List Added) → IsInOrder xs → first_of (filter t xs) ≡ kept t (first_of xs)
  first_passing [] r = refl
  first_passing (x ∷ xs) r = elim (cases_Bool (t x)) [
    | inl passes ↦ rw passes refl
    | inr fails ↦ rw (fails, none_after x xs fails r.0) refl
  ]

  last_failing : (xs : List Added) → IsInOrder xs → last_of (filter (λ x. not (t x)) xs) ≡ kept (λ x. not (t x)) (last_of xs)
  last_failing [] r = refl
  last_failing (x ∷ []) r = elim (cases_Bool (t x)) [
    | inl passes ↦ rw passes refl
    | inr fails ↦ rw fails refl
  ]
  last_failing (x ∷ y ∷ xs) r = elim (cases_Bool (t x)) [
    | inl passes ↦ rw passes (last_failing (y ∷ xs) r.1)
    | inr fails ↦ elim (cases_Bool (t y)) [
      | inl passes ↦ cc (sym fails ∙ down x y r.0.0 passes)
      | inr other ↦
          let rest = last_failing (y ∷ xs) r.1 in
          rw (fails, other) (rw other at rest)
    ]
  ]

in_order-take : (n : ℕ) (xs : List Added) → IsInOrder xs → IsInOrder (take n xs)
in_order-take zero xs h = tt
in_order-take (suc n) [] h = tt
in_order-take (suc n) (x ∷ xs) h = (before-take n x xs h.0, in_order-take n xs h.1)
  where
    before-take : (n : ℕ) (a : Added) (xs : List Added) → StandsBefore a xs → StandsBefore a (take n xs)
    before-take zero a xs h = tt
    before-take (suc n) a [] h = tt
    before-take (suc n) a (x ∷ xs) h = (h.0, before-take n a xs h.1)

module _ (t : Added → Bool) (xs : List Added) (n : ℕ) (h : IsCut t xs n) (r : IsInOrder xs) (u : Added → Bool) (down : GoesDown u) where
  -- of those that fail t, the first that passes u
  first_behind : first_of (filter (λ x. not (t x) && u x) xs) ≡ kept u (first_of (drop n xs))
  first_behind =
      ap first_of (sym (filter_both u (λ x. not (t x)) xs) ∙ ap (filter u) (cut_back t xs n h)) ∙ first_passing u down (drop n xs) (in_order-drop n xs r)

  -- of those that pass t, the last that fails u
  last_before : last_of (filter (λ x. t x && not (u x)) xs) ≡ kept (λ x. not (u x)) (last_of (take n xs))
  last_before =
      ap last_of (sym (filter_both (λ x. not (u x)) t xs) ∙ ap (filter (λ x. not (u x))) (cut_front t xs n h)) ∙ last_failing u down (take n xs) (in_order-take n xs r)

-- ---- the tests of a comparison, where r compares the names and s the secondary keys

ceiling_test : (r s t : Ordering) → t ≡ ordering_reverse s → (is_eq r && is_le t) ≡ (not (is_lt (ordering_then r s)) && is_le r)
ceiling_test ordering.Less s t e = refl
ceiling_test ordering.Equal ordering.Less t e = rw e refl
ceiling_test ordering.Equal ordering.Equal t e = rw e refl
ceiling_test ordering.Equal ordering.Greater t e = rw e refl
ceiling_test ordering.Greater s t e = refl

higher_test : (r s t : Ordering) → t ≡ ordering_reverse s → (is_eq r && is_lt t) ≡ (not (is_le (ordering_then r s)) && is_le r)
higher_test ordering.Less s t e = refl
higher_test ordering.Equal ordering.Less t e = rw e refl
higher_test ordering.Equal ordering.Equal t e = rw e refl
higher_test ordering.Equal ordering.Greater t e = rw e refl
higher_test ordering.Greater s t e = refl

equal_test : (r s : Ordering) → (is_eq r && is_eq s) ≡ (not (is_lt (ordering_then r s)) && is_le (ordering_then r s))
equal_test ordering.Less s = refl
equal_test ordering.Equal ordering.Less = refl
equal_test ordering.Equal ordering.Equal = refl
equal_test ordering.Equal ordering.Greater = refl
equal_test ordering.Greater s = refl

floor_test : (r s : Ordering) → (is_eq r && is_le s) ≡ (is_le (ordering_then r s) && not (is_lt r))
floor_test ordering.Less s = refl
floor_test ordering.Equal ordering.Less = refl
floor_test ordering.Equal ordering.Equal = refl
floor_test ordering.Equal ordering.Greater = refl
floor_test ordering.Greater s = refl

lower_test : (r s : Ordering) → (is_eq r && is_lt s) ≡ (is_lt (ordering_then r s) && not (is_lt r))
lower_test ordering.Less s = refl
lower_test ordering.Equal ordering.Less = refl
lower_test ordering.Equal ordering.Equal = refl
lower_test ordering.Equal ordering.Greater = refl
lower_test ordering.Greater s = refl

module _ (name second : List ℕ) (xs : List Added) (n : ℕ) (r : IsInOrder xs) where
  named : (a : Added) → has_name name a ≡ is_eq (bytes_cmp a.entry.name name)
  named a = texts_ties a.entry.name name

  turned : (a : Added) → key_cmp second a.entry.key ≡ ordering_reverse (key_cmp a.entry.key second)
  turned a = key_total.antisymm second a.entry.key

  abbrev lt : Added → Bool
  lt a = is_lt (entry_cmp a.entry (record { name = name; key = second }))

  abbrev le : Added → Bool
  le a = is_le (entry_cmp a.entry (record { name = name; key = second }))

  abbrev name_is_lt : Added → Bool
  name_is_lt a = is_lt (bytes_cmp a.entry.name name)

  abbrev name_is_le : Added → Bool
  name_is_le a = is_le (bytes_cmp a.entry.name name)

  pub found_equal : IsCut lt xs n → kept le (first_of (drop n xs)) ≡ found name Equal second xs
  found_equal h =
      sym (ap first_of (filter_both (λ a. bytes_eq a.entry.key second) (has_name name) xs ∙ filter_alike _ (λ a. not (lt a) && le a)
      (λ a. rw (named a, key_ties a.entry.key second) (equal_test (bytes_cmp a.entry.name name) (key_cmp a.entry.key second))) xs)
      ∙ first_behind lt xs n h r le (entry_le (record { name = name; key = second })))

  pub found_ceiling : IsCut lt xs n → kept name_is_le (first_of (drop n xs)) ≡ found name Ceiling second xs
  found_ceiling h =
      sym (ap first_of (filter_both (λ a. is_le (key_cmp second a.entry.key)) (has_name name) xs ∙ filter_alike _ (λ a. not (lt a) && name_is_le a)
      (λ a. rw (named a) (ceiling_test (bytes_cmp a.entry.name name) (key_cmp a.entry.key second) _ (turned a))) xs)
      ∙ first_behind lt xs n h r name_is_le (name_le name))

  pub found_higher : IsCut le xs n → kept name_is_le (first_of (drop n xs)) ≡ found name Higher second xs
  found_higher h =
      sym (ap first_of (filter_both (λ a. is_lt (key_cmp second a.entry.key)) (has_name name) xs ∙ filter_alike _ (λ a. not (le a) && name_is_le a)
      (λ a. rw (named a) (higher_test (bytes_cmp a.entry.name name) (key_cmp a.entry.key second) _ (turned a))) xs)
      ∙ first_behind le xs n h r name_is_le (name_le name))

  pub found_floor : IsCut le xs n → kept (λ a. not (name_is_lt a)) (last_of (take n xs)) ≡ found name Floor second xs
  found_floor h =
      sym (ap last_of (filter_both (λ a. is_le (key_cmp a.entry.key second)) (has_name name) xs ∙ filter_alike _ (λ a. le a && not (name_is_lt a))
      (λ a. rw (named a) (floor_test (bytes_cmp a.entry.name name) (key_cmp a.entry.key second))) xs)
      ∙ last_before le xs n h r name_is_lt (name_lt name))

  pub found_lower : IsCut lt xs n → kept (λ a. not (name_is_lt a)) (last_of (take n xs)) ≡ found name Lower second xs
  found_lower h =
      sym (ap last_of (filter_both (λ a. is_lt (key_cmp a.entry.key second)) (has_name name) xs ∙ filter_alike _ (λ a. lt a && not (name_is_lt a))
      (λ a. rw (named a) (lower_test (bytes_cmp a.entry.name name) (key_cmp a.entry.key second))) xs)
      ∙ last_before lt xs n h r name_is_lt (name_lt name))

-- the last of a list, by its place
pub last_of-place : (xs : List Added) → last_of xs ≡ slice_get xs (length xs - 1)
last_of-place [] = refl
last_of-place (x ∷ []) = refl
last_of-place (x ∷ y ∷ xs) =
    let same : suc (suc (length xs)) - 1 ≡ suc (suc (length xs) - 1) = omega arith in
    rw same (last_of-place (y ∷ xs))
