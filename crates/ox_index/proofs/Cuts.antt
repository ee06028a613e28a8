-- What a filter gives of a list that is cut where a test begins to fail.
use Rattle.std.proofs.Common.{◌≡◌, ℕ, zero, suc, ◌-◌, Bool, true, false, List, [], ◌∷◌, length, take, drop, filter, map, refl, ap, arith, inl, inr}
use Rattle.std.specs.Prelude.{not, ◌&&◌}
use Rattle.std.specs.Option.{option_map}
use Rattle.std.specs.List.{AllWithin}
use Rattle.std.proofs.lemmas.Bool.{cases_Bool}
use Rattle.ox_types.specs.Lists.{first_of, last_of, IsCut}

nil_take : {X : Type 0} (k : ℕ) → [] ≡ take {A = X} k []
nil_take zero = refl
nil_take (suc k) = refl

module _ {X : Type 0} (t : X → Bool) where
  -- what is left behind some first items
  pub filter_window : (xs : List X) (start n : ℕ) → AllWithin (λ x. t x ≡ true) xs 0 n → AllWithin (λ x. t x ≡ false) xs n (length xs) → filter t (drop start xs) ≡ take (n - start) (drop start xs)
  filter_window [] zero n f g = nil_take (n - 0)
  filter_window [] (suc start) n f g = nil_take (n - suc start)
  filter_window (x ∷ xs) zero zero f g =
      let first : t x ≡ false = g 0 x (omega arith) (omega arith) in
      rw first (filter_window xs zero zero (λ k d low high. absurd (omega arith)) (λ k d low high. g (suc k) d (omega arith) (omega arith)))
  filter_window (x ∷ xs) zero (suc n) f g =
      let first : t x ≡ true = f 0 x (omega arith) (omega arith) in
      let all : suc n - 0 ≡ suc n = omega arith in
      let others : n - 0 ≡ n = omega arith in
      let rest = filter_window xs zero n (λ k d low high. f (suc k) d (omega arith) (omega arith)) (λ k d low high. g (suc k) d (omega arith) (omega arith)) in
      rw (all, first) (ap (λ (ys : List X). x ∷ ys) (rw others at rest))
  filter_window (x ∷ xs) (suc start) zero f g =
      let none : zero - suc start ≡ zero - start = omega arith in
      rw none (filter_window xs start zero (λ k d low high. absurd (omega arith)) (λ k d low high. g (suc k) d (omega arith) (omega arith)))
  filter_window (x ∷ xs) (suc start) (suc n) f g =
      let same : suc n - suc start ≡ n - start = omega arith in
      rw same (filter_window xs start n (λ k d low high. f (suc k) d (omega arith) (omega arith)) (λ k d low high. g (suc k) d (omega arith) (omega arith)))

  filter_back : (xs : List X) (n : ℕ) → AllWithin (λ x. t x ≡ true) xs 0 n → AllWithin (λ x. t x ≡ false) xs n (length xs) → filter (λ x. not (t x)) xs ≡ drop n xs
  filter_back [] zero f g = refl
  filter_back [] (suc n) f g = refl
  filter_back (x ∷ xs) zero f g =
      let first : t x ≡ false = g 0 x (omega arith) (omega arith) in
      rw first (ap (λ (ys : List X). x ∷ ys) (filter_back xs zero (λ k d low high. absurd (omega arith)) (λ k d low high. g (suc k) d (omega arith) (omega arith))))
  filter_back (x ∷ xs) (suc n) f g =
      let first : t x ≡ true = f 0 x (omega arith) (omega arith) in
      rw first (filter_back xs n (λ k d low high. f (suc k) d (omega arith) (omega arith)) (λ k d low high. g (suc k) d (omega arith) (omega arith)))

module _ {X : Type 0} (t : X → Bool) (xs : List X) (n : ℕ) (h : IsCut t xs n) where
  pub cut_front : filter t xs ≡ take n xs
  cut_front =
      let all : n - 0 ≡ n = omega arith in
      rw all at (filter_window t xs 0 n h.front h.back)

  pub cut_back : filter (λ x. not (t x)) xs ≡ drop n xs
  cut_back = filter_back t xs n h.front h.back

  -- those that pass behind some first ones
  pub cut_window : (start : ℕ) → filter t (drop start xs) ≡ take (n - start) (drop start xs)
  cut_window start = filter_window t xs start n h.front h.back

module _ {X : Type 0} where
  -- filters by tests that agree
  pub filter_alike : (p q : X → Bool) → ((x : X) → p x ≡ q x) → (xs : List X) → filter p xs ≡ filter q xs
  filter_alike p q e [] = refl
  filter_alike p q e (x ∷ xs) = elim (cases_Bool (q x)) [
    | inl passes ↦ rw (e x, passes) (ap (λ (ys : List X). x ∷ ys) (filter_alike p q e xs))
    | inr fails ↦ rw (e x, fails) (filter_alike p q e xs)
  ]

  -- one filter behind the other
  pub filter_both : (p q : X → Bool) (xs : List X) → filter p (filter q xs) ≡ filter (λ x. q x && p x) xs
  filter_both p q [] = refl
  filter_both p q (x ∷ xs) = elim (cases_Bool (q x)) [
    | inl passes ↦ elim (cases_Bool (p x)) [
      | inl both ↦ rw (passes, both) (ap (λ (ys : List X). x ∷ ys) (filter_both p q xs))
      | inr one ↦ rw (passes, one) (filter_both p q xs)
    ]
    | inr fails ↦ rw fails (filter_both p q xs)
  ]

module _ {X Y : Type 0} (f : X → Y) where
  pub filter_map_first : (p : Y → Bool) (xs : List X) → filter p (map f xs) ≡ map f (filter (λ x. p (f x)) xs)
  filter_map_first p [] = refl
  filter_map_first p (x ∷ xs) = elim (cases_Bool (p (f x))) [
    | inl passes ↦ rw passes (ap (λ (ys : List Y). f x ∷ ys) (filter_map_first p xs))
    | inr fails ↦ rw fails (filter_map_first p xs)
  ]

  pub first_of-map : (xs : List X) → first_of (map f xs) ≡ option_map f (first_of xs)
  first_of-map [] = refl
  first_of-map (x ∷ xs) = refl

  pub last_of-map : (xs : List X) → last_of (map f xs) ≡ option_map f (last_of xs)
  last_of-map [] = refl
  last_of-map (x ∷ []) = refl
  last_of-map (x ∷ y ∷ xs) = last_of-map (y ∷ xs)

module _ {X Y Z : Type 0} (f : X → Y) (g : Y → Z) where
  pub map_both : (xs : List X) → map g (map f xs) ≡ map (λ x. g (f x)) xs
  map_both [] = refl
  map_both (x ∷ xs) = ap (λ (zs : List Z). g (f x) ∷ zs) (map_both xs)
