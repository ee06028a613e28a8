-- What a filter gives of a list whose elements pass or fail in runs.
use Rattle.std.proofs.Common.{◌≡◌, ℕ, zero, suc, ◌+◌, ◌<◌, ◌≤◌, Bool, true, false, List, [], ◌∷◌, ◌++◌, length, get_or, take, drop, filter, find, slice_get, Some, None, refl, ap, arith, inl, inr}
use Rattle.std.proofs.lemmas.Bool.{cases_Bool}
use Rattle.std.specs.List.{AllWithin}

module _ {X : Type 0} (p : X → Bool) where
  -- each element passes, or each fails
  pub filter_all : (xs : List X) → AllWithin (λ x. p x ≡ true) xs 0 (length xs) → filter p xs ≡ xs
  filter_all [] h = refl
  filter_all (x ∷ xs) h =
      let first : p x ≡ true = h 0 x (omega arith) (omega arith) in
      rw first (ap (λ (ys : List X). x ∷ ys) (filter_all xs (λ k d low high. h (suc k) d (omega arith) (omega arith))))

  pub filter_none : (xs : List X) → AllWithin (λ x. p x ≡ false) xs 0 (length xs) → filter p xs ≡ []
  filter_none [] h = refl
  filter_none (x ∷ xs) h =
      let first : p x ≡ false = h 0 x (omega arith) (omega arith) in
      rw first (filter_none xs (λ k d low high. h (suc k) d (omega arith) (omega arith)))

  -- the elements of one run pass
  pub filter_run : (xs : List X) (start n : ℕ) → AllWithin (λ x. p x ≡ false) xs 0 start → AllWithin (λ x. p x ≡ true) xs start (start + n)
      → AllWithin (λ x. p x ≡ false) xs (start + n) (length xs) → start + n ≤ length xs → filter p xs ≡ take n (drop start xs)
  filter_run [] zero zero f g h e = refl
  filter_run [] zero (suc n) f g h e = absurd (omega arith)
  filter_run [] (suc start) n f g h e = absurd (omega arith)
  filter_run (x ∷ xs) zero zero f g h e = filter_none (x ∷ xs) (λ k d low high. h k d (omega arith) high)
  filter_run (x ∷ xs) zero (suc n) f g h e =
      let first : p x ≡ true = g 0 x (omega arith) (omega arith) in
      let rest = filter_run xs zero n (λ k d low high. absurd (omega arith)) (λ k d low high. g (suc k) d (omega arith) (omega arith))
      (λ k d low high. h (suc k) d (omega arith) (omega arith)) (omega arith) in
      rw first (ap (λ (ys : List X). x ∷ ys) rest)
  filter_run (x ∷ xs) (suc start) n f g h e =
      let first : p x ≡ false = f 0 x (omega arith) (omega arith) in
      let rest = filter_run xs start n (λ k d low high. f (suc k) d (omega arith) (omega arith)) (λ k d low high. g (suc k) d (omega arith) (omega arith))
      (λ k d low high. h (suc k) d (omega arith) (omega arith)) (omega arith) in
      rw first rest

  -- the elements on both sides of a run pass
  pub filter_sides : (xs : List X) (start end : ℕ) → AllWithin (λ x. p x ≡ true) xs 0 start → AllWithin (λ x. p x ≡ false) xs start end
      → AllWithin (λ x. p x ≡ true) xs end (length xs) → start ≤ end → end ≤ length xs → filter p xs ≡ take start xs ++ drop end xs
  filter_sides [] zero zero f g h o e = refl
  filter_sides [] zero (suc end) f g h o e = absurd (omega arith)
  filter_sides [] (suc start) end f g h o e = absurd (omega arith)
  filter_sides (x ∷ xs) zero zero f g h o e = filter_all (x ∷ xs) h
  filter_sides (x ∷ xs) zero (suc end) f g h o e =
      let first : p x ≡ false = g 0 x (omega arith) (omega arith) in
      let rest = filter_sides xs zero end (λ k d low high. absurd (omega arith)) (λ k d low high. g (suc k) d (omega arith) (omega arith))
      (λ k d low high. h (suc k) d (omega arith) (omega arith)) (omega arith) (omega arith) in
      rw first rest
  filter_sides (x ∷ xs) (suc start) zero f g h o e = absurd (omega arith)
  filter_sides (x ∷ xs) (suc start) (suc end) f g h o e =
      let first : p x ≡ true = f 0 x (omega arith) (omega arith) in
      let rest = filter_sides xs start end (λ k d low high. f (suc k) d (omega arith) (omega arith)) (λ k d low high. g (suc k) d (omega arith) (omega arith))
      (λ k d low high. h (suc k) d (omega arith) (omega arith)) (omega arith) (omega arith) in
      rw first (ap (λ (ys : List X). x ∷ ys) rest)

  -- the first elements pass, or the last
  pub filter_front : (xs : List X) (n : ℕ) → AllWithin (λ x. p x ≡ true) xs 0 n → AllWithin (λ x. p x ≡ false) xs n (length xs) → n ≤ length xs → filter p xs ≡ take n xs
  filter_front xs n f g e = filter_run xs 0 n (λ k d low high. absurd (omega arith)) (λ k d low high. f k d low (omega arith)) (λ k d low high. g k d (omega arith) high) (omega arith)

  pub filter_back : (xs : List X) (n : ℕ) → AllWithin (λ x. p x ≡ false) xs 0 n → AllWithin (λ x. p x ≡ true) xs n (length xs) → n ≤ length xs → filter p xs ≡ drop n xs
  filter_back xs n f g e = filter_sides xs 0 n (λ k d low high. absurd (omega arith)) f g (omega arith) e

  -- the first that passes stands at this place, or none passes
  pub find_place : (xs : List X) (n : ℕ) (d : X) → AllWithin (λ x. p x ≡ false) xs 0 n → p (get_or xs n d) ≡ true → n < length xs → find p xs ≡ Some (get_or xs n d)
  find_place [] n d f g h = absurd (omega arith)
  find_place (x ∷ xs) zero d f g h = rw g refl
  find_place (x ∷ xs) (suc n) d f g h =
      let first : p x ≡ false = f 0 x (omega arith) (omega arith) in
      rw first (find_place xs n d (λ k e low high. f (suc k) e (omega arith) (omega arith)) g (omega arith))

  pub find_nowhere : (xs : List X) → AllWithin (λ x. p x ≡ false) xs 0 (length xs) → find p xs ≡ None
  find_nowhere [] f = refl
  find_nowhere (x ∷ xs) f =
      let first : p x ≡ false = f 0 x (omega arith) (omega arith) in
      rw first (find_nowhere xs (λ k e low high. f (suc k) e (omega arith) (omega arith)))

  -- the first that passes is the first of those that pass
  pub find_first : (xs : List X) → find p xs ≡ slice_get (filter p xs) 0
  find_first [] = refl
  find_first (x ∷ xs) = elim (cases_Bool (p x)) [
    | inl passes ↦ rw passes refl
    | inr fails ↦ rw fails (find_first xs)
  ]
