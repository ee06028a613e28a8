-- The ends of a list, and where a test cuts it.
use Rattle.std.specs.Prelude.{◌≡◌, ℕ, ◌≤◌, Bool, true, false, List, [], ◌∷◌, length, Option, Some, None}
use Rattle.std.specs.List.{AllWithin}

-- the first of a list
abbrev pub first_of : {A : Type 0} → List A → Option A
first_of [] = None
first_of (x ∷ xs) = Some x

-- the last of a list
abbrev pub last_of : {A : Type 0} → List A → Option A
last_of [] = None
last_of (x ∷ []) = Some x
last_of (x ∷ y ∷ xs) = last_of (y ∷ xs)

-- the first n pass the test, and the others fail it
pub record IsCut {X : Type 0} (test : X → Bool) (xs : List X) (n : ℕ) : Type 0 where
  pub inside : n ≤ length xs
  pub front : AllWithin (λ x. test x ≡ true) xs 0 n
  pub back : AllWithin (λ x. test x ≡ false) xs n (length xs)
