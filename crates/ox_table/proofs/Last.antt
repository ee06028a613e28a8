-- The last of a list, by its place.
use Rattle.std.proofs.Common.{◌≡◌, ◌∙◌, suc, ◌-◌, List, [], ◌∷◌, length, slice_get, Option, Some, None, refl, ap, arith}
use Rattle.std.specs.List.{last_or}

module _ {X : Type 0} where
  last_of_some : (o : Option X) (x : X) (xs : List X) → last_or o (x ∷ xs) ≡ slice_get (x ∷ xs) (length xs)
  last_of_some o x [] = refl
  last_of_some o x (y ∷ ys) = last_of_some (Some x) y ys

  pub last_or-place : (xs : List X) → last_or None xs ≡ slice_get xs (length xs - 1)
  last_or-place [] = refl
  last_or-place (x ∷ xs) =
      let same : length xs ≡ suc (length xs) - 1 = omega arith in
      last_of_some None x xs ∙ ap (slice_get (x ∷ xs)) same
