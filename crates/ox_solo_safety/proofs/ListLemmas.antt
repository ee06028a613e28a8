-- Lists that grow at their end.
use Rattle.std.proofs.Common.{◌≡◌, ℕ, zero, suc, ◌+◌, ◌<◌, ◌≤◌, List, [], ◌∷◌, ◌++◌, length, drop, slice_get, Some, length-append, ◌⊎◌, inl, inr, refl, ap, arith}
use Rattle.std.proofs.Math.Seq.{drop-append_seam}
use Rattle.std.proofs.lemmas.Grind.{common_steps}

pub split : (j k : ℕ) → j ≤ suc k → (j ≤ k) ⊎ (j ≡ suc k)
split j k h = grind (arith, common_steps)

-- an element of a list with one more is one of the list, or the one
pub get_more : {A : Type 0} (xs : List A) (x y : A) (i : ℕ) → slice_get (xs ++ x ∷ []) i ≡ Some y → (slice_get xs i ≡ Some y) ⊎ ((i ≡ length xs) × (x ≡ y))
get_more [] x y zero h = inr (refl, cc)
get_more [] x y (suc i) h = absurd cc
get_more (a ∷ xs) x y zero h = inl h
get_more (a ∷ xs) x y (suc i) h = elim (get_more xs x y i h) [ inl k ↦ inl k | inr p ↦ inr (ap suc p.0, p.1) ]

pub get_last : {A : Type 0} (xs : List A) (x : A) → slice_get (xs ++ x ∷ []) (length xs) ≡ Some x
get_last [] x = refl
get_last (y ∷ ys) x = get_last ys x

pub get_within : {A : Type 0} (xs : List A) (x : A) (i : ℕ) → slice_get xs i ≡ Some x → i < length xs
get_within [] x i h = absurd cc
get_within (y ∷ ys) x zero h = omega arith
get_within (y ∷ ys) x (suc i) h = omega (arith, get_within ys x i h)

pub get_some : {A : Type 0} (xs : List A) (i : ℕ) → i < length xs → (x : A) × (slice_get xs i ≡ Some x)
get_some [] i h = absurd (omega arith)
get_some (y ∷ ys) zero h = (y, refl)
get_some (y ∷ ys) (suc i) h = get_some ys i (omega arith)

-- an element of a list stays where more comes behind it
pub get_front : {A : Type 0} (xs ys : List A) (i : ℕ) (x : A) → slice_get xs i ≡ Some x → slice_get (xs ++ ys) i ≡ Some x
get_front [] ys i x h = absurd cc
get_front (a ∷ xs) ys zero x h = h
get_front (a ∷ xs) ys (suc i) x h = get_front xs ys i x h

-- an element of two lists is one of the first, or one of the second, further behind
pub get_either : {A : Type 0} (xs ys : List A) (i : ℕ) (x : A) → slice_get (xs ++ ys) i ≡ Some x → (slice_get xs i ≡ Some x) ⊎ ((j : ℕ) × (i ≡ length xs + j) × (slice_get ys j ≡ Some x))
get_either [] ys i x h = inr (i, omega arith, h)
get_either (a ∷ xs) ys zero x h = inl h
get_either (a ∷ xs) ys (suc i) x h = elim (get_either xs ys i x h) [ inl k ↦ inl k | inr p ↦ inr (p.0, omega (arith, p.1), p.2) ]

pub drop_last : {A : Type 0} (n : ℕ) (xs ys : List A) → n ≡ length xs → drop n (xs ++ ys) ≡ ys
drop_last n xs ys is = rw is (drop-append_seam xs ys)

pub longer_by_one : {A : Type 0} (xs : List A) (x : A) → length (xs ++ x ∷ []) ≡ length xs + 1
longer_by_one xs x = length-append xs (x ∷ [])

pub some_is : {A : Type 0} (x y : A) → Some x ≡ Some y → x ≡ y
some_is x y e = cc
