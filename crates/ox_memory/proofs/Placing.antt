-- Writes one after another.
use Rattle.std.proofs.Common.{Result, Ok, Err, IsOk, OnOk, ◌≡◌, ℕ, ◌+◌, ◌-◌, ◌≤◌, max, List, [], ◌∷◌, ◌++◌, length, take, drop, get_or, replicate, fold, sym, ◌∙◌, ap, subst, arith, length-append, length-drop}
use Rattle.std.proofs.Math.Seq.{take-length}
use Rattle.std.proofs.lemmas.List.{length-take-le, length-replicate}
use Rattle.ox_memory.specs.Log.{put, wrote, tore, Fits}
use Rattle.ox_memory.specs.declared.log.Call.{Call}
use Rattle.ox_memory.specs.declared.log.Call.TheVariants.{Write, Sync, Crash}

pub length-put : (file : List ℕ) (at : ℕ) (bytes : List ℕ) → at ≤ length file → length (put file at bytes) ≡ max (length file) (at + length bytes)
length-put file at bytes le =
    let whole : length (put file at bytes) ≡ length (take at file ++ bytes) + length (drop (at + length bytes) file) = length-append (take at file ++ bytes) (drop (at + length bytes) file) in
    let front : length (take at file ++ bytes) ≡ length (take at file) + length bytes = length-append (take at file) bytes in
    let taken : length (take at file) ≡ at = length-take-le at file le in
    let dropped : length (drop (at + length bytes) file) ≡ length file - (at + length bytes) = length-drop (at + length bytes) file in
    omega arith

pub grows : (file : List ℕ) (writes : List Call) → Fits file writes → length file ≤ length (fold wrote file writes)
grows file [] fits = omega arith
grows file (Write at bytes ∷ writes) fits =
    let more : length (put file at bytes) ≤ length (fold wrote (put file at bytes) writes) = grows (put file at bytes) writes fits.1 in
    let long : length (put file at bytes) ≡ max (length file) (at + length bytes) = length-put file at bytes fits.0 in
    omega arith
grows file (Sync ∷ writes) fits = grows file writes fits
grows file (Crash image ∷ writes) fits = grows file writes fits

-- on a file of the same length, the same writes fit and make it as long
pub record AsLong (one two : List ℕ) (writes : List Call) : Type 0 where
  pub fits : Fits two writes
  pub long : length (fold wrote one writes) ≡ length (fold wrote two writes)

pub same_length : (one two : List ℕ) (writes : List Call) → length one ≡ length two → Fits one writes → AsLong one two writes
same_length one two [] same fits = record { fits = tt; long = same }
same_length one two (Write at bytes ∷ writes) same fits =
    let le : at ≤ length two = let first = fits.0 in omega arith in
    let one_long = length-put one at bytes fits.0 in
    let two_long = length-put two at bytes le in
    let rest = same_length (put one at bytes) (put two at bytes) writes (omega arith) fits.1 in
    record { fits = (le, rest.fits); long = rest.long }
same_length one two (Sync ∷ writes) same fits = let rest = same_length one two writes same fits in record { fits = rest.fits; long = rest.long }
same_length one two (Crash image ∷ writes) same fits = let rest = same_length one two writes same fits in record { fits = rest.fits; long = rest.long }

-- ones in place of the bytes make a file as long
pub put_ones_long : (file : List ℕ) (at : ℕ) (bytes : List ℕ) → at ≤ length file → length (put file at bytes) ≡ length (put file at (replicate (length bytes) 1))
put_ones_long file at bytes le =
    let one = length-put file at bytes le in
    let two = length-put file at (replicate (length bytes) 1) le in
    let ones : length (replicate {A = ℕ} (length bytes) 1) ≡ length bytes = length-replicate {A = ℕ} (length bytes) 1 in
    omega arith

pub after_ones : (file : List ℕ) (at : ℕ) (bytes : List ℕ) (writes : List Call) → at ≤ length file → Fits (put file at bytes) writes → AsLong (put file at bytes) (put file at (replicate (length bytes) 1)) writes
after_ones file at bytes writes le fits = same_length (put file at bytes) (put file at (replicate (length bytes) 1)) writes (put_ones_long file at bytes le) fits

-- the first of some calls, and the others
pub first_of : (left : List Call) (call : Call) → 1 ≤ length left → call ≡ get_or left 0 call → left ≡ call ∷ take (length left - 1) (drop 1 left)
first_of [] call long is = absurd (omega arith)
first_of (x ∷ left) call long is =
    let n : length (x ∷ left) - 1 ≡ length left = omega arith in
    let whole : take (length (x ∷ left) - 1) left ≡ left = ap (λ (k : ℕ). take k left) n ∙ take-length left in
    ap (λ (c : Call). c ∷ left) (sym is) ∙ ap (λ (l : List Call). call ∷ l) (sym whole)

-- one write of those that are left
module _ (file : List ℕ) (left rest : List Call) (at : ℕ) (bytes : List ℕ) (is : left ≡ Write at bytes ∷ rest) (fits : Fits file left) where
  fits_cons : Fits file (Write at bytes ∷ rest)
  fits_cons = subst (λ (l : List Call). Fits file l) is fits

  pub place : at ≤ length file
  place = fits_cons.0

  pub within : (room : ℕ) → length (fold wrote file left) ≤ room → at + length bytes ≤ room
  within room end =
      let same : length (fold wrote file left) ≡ length (fold wrote (put file at bytes) rest) = ap (λ (l : List Call). length (fold wrote file l)) is in
      let more : length (put file at bytes) ≤ length (fold wrote (put file at bytes) rest) = grows (put file at bytes) rest fits_cons.1 in
      let long : length (put file at bytes) ≡ max (length file) (at + length bytes) = length-put file at bytes fits_cons.0 in
      omega arith

  pub next_put : (new : List ℕ) → new ≡ put file at bytes → (fold wrote new rest ≡ fold wrote file left) × Fits new rest
  next_put new new_is =
      (ap (λ (f : List ℕ). fold wrote f rest) new_is ∙ ap (λ (l : List Call). fold wrote file l) (sym is), subst (λ (f : List ℕ). Fits f rest) (sym new_is) fits_cons.1)

  pub next_torn : (new : List ℕ) → new ≡ put file at (replicate (length bytes) 1) → (fold tore new rest ≡ fold tore file left) × Fits new rest × (length (fold wrote new rest) ≡ length (fold wrote file left))
  next_torn new new_is =
      let long = after_ones file at bytes rest fits_cons.0 fits_cons.1 in (
        ap (λ (f : List ℕ). fold tore f rest) new_is ∙ ap (λ (l : List Call). fold tore file l) (sym is),
        subst (λ (f : List ℕ). Fits f rest) (sym new_is) long.fits,
        ap (λ (f : List ℕ). length (fold wrote f rest)) new_is ∙ sym long.long ∙ ap (λ (l : List Call). length (fold wrote file l)) (sym is),
      )

pub ok_gives : {T E : Type 0} (P : Type 0) (r : Result T E) → IsOk r → OnOk r P → P
ok_gives P (Ok x) is fact = fact
ok_gives P (Err e) is fact = cc
