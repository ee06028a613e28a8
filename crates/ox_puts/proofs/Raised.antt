-- Raising the numbers of a sequence, one after the other.
use Rattle.std.proofs.Common.{◌≡◌, ◌≤◌, ◌<◌, ◌∙◌, ◌+◌, ◌-◌, ◌^◌, ℕ, Bool, true, false, List, [], ◌∷◌, ◌++◌, Option, Some, None, Result, Ok, Err, length, drop, get_or, refl, sym, ap, arith, append_assoc, add-one, drop-cons}
use Rattle.std.specs.Prelude.{nat_le}
use Rattle.std.proofs.lemmas.Bool.Decides.{nat_tests}
use Rattle.std.proofs.lemmas.List.{append-nil}
use Rattle.ox_ops.specs.Sequence.{raised, spent_from, greatest_number, next_key, key_or_group, sequence_key, last_numbers}
use Rattle.ox_puts.specs.Search.{numbers_or_group}

-- what the loop keeps: the sums so far and those that are left, none of the former spent
pub record IsRaised (numbers deltas sums : List ℕ) (i : ℕ) : Type 0 where
  pub all : raised numbers deltas ≡ sums ++ raised (drop i numbers) (drop i deltas)
  pub spent : spent_from 0 (raised numbers deltas) ≡ spent_from i (raised (drop i numbers) (drop i deltas))

pub raised_none : (numbers deltas : List ℕ) → IsRaised numbers deltas [] 0
raised_none numbers deltas = record { all = refl; spent = refl }

next_left : (numbers deltas : List ℕ) (i : ℕ) → i < length numbers → i < length deltas → raised (drop i numbers) (drop i deltas) ≡ (get_or numbers i 0 + get_or deltas i 0) ∷ raised (drop (i + 1) numbers) (drop (i + 1) deltas)
next_left numbers deltas i a b = rw (drop-cons numbers i 0, drop-cons deltas i 0, add-one) refl

pub raised_more : (numbers deltas sums sums' : List ℕ) (i sum : ℕ) → i < length numbers → i < length deltas → IsRaised numbers deltas sums i → (get_or numbers i 0 + get_or deltas i 0 < 2 ^ 64) × (sum ≡ get_or numbers i 0 + get_or deltas i 0) → sums' ≡ sums ++ sum ∷ [] → IsRaised numbers deltas sums' (i + 1)
raised_more numbers deltas sums sums' i sum a b h small e =
    let n : ℕ = get_or numbers i 0 + get_or deltas i 0 in
    let rest : List ℕ = raised (drop (i + 1) numbers) (drop (i + 1) deltas) in
    let fits : nat_le (get_or numbers i 0 + get_or deltas i 0) greatest_number ≡ true = let s = small.0 in grind (arith, nat_tests) in
    let step : spent_from i (n ∷ rest) ≡ spent_from (i + 1) rest = rw fits refl in
    record {
      all = h.all ∙ ap (λ x. sums ++ x) (next_left numbers deltas i a b) ∙ sym (append_assoc sums (n ∷ []) rest) ∙ ap (λ x. x ++ rest) (ap (λ m. sums ++ m ∷ []) (sym small.1) ∙ sym e);
      spent = h.spent ∙ ap (spent_from i) (next_left numbers deltas i a b) ∙ step;
    }

pub raised_fails : (numbers deltas sums : List ℕ) (i : ℕ) → i < length numbers → i < length deltas → IsRaised numbers deltas sums i → ¬ (get_or numbers i 0 + get_or deltas i 0 < 2 ^ 64) → Err i ≡ numbers_or_group (raised numbers deltas) (spent_from 0 (raised numbers deltas))
raised_fails numbers deltas sums i a b h over =
    let n : ℕ = get_or numbers i 0 + get_or deltas i 0 in
    let rest : List ℕ = raised (drop (i + 1) numbers) (drop (i + 1) deltas) in
    let most : 2 ^ 64 ≤ get_or numbers i 0 + get_or deltas i 0 = omega (arith, over) in
    let great : nat_le (get_or numbers i 0 + get_or deltas i 0) greatest_number ≡ false = grind (arith, nat_tests) in
    let step : spent_from i (n ∷ rest) ≡ Some i = rw great refl in
    sym (ap (numbers_or_group (raised numbers deltas)) (h.spent ∙ ap (spent_from i) (next_left numbers deltas i a b) ∙ step))

dropped : (numbers : List ℕ) (i : ℕ) → length numbers ≤ i → drop i numbers ≡ []
dropped [] ℕ.zero l = refl
dropped [] (ℕ.suc i) l = refl
dropped (n ∷ numbers) ℕ.zero l = absurd (omega arith)
dropped (n ∷ numbers) (ℕ.suc i) l = dropped numbers i (omega arith)

none_left : (numbers : List ℕ) (i : ℕ) (deltas : List ℕ) → length numbers ≤ i → raised (drop i numbers) (drop i deltas) ≡ []
none_left numbers i deltas l = ap (λ x. raised x (drop i deltas)) (dropped numbers i l)

pub raised_all : (numbers deltas sums : List ℕ) (i : ℕ) → length numbers ≤ i → IsRaised numbers deltas sums i → Ok sums ≡ numbers_or_group (raised numbers deltas) (spent_from 0 (raised numbers deltas))
raised_all numbers deltas sums i l h =
    let none = none_left numbers i deltas l in
    let all : raised numbers deltas ≡ sums = h.all ∙ ap (λ x. sums ++ x) none ∙ append-nil sums in
    let spent : spent_from 0 (raised numbers deltas) ≡ None = h.spent ∙ ap (spent_from i) none in
    sym (ap (numbers_or_group (raised numbers deltas)) spent ∙ ap Ok all)

pub raised-length : (numbers deltas : List ℕ) → length (raised numbers deltas) ≡ length numbers
raised-length [] deltas = refl
raised-length (n ∷ numbers) [] = refl
raised-length (n ∷ numbers) (d ∷ deltas) = ap ℕ.suc (raised-length numbers deltas)

-- ---- the next key

ok_is : (a b : List ℕ) (o : Option ℕ) → Ok a ≡ numbers_or_group b o → (o ≡ None) × (a ≡ b)
ok_is a b None h = let e : a ≡ b = cc h in (refl, e)
ok_is a b (Some group) h = cc h

err_is : (g : ℕ) (b : List ℕ) (o : Option ℕ) → Err g ≡ numbers_or_group b o → o ≡ Some g
err_is g b None h = cc h
err_is g b (Some group) h = let e : group ≡ g = cc h in ap Some e

pub raised-count : (numbers last deltas : List ℕ) → Ok numbers ≡ numbers_or_group (raised last deltas) (spent_from 0 (raised last deltas)) → length numbers ≡ length last
raised-count numbers last deltas h = ap length (ok_is numbers (raised last deltas) (spent_from 0 (raised last deltas)) h).1 ∙ raised-length last deltas

pub next-found : (keys : List (List ℕ)) (prefix deltas last numbers key : List ℕ) → last ≡ last_numbers keys prefix (length deltas) → Ok numbers ≡ numbers_or_group (raised last deltas) (spent_from 0 (raised last deltas)) → key ≡ sequence_key prefix numbers → Ok key ≡ next_key keys prefix deltas
unfolding next_key
next-found keys prefix deltas last numbers key e h k =
    let is = ok_is numbers (raised last deltas) (spent_from 0 (raised last deltas)) h in
    let found : Ok key ≡ key_or_group prefix (raised last deltas) (spent_from 0 (raised last deltas)) = rw is.0 (ap Ok (k ∙ ap (sequence_key prefix) is.1)) in
    found ∙ ap (λ l. key_or_group prefix (raised l deltas) (spent_from 0 (raised l deltas))) e

pub next-spent : (keys : List (List ℕ)) (prefix deltas last : List ℕ) (group : ℕ) → last ≡ last_numbers keys prefix (length deltas) → Err group ≡ numbers_or_group (raised last deltas) (spent_from 0 (raised last deltas)) → Err group ≡ next_key keys prefix deltas
unfolding next_key
next-spent keys prefix deltas last group e h =
    let spent : Err group ≡ key_or_group prefix (raised last deltas) (spent_from 0 (raised last deltas)) = rw (err_is group (raised last deltas) (spent_from 0 (raised last deltas)) h) refl in
    spent ∙ ap (λ l. key_or_group prefix (raised l deltas) (spent_from 0 (raised l deltas))) e
