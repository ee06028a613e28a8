-- What a read takes from a source.
use Rattle.std.proofs.Common.{◌≡◌, ℕ, zero, suc, ◌+◌, ◌-◌, ◌<◌, List, [], ◌∷◌, ◌++◌, length, take, drop, refl, sym, ◌∙◌, ap, arith, length-take, length-append, length-drop}
use Rattle.std.proofs.lemmas.List.{take_at, drop-drop}

rest_after : (n : ℕ) (rest : List ℕ) → take n rest ++ drop (length (take n rest)) rest ≡ rest
rest_after zero rest = refl
rest_after (suc n) [] = refl
rest_after (suc n) (x ∷ rest) = ap (λ (l : List ℕ). x ∷ l) (rest_after n rest)

none : (n : ℕ) (rest : List ℕ) → length (take n rest) ≡ 0 → 0 < n → rest ≡ []
none n [] empty room = refl
none n (x ∷ rest) empty room = absurd (let m = length-take n (x ∷ rest) in omega arith)

drop_none : (n : ℕ) → drop {A = ℕ} n [] ≡ []
drop_none zero = refl
drop_none (suc n) = refl

pub taken : (bytes into new : List ℕ) (at n : ℕ) → n ≡ length (take (length into) (drop at bytes)) → new ≡ take (length into) (drop at bytes) ++ drop n into
    → (drop at bytes ≡ take n new ++ drop (at + n) bytes) × (n ≡ 0 → 0 < length new → drop (at + n) bytes ≡ [])
taken bytes into new at n count is =
    let rest = drop at bytes in
    let front : take n new ≡ take (length into) rest = ap (λ (l : List ℕ). take n l) is ∙ take_at (take (length into) rest) (drop n into) n (sym count) in
    let behind : drop (at + n) bytes ≡ drop n rest = sym (drop-drop n at bytes) in
    let whole : take (length into) rest ++ drop n rest ≡ rest = ap (λ (k : ℕ). take (length into) rest ++ drop k rest) count ∙ rest_after (length into) rest in
    let long : length new ≡ length (take (length into) rest) + length (drop n into) = ap length is ∙ length-append (take (length into) rest) (drop n into) in
    let left : length (drop n into) ≡ length into - n = length-drop n into in (
      sym whole ∙ ap (λ (l : List ℕ). l ++ drop n rest) (sym front) ∙ ap (λ (l : List ℕ). take n new ++ l) (sym behind),
      λ is_zero room. behind ∙ ap (λ (l : List ℕ). drop n l) (none (length into) rest (sym count ∙ is_zero) (omega (arith, room, long))) ∙ drop_none n,
    )
