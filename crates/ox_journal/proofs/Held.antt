-- The records that a half holds, at a gate.
use Rattle.std.proofs.Common.{◌≡◌, ◌≢◌, ℕ, ◌+◌, ◌<◌, ◌^◌, Bool, true, false, List, [], ◌∷◌, ◌++◌, length, get_or, take, drop, All, Some, None, refl, sym, ◌∙◌, ap, arith, append_assoc, length-append}
use Rattle.std.proofs.lemmas.Bool.Decides.{nat_tests}
use Rattle.std.proofs.lemmas.List.{take_at}
use Rattle.std.proofs.lemmas.Nat.{from_be_bytes-to_be_bytes_4}
use Rattle.std.specs.Prelude.{nat_lt, ◌==◌, if◌then◌else◌}
use Rattle.std.specs.Int.{from_be_bytes, w32}
use Rattle.ox_types.specs.Lists.{first_of}
use Rattle.ox_journal.specs.Half.{be32, record_text, records_text}
use Rattle.ox_journal.specs.Next.{next_of, number_of}
use Rattle.ox_journal.specs.declared.reading.Next.{Next}
use Rattle.ox_journal.specs.declared.reading.Next.TheVariants.{Ends, Cut, Record}

same_number : (m n : ℕ) → m < 2 ^ 32 → n < 2 ^ 32 → be32 m ≡ be32 n → m ≡ n
same_number m n below_m below_n same = sym (from_be_bytes-to_be_bytes_4 m below_m) ∙ ap (λ (l : List ℕ). from_be_bytes w32 l) same ∙ from_be_bytes-to_be_bytes_4 n below_n

-- two records at one place are the same
same_record : (p q x y : List ℕ) → length p < 2 ^ 32 → length q < 2 ^ 32 → 1 ∷ record_text p ++ x ≡ 1 ∷ record_text q ++ y → p ≡ q
same_record p q x y below_p below_q e =
    let heads : be32 (length p) ≡ be32 (length q) = ap (λ (l : List ℕ). take 4 (drop 1 l)) e in
    let sizes : length p ≡ length q = same_number (length p) (length q) below_p below_q heads in
    let tails : p ++ x ≡ q ++ y = ap (λ (l : List ℕ). drop 5 l) e in
    sym (take_at p x (length p) refl) ∙ ap (λ (l : List ℕ). take (length p) l) tails ∙ take_at q y (length p) (sym sizes)

pub given_first : (rest : List ℕ) (more : List (List ℕ)) (gate : ℕ) (behind payload after : List ℕ) → rest ≡ records_text more ++ gate ∷ behind → gate ≢ 1 → All (λ p. length p < 2 ^ 32) more
    → rest ≡ 1 ∷ record_text payload ++ after → length payload < 2 ^ 32 → Some payload ≡ first_of more
given_first rest [] gate behind payload after is closed sizes at small =
    absurd (closed (ap (λ (l : List ℕ). get_or l 0 0) (sym is ∙ at)))
given_first rest (p ∷ more) gate behind payload after is closed sizes at small =
    let whole : 1 ∷ record_text p ++ (records_text more ++ gate ∷ behind) ≡ 1 ∷ record_text payload ++ after =
    sym (append_assoc (1 ∷ record_text p) (records_text more) (gate ∷ behind)) ∙ sym is ∙ at in
    ap Some (sym (same_record p payload (records_text more ++ gate ∷ behind) after (sizes 0 [] (omega arith)) small whole))

never_ends : (b : Bool) (n : ℕ) → (if b then Record n else Cut) ≡ Ends → ⊥
never_ends true n e = cc
never_ends false n e = cc

pub held_ends : (rest : List ℕ) (more : List (List ℕ)) (gate : ℕ) (behind : List ℕ) → rest ≡ records_text more ++ gate ∷ behind → next_of rest ≡ Ends → None ≡ first_of more
held_ends rest [] gate behind is ends = refl
held_ends rest (p ∷ more) gate behind is ends =
    let text = (record_text p ++ records_text more) ++ gate ∷ behind in
    absurd (never_ends (nat_lt (number_of text + 4) (length text)) (number_of text) (ap next_of (sym is) ∙ ends))

not_cut : (gate : ℕ) (x : Next) → gate ≢ 1 → (if gate == 1 then x else Ends) ≡ Cut → ⊥
not_cut gate x closed e = let ends : (if gate == 1 then x else Ends) ≡ Ends = grind (arith, nat_tests) in let f : Ends ≡ Cut = sym ends ∙ e in cc

fits_record : (n l : ℕ) → n + 4 < l → (if nat_lt (n + 4) l then Record n else Cut) ≡ Cut → ⊥
fits_record n l less e = let is : (if nat_lt (n + 4) l then Record n else Cut) ≡ Record n = grind (arith, nat_tests) in let f : Record n ≡ Cut = sym is ∙ e in cc

number_is : (p x : List ℕ) → length p < 2 ^ 32 → number_of (record_text p ++ x) ≡ length p
unfolding number_of
number_is p x below = from_be_bytes-to_be_bytes_4 (length p) below

pub held_not_cut : (rest : List ℕ) (more : List (List ℕ)) (gate : ℕ) (behind : List ℕ) → rest ≡ records_text more ++ gate ∷ behind → gate ≢ 1 → All (λ p. length p < 2 ^ 32) more → next_of rest ≡ Cut → ⊥
held_not_cut rest [] gate behind is closed sizes cut = not_cut gate _ closed (ap next_of (sym is) ∙ cut)
held_not_cut rest (p ∷ more) gate behind is closed sizes cut =
    let x = records_text more ++ gate ∷ behind in
    let text = record_text p ++ x in
    let whole : 1 ∷ text ≡ rest = sym (append_assoc (1 ∷ record_text p) (records_text more) (gate ∷ behind)) ∙ sym is in
    let number : number_of text ≡ length p = number_is p x (sizes 0 [] (omega arith)) in
    let four : length (record_text p) ≡ 4 + length p = length-append (be32 (length p)) p in
    let long : length text ≡ length (record_text p) + length x = length-append (record_text p) x in
    let some : length x ≡ length (records_text more) + length (gate ∷ behind) = length-append (records_text more) (gate ∷ behind) in
    fits_record (number_of text) (length text) (omega arith) (ap next_of whole ∙ cut)
