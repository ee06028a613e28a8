-- Bytes that spellings and numbers don't hold: so a colon and commas stand between their parts.
use Rattle.std.proofs.Common.{◌≡◌, ◌∙◌, ◌<◌, ◌+◌, ◌%◌, ◌^◌, ℕ, Bool, true, false, not, eqb, cond, List, [], ◌∷◌, decimal, inl, inr, refl, arith}
use Rattle.std.specs.List.{flat_map, All}
use Rattle.std.proofs.lemmas.Grind.{common_steps}
use Rattle.std.proofs.lemmas.Fmt.{decimal_by_steps}
use Rattle.std.proofs.lemmas.List.Elements.{All-head, All-tail}
use Rattle.std.proofs.lemmas.List.Folds.{list_all-append}
use Rattle.std.proofs.lemmas.Bool.Decides.{nat_tests}
use Rattle.std.proofs.lemmas.Bool.{and_from}
use Rattle.percent_encoding.specs.Percent.{percent_encode_byte}
use Rattle.percent_encoding.proofs.PercentLemmas.{IsEscapeByte, All-percent_encode_byte}
use Rattle.ox_text.specs.Words.{is_plain, escape, spelt}
use Rattle.ox_schedule.proofs.JoinLemmas.{lacks}

plain_not : (b : ℕ) → is_plain b ≡ true → not (eqb b 58) ≡ true
plain_not b h = grind (arith, common_steps)

escape_not : (b : ℕ) → IsEscapeByte b → not (eqb b 58) ≡ true
escape_not b (inl e) = grind (arith, nat_tests)
escape_not b (inr (inl p)) = grind (arith, nat_tests)
escape_not b (inr (inr p)) = grind (arith, nat_tests)

escapes_lack : (xs : List ℕ) → All IsEscapeByte xs → lacks 58 xs ≡ true
escapes_lack [] h = refl
escapes_lack (x ∷ xs) h = and_from _ _ (escape_not x (All-head IsEscapeByte x xs h)) (escapes_lack xs (All-tail IsEscapeByte x xs h))

byte_lacks : (b : ℕ) → lacks 58 (escape b) ≡ true
byte_lacks b = by_test (is_plain b) refl
  where
    by_test : (x : Bool) → is_plain b ≡ x → lacks 58 (cond x (b ∷ []) (percent_encode_byte b)) ≡ true
    by_test true h = and_from _ true (plain_not b h) refl
    by_test false h = escapes_lack (percent_encode_byte b) (All-percent_encode_byte b)

-- no spelling has a colon
pub spelt_lacks : (bytes : List ℕ) → lacks 58 (spelt bytes) ≡ true
unfolding spelt
spelt_lacks [] = refl
spelt_lacks (b ∷ bytes) = list_all-append (λ x. not (eqb x 58)) (escape b) (flat_map escape bytes) ∙ and_from _ _ (byte_lacks b) (spelt_lacks bytes)

digit_not : (n : ℕ) → n < 10 → not (eqb (48 + n) 44) ≡ true
digit_not n h = grind (arith, common_steps)

-- no number has a comma
pub number_lacks : (n : ℕ) → n < 2 ^ 64 → lacks 44 (decimal n) ≡ true
number_lacks = decimal_by_steps (λ n ds. lacks 44 ds ≡ true)
    (λ n h. and_from _ true (digit_not n h) refl)
    (λ n ds h known. list_all-append (λ x. not (eqb x 44)) ds ((48 + n % 10) ∷ []) ∙ and_from _ _ known (and_from _ true (digit_not (n % 10) (omega arith)) refl))
