-- The set that the code escapes by is the one of the definition; a spelling is read again, and has bytes where there are some.
use Rattle.std.proofs.Common.{◌≡◌, ℕ, ◌<◌, Bool, true, false, not, ltb, cond, List, [], ◌∷◌, length, inl, inr, refl, subst, arith}
use Rattle.std.specs.List.{All, flat_map}
use Rattle.std.proofs.lemmas.Bool.{agree_below, agree_below_at, cases_lt, lt-ltb, le-ltb}
use Rattle.std.proofs.lemmas.Bool.Decides.{nat_tests}
use Rattle.percent_encoding.specs.AsciiSet.{contains, should_percent_encode}
use Rattle.percent_encoding.specs.Percent.{percent_encode, percent_decode, percent_encode_byte, encode_byte}
use Rattle.percent_encoding.proofs.PercentLemmas.{percent_encode_nonempty, round_trip}
use Rattle.ox_text.specs.declared.escape.TheConstants.{ESCAPED}
use Rattle.ox_text.specs.Words.{is_plain, escape, spelt}

plain_table : agree_below (contains ESCAPED) (λ b. not (is_plain b)) 128 ≡ true
plain_table = refl

-- the set that the code uses leaves the plain bytes
set_is : (b : ℕ) → should_percent_encode ESCAPED b ≡ not (is_plain b)
unfolding should_percent_encode
set_is b =
    elim (cases_lt b 128) [
      | inl low ↦ rw (lt-ltb b 128 low) (agree_below_at (contains ESCAPED) (λ c. not (is_plain c)) 128 b plain_table low)
      | inr high ↦ let rest : is_plain b ≡ false = grind (arith, nat_tests) in rw (le-ltb b 128 high, rest) refl
    ]

escape_is : (b : ℕ) → encode_byte ESCAPED b ≡ escape b
escape_is b = rw (set_is b) (by_test (is_plain b) (percent_encode_byte b) (b ∷ []))
  where
    by_test : (x : Bool) (a c : List ℕ) → cond (not x) a c ≡ cond x c a
    by_test true a c = refl
    by_test false a c = refl

-- what percent-encoding gives is the spelling
pub spelt_is : (bytes : List ℕ) → percent_encode ESCAPED bytes ≡ spelt bytes
unfolding percent_encode spelt
spelt_is [] = refl
spelt_is (b ∷ bytes) =
    let others : flat_map (encode_byte ESCAPED) bytes ≡ flat_map escape bytes = spelt_is bytes in
    rw (escape_is b, others) refl

-- who reads a spelling finds the bytes
pub spelling_again : (bytes : List ℕ) → All (λ b. b < 256) bytes → percent_decode (spelt bytes) ≡ bytes
spelling_again bytes h = rw (← spelt_is bytes) (round_trip ESCAPED bytes refl h)

pub spelling_some : (bytes : List ℕ) → 0 < length bytes → 0 < length (spelt bytes)
spelling_some bytes some = subst (λ (t : List ℕ). 0 < length t) (spelt_is bytes) (percent_encode_nonempty ESCAPED bytes some)
