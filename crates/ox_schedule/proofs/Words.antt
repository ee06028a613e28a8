-- What one word says is what it spells.
use Rattle.std.proofs.Common.{◌≡◌, ◌∙◌, ◌≢◌, ℕ, suc, ◌<◌, ◌^◌, ◌++◌, Bool, true, false, not, ◌&&◌, ltb, eqb, cond, List, [], ◌∷◌, length, codes, decimal, Result, Ok, Err, Some, None, ◌≤◌, inl, inr, refl, sym, ap, subst, arith}
use Rattle.std.specs.List.{All, flat_map, list_all}
use Rattle.ox_types.specs.Key.{key_fault}
use Rattle.ox_types.specs.declared.key.KeyFault.{KeyFault}
use Rattle.std.specs.Str.{bytes_eq}
use Rattle.std.specs.Str.Parse.{digits_value}
use Rattle.std.proofs.lemmas.Fmt.{decimal_is_IsNumeral}
use Rattle.std.proofs.lemmas.Slice.Eq.{bytes_eq-Decides}
use Rattle.std.proofs.lemmas.Bool.{agree_below, agree_below_at, cases_lt, lt-ltb, le-ltb, le-leb, lt-leb, and_parts}
use Rattle.std.proofs.lemmas.Bool.Decides.{Decides-by_and, Decides-ltb, nat_tests}
use Rattle.std.proofs.lemmas.Grind.{common_steps}
use Rattle.percent_encoding.specs.Percent.{percent_encode, percent_decode, percent_encode_byte, encode_byte}
use Rattle.ox_types.specs.declared.ended.LineRule.{LineRule}
use Rattle.ox_types.specs.declared.ended.LineRule.TheVariants as rule
use Rattle.ox_types.specs.Limits.{value_limit}
use Rattle.ox_ops.specs.Forms as form
use Rattle.ox_text.specs.SpellingLaws.{spelling_again}
use Rattle.ox_schedule.specs.Outcome.{said}
use Rattle.ox_text.specs.Words.{is_plain, escape, spelt, value_word}
use Rattle.ox_schedule.specs.Spelling.{is_byte, is_key, is_value, is_name, is_number}
use Rattle.ox_schedule.specs.Reading.{number_of, key_of, value_of, value_guess, name_of}

pub same_bytes : (a b : List ℕ) → bytes_eq a b ≡ true → a ≡ b
same_bytes a b h = (bytes_eq-Decides a b).0 h

pub bytes_same : (a : List ℕ) → bytes_eq a a ≡ true
bytes_same a = (bytes_eq-Decides a a).1 refl

picked : {A : Type 0} (b : Bool) (a c : A) (r : LineRule) → cond b (let y : Result A LineRule = Ok a in y) (Err r) ≡ Ok c → (b ≡ true) × (a ≡ c)
picked true a c r e = (refl, cc)
picked false a c r e = absurd cc

-- ---- a word that says a value

pub said_is : {A : Type 0} (spell : A → List ℕ) (lawful : A → Bool) (r : LineRule) (w : List ℕ) (a c : A) → said spell lawful r w a ≡ Ok c → (w ≡ spell c) × (lawful c ≡ true)
said_is spell lawful r w a c e =
    let p = picked (bytes_eq w (spell a) && lawful a) a c r e in
    let q = and_parts (bytes_eq w (spell a)) (lawful a) p.0 in
    (same_bytes w (spell a) q.0 ∙ ap spell p.1, sym (ap lawful p.1) ∙ q.1)

pub said_again : {A : Type 0} (spell : A → List ℕ) (lawful : A → Bool) (r : LineRule) (a c : A) → a ≡ c → lawful c ≡ true → said spell lawful r (spell c) a ≡ Ok c
said_again spell lawful r a c e h = rw (e, bytes_same (spell c), h) refl

said_not : {A : Type 0} (spell : A → List ℕ) (lawful : A → Bool) (r : LineRule) (w : List ℕ) (a : A) → (w ≡ spell a → lawful a ≡ true → ⊥) → said spell lawful r w a ≡ Err r
said_not spell lawful r w a never = by_test (bytes_eq w (spell a)) (lawful a) a r (λ h. never (same_bytes w (spell a) h))
  where
    by_test : {A : Type 0} (x y : Bool) (a : A) (r : LineRule) → (x ≡ true → y ≡ true → ⊥) → cond (x && y) (let z : Result A LineRule = Ok a in z) (Err r) ≡ Err r
    by_test true true a r h = absurd (h refl refl)
    by_test true false a r h = refl
    by_test false y a r h = refl

-- ---- numbers

value_back : (n : ℕ) → n < 2 ^ 64 → digits_value 10 (decimal n) ≡ n
value_back n h = (decimal_is_IsNumeral n h).1

below : (n : ℕ) → n < 2 ^ 64 → is_number n ≡ true
below n h = (Decides-ltb n (2 ^ 64)).1 h

pub number_is : (w : List ℕ) (n : ℕ) → number_of w ≡ Ok n → (w ≡ decimal n) × (is_number n ≡ true)
unfolding number_of
number_is w n e = said_is decimal is_number rule.Number w (digits_value 10 w) n e

pub number_again : (n : ℕ) → is_number n ≡ true → number_of (decimal n) ≡ Ok n
unfolding number_of
number_again n h = said_again decimal is_number rule.Number (digits_value 10 (decimal n)) n (value_back n ((Decides-ltb n (2 ^ 64)).0 h)) h

pub number_found : (w : List ℕ) (n : ℕ) → w ≡ decimal n → n < 2 ^ 64 → number_of w ≡ Ok n
number_found w n e h = rw e (number_again n (below n h))

pub number_none : (w : List ℕ) → ((n : ℕ) → n < 2 ^ 64 → w ≡ decimal n → ⊥) → number_of w ≡ Err rule.Number
unfolding number_of
number_none w none = said_not decimal is_number rule.Number w (digits_value 10 w) (λ e h. none (digits_value 10 w) ((Decides-ltb (digits_value 10 w) (2 ^ 64)).0 h) e)

-- ---- escapes

pub are_bytes : (bytes : List ℕ) → All (λ b. b < 256) bytes → list_all is_byte bytes ≡ true
are_bytes bytes h = (Decides-by_and (λ b. ltb b 256) (λ b. b < 256) (list_all is_byte) (λ b. Decides-ltb b 256) refl (λ _ _. refl) bytes).1 h

bytes_are : (bytes : List ℕ) → list_all is_byte bytes ≡ true → All (λ b. b < 256) bytes
bytes_are bytes h = (Decides-by_and (λ b. ltb b 256) (λ b. b < 256) (list_all is_byte) (λ b. Decides-ltb b 256) refl (λ _ _. refl) bytes).0 h

pub decoded_again : (bytes : List ℕ) → list_all is_byte bytes ≡ true → percent_decode (spelt bytes) ≡ bytes
decoded_again bytes h = spelling_again bytes (bytes_are bytes h)

-- ---- keys and values

pub key_is : (w k : List ℕ) → key_of w ≡ Ok k → (w ≡ spelt k) × (is_key k ≡ true)
unfolding key_of
key_is w k e = said_is spelt is_key rule.Key w (percent_decode w) k e

key_bytes : (k : List ℕ) → is_key k ≡ true → list_all is_byte k ≡ true
unfolding is_key
key_bytes k h = (and_parts _ _ h).0

pub key_again : (k : List ℕ) → is_key k ≡ true → key_of (spelt k) ≡ Ok k
unfolding key_of
key_again k h = said_again spelt is_key rule.Key (percent_decode (spelt k)) k (decoded_again k (key_bytes k h)) h

pub value_is : (w v : List ℕ) → value_of w ≡ Ok v → (w ≡ value_word v) × (is_value v ≡ true)
unfolding value_of
value_is w v e = said_is value_word is_value rule.Value w (value_guess w) v e

value_bytes : (v : List ℕ) → is_value v ≡ true → list_all is_byte v ≡ true
unfolding is_value
value_bytes v h = (and_parts _ _ h).0

pub name_is : (w n : List ℕ) → name_of w ≡ Ok n → (w ≡ spelt n) × (is_name n ≡ true)
unfolding name_of
name_is w n e = said_is spelt is_name rule.Option w (percent_decode w) n e

name_bytes : (n : List ℕ) → is_name n ≡ true → list_all is_byte n ≡ true
unfolding is_name
name_bytes n h = (and_parts _ _ h).0

pub name_again : (n : List ℕ) → is_name n ≡ true → name_of (spelt n) ≡ Ok n
unfolding name_of
name_again n h = said_again spelt is_name rule.Option (percent_decode (spelt n)) n (decoded_again n (name_bytes n h)) h

-- ---- marks, which no spelling begins with

pub no_mark : (m : ℕ) (bytes rest : List ℕ) → is_plain m ≡ false → m ≢ 37 → spelt bytes ≡ m ∷ rest → ⊥
unfolding spelt percent_encode_byte
no_mark m [] rest plain other e = cc
no_mark m (b ∷ bytes) rest plain other e = by_test (is_plain b) refl e
  where
    by_test : (x : Bool) → is_plain b ≡ x → cond x (b ∷ []) (percent_encode_byte b) ++ flat_map escape bytes ≡ m ∷ rest → ⊥
    by_test true h e = let same : b ≡ m = cc in let never : is_plain m ≡ true = subst (λ (c : ℕ). is_plain c ≡ true) same h in cc
    by_test false h e = let same : 37 ≡ m = cc in other (sym same)

pub not_star : (bytes : List ℕ) → bytes_eq (spelt bytes) (codes "*") ≡ false
not_star bytes = by_test (bytes_eq (spelt bytes) (codes "*")) (λ h. no_mark 42 bytes [] refl (λ e. absurd (omega (arith, e))) (same_bytes (spelt bytes) (codes "*") h))
  where
    by_test : (x : Bool) → (x ≡ true → ⊥) → x ≡ false
    by_test true k = absurd (k refl)
    by_test false k = refl

pub some_word : (b : ℕ) (v : List ℕ) → value_word (b ∷ v) ≡ spelt (b ∷ v)
some_word b v = let some : eqb (suc (length v)) 0 ≡ false = grind (arith, common_steps) in rw some refl

value_guessed : (v : List ℕ) → is_value v ≡ true → value_guess (value_word v) ≡ v
value_guessed [] h = refl
value_guessed (b ∷ v) h = rw (some_word b v, not_star (b ∷ v)) (decoded_again (b ∷ v) (value_bytes (b ∷ v) h))

pub value_again : (v : List ℕ) → is_value v ≡ true → value_of (value_word v) ≡ Ok v
unfolding value_of
value_again v h = said_again value_word is_value rule.Value (value_guess (value_word v)) v (value_guessed v h) h

-- ---- what the reader of a key finds

pub key_misspelt : (w d : List ℕ) → d ≡ percent_decode w → bytes_eq w (spelt d) ≡ false → key_of w ≡ Err rule.Key
unfolding key_of
key_misspelt w d e s = rw (← e, s) refl

pub key_found : (w d : List ℕ) → d ≡ percent_decode w → bytes_eq w (spelt d) ≡ true → list_all is_byte d ≡ true → key_fault d ≡ None → key_of w ≡ Ok d
unfolding key_of is_key
key_found w d e s small f = rw (← e, s, small, f) refl

pub key_faulty : (w d : List ℕ) (x : KeyFault) → d ≡ percent_decode w → bytes_eq w (spelt d) ≡ true → list_all is_byte d ≡ true → key_fault d ≡ Some x → key_of w ≡ Err rule.Key
unfolding key_of is_key
key_faulty w d x e s small f = rw (← e, s, small, f) refl

-- ---- what the reader of a value finds

pub value_misspelt : (w d : List ℕ) → d ≡ value_guess w → bytes_eq w (value_word d) ≡ false → value_of w ≡ Err rule.Value
unfolding value_of
value_misspelt w d e s = rw (← e, s) refl

pub value_found : (w d : List ℕ) → d ≡ value_guess w → bytes_eq w (value_word d) ≡ true → list_all is_byte d ≡ true → length d ≤ value_limit → value_of w ≡ Ok d
unfolding value_of is_value
value_found w d e s small short = rw (← e, s, small, le-leb (length d) value_limit short) refl

pub value_too_long : (w d : List ℕ) → d ≡ value_guess w → bytes_eq w (value_word d) ≡ true → list_all is_byte d ≡ true → value_limit < length d → value_of w ≡ Err rule.Value
unfolding value_of is_value
value_too_long w d e s small long = rw (← e, s, small, lt-leb (length d) value_limit long) refl

-- ---- what the reader of a name finds

pub name_misspelt : (w d : List ℕ) → d ≡ percent_decode w → bytes_eq w (spelt d) ≡ false → name_of w ≡ Err rule.Option
unfolding name_of
name_misspelt w d e s = rw (← e, s) refl

pub name_faulty : (w d : List ℕ) → d ≡ percent_decode w → form.is_name d ≡ false → name_of w ≡ Err rule.Option
unfolding name_of is_name
name_faulty w d e f = rw (← e, f) (by_tests (bytes_eq w (spelt d)) (list_all is_byte d))
  where
    by_tests : (x y : Bool) → cond (x && (y && false)) (Ok d) (Err rule.Option) ≡ Err rule.Option
    by_tests true true = refl
    by_tests true false = refl
    by_tests false y = refl

pub name_found : (w d : List ℕ) → d ≡ percent_decode w → bytes_eq w (spelt d) ≡ true → list_all is_byte d ≡ true → form.is_name d ≡ true → name_of w ≡ Ok d
unfolding name_of is_name
name_found w d e s small f = rw (← e, s, small, f) refl
