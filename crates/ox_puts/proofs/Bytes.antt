-- The bytes of sequence keys, as the code reads and writes them.
use Rattle.std.proofs.Common.{◌≡◌, ◌≤◌, ◌<◌, ◌∙◌, ◌+◌, ◌-◌, ◌*◌, ◌^◌, ℕ, Bool, true, false, List, [], ◌∷◌, ◌++◌, Option, Some, None, length, take, drop, get_or, refl, sym, ap, subst, arith, inl, inr, append_assoc, length-append, length-drop, replicate, decimal, nat_eq, add-one, drop-cons}
use Rattle.std.specs.Prelude.{◌&&◌, ◌==◌, not, nat_le, nat_lt, option_and_then, codes, MatchOption}
use Rattle.std.specs.List.{list_all, flat_map, starts_with}
use Rattle.std.specs.Option.{option_map, option_copied}
use Rattle.std.specs.Borrow.{Bor}
use Rattle.std.specs.Cmp.Lexicographic.{pointwise}
use Rattle.std.specs.Char.{is_ascii_digit, digit_value}
use Rattle.std.specs.Str.Parse.{digits_value}
use Rattle.std.proofs.lemmas.Bool.{cases_Bool, eqb-true, eq-eqb, leb-true, le-leb, lt-ltb, ltb-false, and_parts}
use Rattle.std.proofs.lemmas.Bool.Decides.{nat_tests}
use Rattle.std.proofs.lemmas.Grind.{common_steps}
use Rattle.std.proofs.lemmas.List.{take_more, take_all, append-nil}
use Rattle.std.proofs.lemmas.List.Folds.{list_all-append}
use Rattle.std.proofs.lemmas.Int.Digits.{digits_value_more}
use Rattle.std.proofs.lemmas.Str.Parse.{digits_value-take-le}
use Rattle.ox_types.specs.Key.{IsKey, key_fault, reserved}
use Rattle.ox_types.specs.Limits.{key_limit}
use Rattle.ox_ops.specs.Sequence.{group_text, sequence_key, after_prefix, is_group, groups_of, greatest_number}
use Rattle.ox_puts.specs.Search.{digits_number, front_number}
use Rattle.ox_puts.proofs.Digits.{twenty, twenty-length, digit-is}
use Rattle.ox_puts.proofs.Groups.{Fit, groups}

-- ---- a prefix

no_prefix : (prefix key : List ℕ) → pointwise nat_eq (take (length prefix) key) prefix ≡ false → after_prefix prefix key ≡ None
no_prefix [] key h = cc h
no_prefix (p ∷ prefix) [] h = refl
no_prefix (p ∷ prefix) (b ∷ key) h = elim (cases_Bool (p == b)) [
  | inl same ↦
      let e : p ≡ b = eqb-true p b same in
      rw same (no_prefix prefix key (rw (e, eq-eqb b b refl) at h))
  | inr other ↦ rw other refl
]

has_prefix : (prefix key : List ℕ) → pointwise nat_eq (take (length prefix) key) prefix ≡ true → after_prefix prefix key ≡ Some (drop (length prefix) key)
has_prefix [] key h = refl
has_prefix (p ∷ prefix) [] h = cc h
has_prefix (p ∷ prefix) (b ∷ key) h =
    let parts = and_parts (nat_eq b p) (pointwise nat_eq (take (length prefix) key) prefix) h in
    let e : b ≡ p = eqb-true b p parts.0 in
    rw (e, eq-eqb p p refl) (has_prefix prefix key parts.1)

pub stripped : (prefix key : List ℕ) (r : Option (Bor (List ℕ)))
    → MatchOption r (pointwise nat_eq (take (length prefix) key) prefix ≡ false) (λ x. (pointwise nat_eq (take (length prefix) key) prefix ≡ true) × (x.now ≡ drop (length prefix) key) × (length x.now + length prefix ≡ length key))
    → option_copied r ≡ after_prefix prefix key
stripped prefix key None h = sym (no_prefix prefix key h)
stripped prefix key (Some x) h = ap Some h.1 ∙ sym (has_prefix prefix key h.0)

-- ---- a group

abbrev zeros : ℕ → List ℕ
zeros n = replicate n 48

drop_zeros : (k n : ℕ) → drop k (zeros n) ≡ zeros (n - k)
drop_zeros ℕ.zero n = let e : n ≡ n - 0 = omega arith in ap zeros e
drop_zeros (ℕ.suc k) ℕ.zero = let e : 0 ≡ 0 - ℕ.suc k = omega arith in ap zeros e
drop_zeros (ℕ.suc k) (ℕ.suc n) =
    let e : n - k ≡ ℕ.suc n - ℕ.suc k = omega arith in
    drop_zeros k n ∙ ap zeros e

-- a dash, zeros and digits are a group
pub grouped : (t t1 t2 t3 digits : List ℕ) (n : ℕ) → t1 ≡ t ++ 45 ∷ [] → t2 ≡ t1 ++ drop (length digits) (zeros 20) → t3 ≡ t2 ++ digits → digits ≡ decimal n → t3 ≡ t ++ group_text n
grouped t t1 t2 t3 digits n a b c d =
    let front : drop (length digits) (zeros 20) ≡ zeros (20 - length (decimal n)) = drop_zeros (length digits) 20 ∙ ap (λ x. zeros (20 - length x)) d in
    let e2 : t2 ≡ (t ++ 45 ∷ []) ++ zeros (20 - length (decimal n)) = b ∙ ap (λ x. x ++ drop (length digits) (zeros 20)) a ∙ ap (λ x. (t ++ 45 ∷ []) ++ x) front in
    let e3 : t3 ≡ ((t ++ 45 ∷ []) ++ zeros (20 - length (decimal n))) ++ decimal n = c ∙ ap (λ x. x ++ digits) e2 ∙ ap (λ x. ((t ++ 45 ∷ []) ++ zeros (20 - length (decimal n))) ++ x) d in
    e3 ∙ append_assoc (t ++ 45 ∷ []) (zeros (20 - length (decimal n))) (decimal n) ∙ append_assoc t (45 ∷ []) (twenty n)

-- ---- 20 digits

digits_fail : (digits : List ℕ) → list_all is_ascii_digit digits ≡ false → digits_number digits ≡ None
digits_fail digits h = elim (cases_Bool (length digits == 20)) [
  | inl long ↦ rw (long, h) refl
  | inr short ↦ rw short refl
]

digits_great : (digits : List ℕ) → nat_le (digits_value 10 digits) greatest_number ≡ false → digits_number digits ≡ None
digits_great digits h = elim (cases_Bool (length digits == 20 && list_all is_ascii_digit digits)) [
  | inl front ↦ rw (front, h) refl
  | inr fails ↦ rw fails refl
]

some_fails : (t : ℕ → Bool) (xs : List ℕ) (i : ℕ) → i < length xs → t (get_or xs i 0) ≡ false → list_all t xs ≡ false
some_fails t [] i lt h = absurd (omega arith)
some_fails t (x ∷ xs) ℕ.zero lt h = rw h refl
some_fails t (x ∷ xs) (ℕ.suc i) lt h = elim (cases_Bool (t x)) [
  | inl passes ↦ rw passes (some_fails t xs i (omega arith) h)
  | inr fails ↦ rw fails refl
]

pub no_digit : (digits : List ℕ) (i : ℕ) → i < length digits → is_ascii_digit (get_or digits i 0) ≡ false → None ≡ digits_number digits
no_digit digits i lt h = sym (digits_fail digits (some_fails is_ascii_digit digits i lt h))

pub too_great : (digits : List ℕ) (i : ℕ) → 2 ^ 64 ≤ digits_value 10 (take i digits) → None ≡ digits_number digits
too_great digits i h =
    let more = digits_value-take-le 10 digits i (omega arith) in
    let over : nat_le (digits_value 10 digits) greatest_number ≡ false = grind (arith, nat_tests) in
    sym (digits_great digits over)

pub fits_group : (digits : List ℕ) → length digits ≡ 20 → list_all is_ascii_digit digits ≡ true → digits_value 10 digits < 2 ^ 64 → Some (digits_value 10 digits) ≡ digits_number digits
fits_group digits l h small =
    let fits : nat_le (digits_value 10 digits) greatest_number ≡ true = le-leb _ _ (omega arith) in
    rw (eq-eqb _ _ l, h, fits) refl

-- the digit at a place, and those before it
next_value : (digits : List ℕ) (i number d : ℕ) → i < length digits → number ≡ digits_value 10 (take i digits) → is_ascii_digit (get_or digits i 0) ≡ true → d ≡ get_or digits i 0 - 48 → digits_value 10 (take (i + 1) digits) ≡ number * 10 + d
next_value digits i number d lt value digit e =
    let more = digits_value_more 10 digits i lt in
    let one = digit-is (get_or digits i 0) digit in
    rw value (omega (arith, more, one.0, one.1, e))

pub mul_fails : (digits : List ℕ) (i number : ℕ) → i < length digits → number ≡ digits_value 10 (take i digits) → ¬ (number * 10 < 2 ^ 64) → None ≡ digits_number digits
mul_fails digits i number lt value over =
    too_great digits (i + 1) (let more = digits_value_more 10 digits i lt in let v : digits_value 10 (take i digits) ≡ number = sym value in omega (arith, more, v, over))

pub add_fails : (digits : List ℕ) (i number m d : ℕ) → i < length digits → number ≡ digits_value 10 (take i digits) → is_ascii_digit (get_or digits i 0) ≡ true → d ≡ get_or digits i 0 - 48 → m ≡ number * 10 → ¬ (m + d < 2 ^ 64) → None ≡ digits_number digits
add_fails digits i number m d lt value digit e mul over =
    too_great digits (i + 1) (let next = next_value digits i number d lt value digit e in omega (arith, next, mul, over))

-- what the loop over the digits keeps
pub record IsRead (digits : List ℕ) (i number : ℕ) : Type 0 where
  pub value : number ≡ digits_value 10 (take i digits)
  pub digits_so_far : list_all is_ascii_digit (take i digits) ≡ true
  pub small : number < 2 ^ 64

pub read_more : (digits : List ℕ) (i number m d number' : ℕ) → i < length digits → IsRead digits i number → is_ascii_digit (get_or digits i 0) ≡ true → d ≡ get_or digits i 0 - 48 → m ≡ number * 10 → (m + d < 2 ^ 64) × (number' ≡ m + d) → IsRead digits (i + 1) number'
read_more digits i number m d number' lt h digit e mul add =
    let next = next_value digits i number d lt h.value digit e in
    record {
      value = omega (arith, next, mul, add.1);
      digits_so_far = ap (list_all is_ascii_digit) (take_more digits i 0 lt) ∙ list_all-append is_ascii_digit (take i digits) (get_or digits i 0 ∷ []) ∙ rw (h.digits_so_far, digit) refl;
      small = omega (arith, add.0, add.1);
    }

pub read_all : (digits : List ℕ) (i number : ℕ) → length digits ≡ 20 → length digits ≤ i → IsRead digits i number → Some number ≡ digits_number digits
read_all digits i number l done h =
    let all : take i digits ≡ digits = take_all i digits done in
    let value : number ≡ digits_value 10 digits = h.value ∙ ap (digits_value 10) all in
    ap Some value ∙ fits_group digits l (sym (ap (list_all is_ascii_digit) all) ∙ h.digits_so_far) (rw (← value) h.small)

-- ---- the first of some groups

pub front-groups : (k : ℕ) (bytes : List ℕ) → groups_of (ℕ.suc k) bytes ≡ option_and_then (λ n. option_map (λ ns. n ∷ ns) (groups_of k (drop 21 bytes))) (front_number bytes)
front-groups k [] = refl
front-groups k (b ∷ bytes) = elim (cases_Bool (b == 45)) [
  | inl dash ↦ elim (cases_Bool (is_group (take 20 bytes))) [
    | inl group ↦ rw (dash, group) refl
    | inr fails ↦ rw (dash, fails) refl
  ]
  | inr other ↦ rw other refl
]

-- what the loop over the groups keeps
pub record IsLeft (count : ℕ) (bytes numbers rest : List ℕ) (i : ℕ) : Type 0 where
  pub left : length rest ≡ 21 * (count - i)
  pub all : groups_of count bytes ≡ option_map (λ more. numbers ++ more) (groups_of (count - i) rest)

behind : (numbers : List ℕ) (n : ℕ) (found : Option (List ℕ)) → option_map (λ more. numbers ++ more) (option_map (λ ns. n ∷ ns) found) ≡ option_map (λ more. (numbers ++ n ∷ []) ++ more) found
behind numbers n None = refl
behind numbers n (Some more) = ap Some (sym (append_assoc numbers (n ∷ []) more))

first_left : (count i : ℕ) (bytes numbers rest : List ℕ) → i < count → IsLeft count bytes numbers rest i → groups_of count bytes ≡ option_map (λ more. numbers ++ more) (option_and_then (λ n. option_map (λ ns. n ∷ ns) (groups_of (count - (i + 1)) (drop 21 rest))) (front_number rest))
first_left count i bytes numbers rest lt h =
    let e : count - i ≡ ℕ.suc (count - (i + 1)) = omega arith in
    h.all ∙ ap (λ k. option_map (λ more. numbers ++ more) (groups_of k rest)) e ∙ ap (option_map (λ more. numbers ++ more)) (front-groups (count - (i + 1)) rest)

pub left_fails : (count i : ℕ) (bytes numbers rest : List ℕ) → i < count → IsLeft count bytes numbers rest i → None ≡ front_number rest → None ≡ groups_of count bytes
left_fails count i bytes numbers rest lt h e =
    sym (first_left count i bytes numbers rest lt h ∙ ap (λ f. option_map (λ more. numbers ++ more) (option_and_then (λ n. option_map (λ ns. n ∷ ns) (groups_of (count - (i + 1)) (drop 21 rest))) f)) (sym e))

pub left_more : (count i n : ℕ) (bytes numbers rest numbers' rest' : List ℕ) → i < count → IsLeft count bytes numbers rest i → Some n ≡ front_number rest → numbers' ≡ numbers ++ n ∷ [] → rest' ≡ drop 21 rest → IsLeft count bytes numbers' rest' (i + 1)
left_more count i n bytes numbers rest numbers' rest' lt h e a b =
    let shorter = length-drop 21 rest in
    let was = h.left in
    record {
      left = rw b (omega arith);
      all = rw (a, b) (first_left count i bytes numbers rest lt h
          ∙ ap (λ f. option_map (λ more. numbers ++ more) (option_and_then (λ n. option_map (λ ns. n ∷ ns) (groups_of (count - (i + 1)) (drop 21 rest))) f)) (sym e)
          ∙ behind numbers n (groups_of (count - (i + 1)) (drop 21 rest)));
    }

nothing_more : (numbers : List ℕ) (k : ℕ) (rest : List ℕ) → length rest ≡ 0 → k ≡ 0 → option_map (λ more. numbers ++ more) (groups_of k rest) ≡ Some numbers
nothing_more numbers k [] l e = rw (e, append-nil numbers) refl
nothing_more numbers k (b ∷ rest) l e = absurd (omega arith)

pub left_none : (count i : ℕ) (bytes numbers rest : List ℕ) → count ≤ i → IsLeft count bytes numbers rest i → Some numbers ≡ groups_of count bytes
left_none count i bytes numbers rest done h =
    let was = h.left in
    let none : count - i ≡ 0 = omega arith in
    sym (h.all ∙ nothing_more numbers (count - i) rest (omega arith) none)

-- ---- a key of groups is a key

pub Fit-from : (ns : List ℕ) → ((i : ℕ) → get_or ns i 0 < 2 ^ 64) → Fit ns
Fit-from [] h = tt
Fit-from (n ∷ ns) h = (h 0, Fit-from ns (λ i. h (ℕ.suc i)))

pub groups-length : (ns : List ℕ) → Fit ns → length (groups ns) ≡ 21 * length ns
groups-length [] f = refl
groups-length (n ∷ ns) f =
    let one : length (group_text n) ≡ 21 = ap ℕ.suc (twenty-length n f.0) in
    let more = groups-length ns f.1 in
    let all = length-append (group_text n) (groups ns) in
    omega arith

no_dash : (needle : List ℕ) (prefix rest : List ℕ) → list_all (λ c. not (c == 45)) needle ≡ true → pointwise nat_eq needle (take (length needle) prefix) ≡ false → pointwise nat_eq needle (take (length needle) (prefix ++ 45 ∷ rest)) ≡ false
no_dash [] prefix rest q h = cc h
no_dash (c ∷ needle) [] rest q h = elim (cases_Bool (c == 45)) [
  | inl dash ↦ cc (rw dash at q)
  | inr other ↦ rw other refl
]
no_dash (c ∷ needle) (p ∷ prefix) rest q h =
    let parts = and_parts (not (c == 45)) (list_all (λ c. not (c == 45)) needle) q in
    elim (cases_Bool (nat_eq c p)) [
      | inl same ↦ rw same (no_dash needle prefix rest parts.1 (rw same at h))
      | inr other ↦ rw other refl
    ]

pub key_free : (bytes : List ℕ) → 0 < length bytes → length bytes ≤ key_limit → starts_with nat_eq bytes reserved ≡ false → key_fault bytes ≡ None
key_free bytes a b h =
    let some : (length bytes == 0) ≡ false = grind (arith, nat_tests) in
    let short : nat_lt key_limit (length bytes) ≡ false = grind (arith, nat_tests) in
    rw (some, short, h) refl

pub sequence-free : (prefix ns : List ℕ) → IsKey prefix → Fit ns → 1 ≤ length ns → length prefix + 21 * length ns ≤ key_limit → key_fault (sequence_key prefix ns) ≡ None
sequence-free prefix [] k f some short = absurd (omega arith)
sequence-free prefix (n ∷ ns) k f some short =
    let long = length-append prefix (groups (n ∷ ns)) in
    let more = groups-length (n ∷ ns) f in
    let there = k.some in
    key_free (sequence_key prefix (n ∷ ns)) (omega arith) (omega arith) (no_dash reserved prefix (twenty n ++ groups ns) refl k.free)

-- what is written is a key
pub no_fault : (prefix ns items : List ℕ) (i : ℕ) → IsKey prefix → Fit ns → 1 ≤ length ns → length prefix + 21 * length ns ≤ key_limit → length ns ≤ i → items ≡ prefix ++ flat_map group_text (take i ns) → key_fault items ≡ None
no_fault prefix ns items i k f some short done e =
    ap key_fault (e ∙ ap (λ xs. prefix ++ flat_map group_text xs) (take_all i ns done)) ∙ sequence-free prefix ns k f some short
