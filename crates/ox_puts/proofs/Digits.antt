-- Numbers as 20 digits: the order of the digits is that of the numbers.
use Rattle.std.proofs.Common.{◌≡◌, ◌≤◌, ◌<◌, ◌∙◌, ◌+◌, ◌-◌, ◌*◌, ◌^◌, ℕ, true, List, [], ◌∷◌, ◌++◌, length, refl, sym, ap, arith, inl, inr, replicate, decimal, length-append}
use Rattle.std.specs.Prelude.{nat_le, nat_lt}
use Rattle.std.specs.List.{list_all}
use Rattle.std.specs.Char.{digit_value, is_ascii_digit}
use Rattle.std.specs.Str.Parse.{AllDigits, digits_value, digits_value_after}
use Rattle.std.specs.Ordering.{nat_cmp, ordering_then}
use Rattle.std.specs.Cmp.Lexicographic.{slice_cmp}
use Rattle.std.specs.FinMap.{IsAntisymmetric, nat_cmp-IsAntisymmetric, slice_cmp-IsAntisymmetric}
use Rattle.std.specs.declared.cmp.Ordering.{Ordering}
use Rattle.std.specs.declared.cmp.Ordering.TheVariants.{Less, Equal, Greater}
use Rattle.std.proofs.lemmas.Bool.{cases_lt, lt-ltb, le-leb, and_parts}
use Rattle.std.proofs.lemmas.Bool.Decides.{nat_tests}
use Rattle.std.proofs.lemmas.Grind.{common_steps}
use Rattle.std.proofs.lemmas.List.{length-replicate}
use Rattle.std.proofs.lemmas.Fmt.{decimal_is_IsNumeral, length-decimal-le}
use Rattle.std.proofs.lemmas.List.Folds.{list_all-append}

pub then_assoc : (a b c : Ordering) → ordering_then (ordering_then a b) c ≡ ordering_then a (ordering_then b c)
then_assoc Less b c = refl
then_assoc Equal b c = refl
then_assoc Greater b c = refl

pub then_equal : (r : Ordering) → ordering_then r Equal ≡ r
then_equal Less = refl
then_equal Equal = refl
then_equal Greater = refl

-- ---- comparing numbers

pub less_is : (a b : ℕ) → a < b → nat_cmp a b ≡ Less
less_is a b h = grind (arith, nat_tests)

pub equal_is : (a b : ℕ) → a ≡ b → nat_cmp a b ≡ Equal
equal_is a b h = grind (arith, nat_tests)

pub greater_is : (a b : ℕ) → b < a → nat_cmp a b ≡ Greater
greater_is a b h = grind (arith, nat_tests)

pub digit-is : (c : ℕ) → is_ascii_digit c ≡ true → (digit_value c + 48 ≡ c) × (c < 58)
digit-is c h = grind (arith, nat_tests)

is_digit_from : (c : ℕ) → digit_value c < 10 → is_ascii_digit c ≡ true
is_digit_from c h = grind (arith, nat_tests)

-- a greater front decides, and where the fronts are equal, the digits do
step_at : (n m a b x y : ℕ) → a + 48 ≡ x → b + 48 ≡ y → x < 58 → y < 58 → nat_cmp (n * 10 + a) (m * 10 + b) ≡ ordering_then (nat_cmp n m) (nat_cmp x y)
step_at n m a b x y e f h i = elim (cases_lt n m) [
  | inl lt ↦ rw (less_is n m lt) (less_is (n * 10 + a) (m * 10 + b) (omega arith))
  | inr ge ↦ elim (cases_lt m n) [
    | inl gt ↦ rw (greater_is n m gt) (greater_is (n * 10 + a) (m * 10 + b) (omega arith))
    | inr le ↦ rw (equal_is n m (omega arith)) (elim (cases_lt x y) [
      | inl xy ↦ rw (less_is x y xy) (less_is (n * 10 + a) (m * 10 + b) (omega arith))
      | inr yx ↦ elim (cases_lt y x) [
        | inl gr ↦ rw (greater_is x y gr) (greater_is (n * 10 + a) (m * 10 + b) (omega arith))
        | inr eq ↦ rw (equal_is x y (omega arith)) (equal_is (n * 10 + a) (m * 10 + b) (omega arith))
      ]
    ])
  ]
]

-- the digits behind two numbers
value_order : (n m : ℕ) (xs ys : List ℕ) → list_all is_ascii_digit xs ≡ true → list_all is_ascii_digit ys ≡ true → length xs ≡ length ys
    → nat_cmp (digits_value_after 10 n xs) (digits_value_after 10 m ys) ≡ ordering_then (nat_cmp n m) (slice_cmp nat_cmp xs ys)
value_order n m [] [] p q l = sym (then_equal (nat_cmp n m))
value_order n m [] (y ∷ ys) p q l = absurd (omega arith)
value_order n m (x ∷ xs) [] p q l = absurd (omega arith)
value_order n m (x ∷ xs) (y ∷ ys) p q l =
    let a = and_parts (is_ascii_digit x) (list_all is_ascii_digit xs) p in
    let b = and_parts (is_ascii_digit y) (list_all is_ascii_digit ys) q in
    let c = digit-is x a.0 in
    let d = digit-is y b.0 in
    value_order (n * 10 + digit_value x) (m * 10 + digit_value y) xs ys a.1 b.1 (omega arith)
    ∙ ap (λ r. ordering_then r (slice_cmp nat_cmp xs ys)) (step_at n m (digit_value x) (digit_value y) x y c.0 d.0 c.1 d.1)
    ∙ then_assoc (nat_cmp n m) (nat_cmp x y) (slice_cmp nat_cmp xs ys)

pub digits-order : (xs ys : List ℕ) → list_all is_ascii_digit xs ≡ true → list_all is_ascii_digit ys ≡ true → length xs ≡ length ys → nat_cmp (digits_value 10 xs) (digits_value 10 ys) ≡ slice_cmp nat_cmp xs ys
digits-order xs ys p q l = value_order 0 0 xs ys p q l

bytes_anti : IsAntisymmetric (slice_cmp nat_cmp)
bytes_anti = slice_cmp-IsAntisymmetric nat_cmp-IsAntisymmetric

-- ---- the 20 digits of a number

abbrev pub twenty : ℕ → List ℕ
twenty n = replicate (20 - length (decimal n)) 48 ++ decimal n

zeros_value : (k : ℕ) (ds : List ℕ) → digits_value 10 (replicate k 48 ++ ds) ≡ digits_value 10 ds
zeros_value ℕ.zero ds = refl
zeros_value (ℕ.suc k) ds = zeros_value k ds

zeros_digits : (k : ℕ) → list_all is_ascii_digit (replicate k 48) ≡ true
zeros_digits ℕ.zero = refl
zeros_digits (ℕ.suc k) = zeros_digits k

all_digits : (ds : List ℕ) → AllDigits 10 ds → list_all is_ascii_digit ds ≡ true
all_digits [] h = refl
all_digits (d ∷ ds) h = rw (is_digit_from d h.0) (all_digits ds h.1)

pub twenty-length : (n : ℕ) → n < 2 ^ 64 → length (twenty n) ≡ 20
twenty-length n h =
    let short = length-decimal-le 20 n (omega arith) (omega arith) h in
    rw (length-append, length-replicate) (omega arith)

pub twenty-digits : (n : ℕ) → n < 2 ^ 64 → list_all is_ascii_digit (twenty n) ≡ true
twenty-digits n h =
    let numeral = decimal_is_IsNumeral n h in
    rw (list_all-append, zeros_digits (20 - length (decimal n))) (all_digits (decimal n) numeral.0.1)

pub twenty-value : (n : ℕ) → n < 2 ^ 64 → digits_value 10 (twenty n) ≡ n
twenty-value n h =
    let numeral = decimal_is_IsNumeral n h in
    zeros_value (20 - length (decimal n)) (decimal n) ∙ numeral.1

pub twenty-order : (n m : ℕ) → n < 2 ^ 64 → m < 2 ^ 64 → slice_cmp nat_cmp (twenty n) (twenty m) ≡ nat_cmp n m
twenty-order n m h i =
    sym (digits-order (twenty n) (twenty m) (twenty-digits n h) (twenty-digits m i) (twenty-length n h ∙ sym (twenty-length m i)))
    ∙ rw (twenty-value n h, twenty-value m i) refl

-- 20 digits are those of their value
pub twenty-of_value : (ds : List ℕ) → list_all is_ascii_digit ds ≡ true → length ds ≡ 20 → digits_value 10 ds < 2 ^ 64 → twenty (digits_value 10 ds) ≡ ds
twenty-of_value ds p l h =
    let n = digits_value 10 ds in
    bytes_anti (twenty n) ds
    (sym (digits-order (twenty n) ds (twenty-digits n h) p (twenty-length n h ∙ sym l)) ∙ equal_is _ _ (twenty-value n h))
