-- Sequence keys: what their groups say, and their order.
use Rattle.std.proofs.Common.{◌≡◌, ◌≤◌, ◌<◌, ◌∙◌, ◌+◌, ◌-◌, ◌*◌, ◌^◌, ℕ, Bool, true, false, List, [], ◌∷◌, ◌++◌, Option, Some, None, length, take, drop, refl, sym, ap, subst, arith, inl, inr, append_assoc, length-append}
use Rattle.std.specs.Prelude.{◌&&◌, ◌||◌, ◌==◌, nat_le, option_and_then}
use Rattle.std.specs.List.{list_all, list_any, flat_map, slice_split}
use Rattle.std.specs.Option.{option_map}
use Rattle.std.specs.Char.{is_ascii_digit}
use Rattle.std.specs.Str.Parse.{digits_value}
use Rattle.std.specs.Ordering.{nat_cmp, ordering_then}
use Rattle.std.specs.Cmp.Lexicographic.{slice_cmp}
use Rattle.std.specs.declared.cmp.Ordering.{Ordering}
use Rattle.std.specs.declared.cmp.Ordering.TheVariants.{Less, Equal, Greater}
use Rattle.std.proofs.lemmas.Bool.{cases_Bool, leb-true, eqb-true, eq-eqb, le-leb, and_parts}
use Rattle.std.proofs.lemmas.Bool.Decides.{nat_tests}
use Rattle.std.proofs.lemmas.List.{take-append-drop, append-nil}
use Rattle.std.proofs.lemmas.List.Folds.{list_any-append}
use Rattle.std.proofs.Math.Seq.{take-append_seam, drop-append_seam}
use Rattle.ox_types.specs.Order.{is_slash, has_slash, bytes_cmp, parts_cmp, key_cmp}
use Rattle.ox_types.specs.OrderLaws.{key_cmp-neither}
use Rattle.ox_ops.specs.Sequence.{group_text, sequence_key, after_prefix, is_group, groups_of, numbers_of, greatest_number}
use Rattle.ox_puts.proofs.Digits.{twenty, then_assoc, then_equal, equal_is, twenty-length, twenty-digits, twenty-value, twenty-order, twenty-of_value}

-- each number fits a group
abbrev pub Fit : List ℕ → Type 0
Fit [] = Unit {0}
Fit (n ∷ ns) = (n < 2 ^ 64) × Fit ns

-- the groups of the numbers
abbrev pub groups : List ℕ → List ℕ
groups ns = flat_map group_text ns

-- ---- order

cmp-append : (xs ys a b : List ℕ) → length xs ≡ length ys → slice_cmp nat_cmp (xs ++ a) (ys ++ b) ≡ ordering_then (slice_cmp nat_cmp xs ys) (slice_cmp nat_cmp a b)
cmp-append [] [] a b l = refl
cmp-append [] (y ∷ ys) a b l = absurd (omega arith)
cmp-append (x ∷ xs) [] a b l = absurd (omega arith)
cmp-append (x ∷ xs) (y ∷ ys) a b l =
    ap (ordering_then (nat_cmp x y)) (cmp-append xs ys a b (omega arith)) ∙ sym (then_assoc (nat_cmp x y) (slice_cmp nat_cmp xs ys) (slice_cmp nat_cmp a b))

group-cmp : (n m : ℕ) (a b : List ℕ) → n < 2 ^ 64 → m < 2 ^ 64 → slice_cmp nat_cmp (group_text n ++ a) (group_text m ++ b) ≡ ordering_then (nat_cmp n m) (slice_cmp nat_cmp a b)
group-cmp n m a b h i =
    cmp-append (twenty n) (twenty m) a b (twenty-length n h ∙ sym (twenty-length m i))
    ∙ ap (λ r. ordering_then r (slice_cmp nat_cmp a b)) (twenty-order n m h i)

groups-cmp : (ns ms : List ℕ) (a b : List ℕ) → Fit ns → Fit ms → length ns ≡ length ms → slice_cmp nat_cmp (groups ns ++ a) (groups ms ++ b) ≡ ordering_then (slice_cmp nat_cmp ns ms) (slice_cmp nat_cmp a b)
groups-cmp [] [] a b f g l = refl
groups-cmp [] (m ∷ ms) a b f g l = absurd (omega arith)
groups-cmp (n ∷ ns) [] a b f g l = absurd (omega arith)
groups-cmp (n ∷ ns) (m ∷ ms) a b f g l =
    let front : slice_cmp nat_cmp ((group_text n ++ groups ns) ++ a) ((group_text m ++ groups ms) ++ b) ≡ slice_cmp nat_cmp (group_text n ++ (groups ns ++ a)) (group_text m ++ (groups ms ++ b)) =
    ap (λ x. slice_cmp nat_cmp x ((group_text m ++ groups ms) ++ b)) (append_assoc (group_text n) (groups ns) a) ∙ ap (slice_cmp nat_cmp (group_text n ++ (groups ns ++ a))) (append_assoc (group_text m) (groups ms) b) in
    front
    ∙ group-cmp n m (groups ns ++ a) (groups ms ++ b) f.0 g.0
    ∙ ap (ordering_then (nat_cmp n m)) (groups-cmp ns ms a b f.1 g.1 (omega arith))
    ∙ sym (then_assoc (nat_cmp n m) (slice_cmp nat_cmp ns ms) (slice_cmp nat_cmp a b))

some_list : (a b : List ℕ) → Some a ≡ Some b → a ≡ b
some_list a b h = cc

either_false : (a b : Bool) → a ≡ false → b ≡ false → (a || b) ≡ false
either_false a b p q = rw p q

digit_no_slash : (c : ℕ) → is_ascii_digit c ≡ true → is_slash c ≡ false
digit_no_slash c h = grind (arith, nat_tests)

digits_no_slash : (ds : List ℕ) → list_all is_ascii_digit ds ≡ true → has_slash ds ≡ false
digits_no_slash [] h = refl
digits_no_slash (d ∷ ds) h =
    let parts = and_parts (is_ascii_digit d) (list_all is_ascii_digit ds) h in
    rw (digit_no_slash d parts.0) (digits_no_slash ds parts.1)

pub groups-no_slash : (ns : List ℕ) → Fit ns → has_slash (groups ns) ≡ false
groups-no_slash [] f = refl
groups-no_slash (n ∷ ns) f =
    list_any-append is_slash (twenty n) (groups ns) ∙ either_false _ _ (digits_no_slash (twenty n) (twenty-digits n f.0)) (groups-no_slash ns f.1)

-- ---- a common front says nothing of the order

same_first : (x : ℕ) (p q : List ℕ) (ps qs : List (List ℕ)) → parts_cmp ((x ∷ p) ∷ ps) ((x ∷ q) ∷ qs) ≡ parts_cmp (p ∷ ps) (q ∷ qs)
unfolding parts_cmp
same_first x p q [] [] = rw (equal_is x x refl) refl
same_first x p q [] (z ∷ qs) = refl
same_first x p q (y ∷ ps) [] = refl
same_first x p q (y ∷ ps) (z ∷ qs) = rw (equal_is x x refl) refl

slash_first : (p q : List ℕ) (ps qs : List (List ℕ)) → parts_cmp ([] ∷ p ∷ ps) ([] ∷ q ∷ qs) ≡ parts_cmp (p ∷ ps) (q ∷ qs)
unfolding parts_cmp
slash_first p q ps qs = refl

split_shape : (xs : List ℕ) → (first : List ℕ) × (others : List (List ℕ)) × (slice_split is_slash xs ≡ first ∷ others)
split_shape [] = ([], [], refl)
split_shape (x ∷ xs) = elim (cases_Bool (is_slash x)) [
  | inl slash ↦ ([], slice_split is_slash xs, rw slash refl)
  | inr other ↦
      let r = split_shape xs in
      (x ∷ r.0, r.1, rw (other, r.2) refl)
]

key_cmp-first : (x : ℕ) (a b : List ℕ) → key_cmp (x ∷ a) (x ∷ b) ≡ key_cmp a b
unfolding key_cmp
key_cmp-first x a b =
    let s = split_shape a in
    let t = split_shape b in
    elim (cases_Bool (is_slash x)) [
      | inl slash ↦ rw (slash, s.2, t.2) (slash_first s.0 t.0 s.1 t.1)
      | inr other ↦ rw (other, s.2, t.2) (same_first x s.0 t.0 s.1 t.1)
    ]

pub key_cmp-front : (prefix a b : List ℕ) → key_cmp (prefix ++ a) (prefix ++ b) ≡ key_cmp a b
key_cmp-front [] a b = refl
key_cmp-front (x ∷ prefix) a b = key_cmp-first x (prefix ++ a) (prefix ++ b) ∙ key_cmp-front prefix a b

-- ---- the order of sequence keys

none_in_both : (a b : List ℕ) → has_slash a ≡ false → has_slash b ≡ false → has_slash (a ++ b) ≡ false
none_in_both a b p q = list_any-append is_slash a b ∙ either_false _ _ p q

-- a sequence key against one with more behind its groups
pub more-cmp : (prefix ms ns more : List ℕ) → Fit ms → Fit ns → length ms ≡ length ns → has_slash more ≡ false
    → key_cmp (prefix ++ groups ms) (prefix ++ (groups ns ++ more)) ≡ ordering_then (slice_cmp nat_cmp ms ns) (slice_cmp nat_cmp [] more)
more-cmp prefix ms ns more f g l clean =
    key_cmp-front prefix (groups ms) (groups ns ++ more)
    ∙ key_cmp-neither (groups ms) (groups ns ++ more) (groups-no_slash ms f) (none_in_both (groups ns) more (groups-no_slash ns g) clean)
    ∙ ap (λ x. slice_cmp nat_cmp x (groups ns ++ more)) (sym (append-nil (groups ms)))
    ∙ groups-cmp ms ns [] more f g l

-- sequence keys stand in the order of their numbers
pub sequence-cmp : (prefix ms ns : List ℕ) → Fit ms → Fit ns → length ms ≡ length ns → key_cmp (sequence_key prefix ms) (sequence_key prefix ns) ≡ slice_cmp nat_cmp ms ns
sequence-cmp prefix ms ns f g l =
    ap (λ x. key_cmp (prefix ++ groups ms) (prefix ++ x)) (sym (append-nil (groups ns)))
    ∙ more-cmp prefix ms ns [] f g l refl
    ∙ then_equal (slice_cmp nat_cmp ms ns)

-- ---- what groups say

pub after_prefix-is : (prefix key rest : List ℕ) → after_prefix prefix key ≡ Some rest → key ≡ prefix ++ rest
after_prefix-is [] key rest h = some_list key rest h
after_prefix-is (p ∷ prefix) [] rest h = cc h
after_prefix-is (p ∷ prefix) (b ∷ key) rest h = elim (cases_Bool (p == b)) [
  | inl same ↦
      let e : p ≡ b = eqb-true p b same in
      rw (e, after_prefix-is prefix key rest (rw same at h)) refl
  | inr other ↦ cc (rw other at h)
]

pub after_prefix-of : (prefix rest : List ℕ) → after_prefix prefix (prefix ++ rest) ≡ Some rest
after_prefix-of [] rest = refl
after_prefix-of (p ∷ prefix) rest = rw (eq-eqb p p refl) (after_prefix-of prefix rest)

-- what the bytes are where their groups are these numbers
pub record Says (k : ℕ) (bytes numbers : List ℕ) : Type 0 where
  pub text : bytes ≡ groups numbers
  pub count : length numbers ≡ k
  pub fit : Fit numbers

says_none : (ns : List ℕ) → [] ≡ ns → Says 0 [] ns
says_none ns e = subst (Says 0 []) e (record { text = refl; count = refl; fit = tt })

is_group-is : (digits : List ℕ) → is_group digits ≡ true → (length digits ≡ 20) × (list_all is_ascii_digit digits ≡ true) × (digits_value 10 digits < 2 ^ 64)
is_group-is digits h =
    let front = and_parts (length digits == 20 && list_all is_ascii_digit digits) (nat_le (digits_value 10 digits) greatest_number) h in
    let parts = and_parts (length digits == 20) (list_all is_ascii_digit digits) front.0 in
    let small : digits_value 10 digits ≤ greatest_number = leb-true (digits_value 10 digits) greatest_number front.1 in
    (eqb-true (length digits) 20 parts.0, parts.1, omega arith)

says_more : (k b : ℕ) (bytes ns : List ℕ) (found : Option (List ℕ)) → (b == 45 && is_group (take 20 bytes)) ≡ true → ((ms : List ℕ) → found ≡ Some ms → Says k (drop 20 bytes) ms)
    → option_map (λ numbers. digits_value 10 (take 20 bytes) ∷ numbers) found ≡ Some ns → Says (ℕ.suc k) (b ∷ bytes) ns
says_more k b bytes ns None passes rest h = cc h
says_more k b bytes ns (Some ms) passes rest h =
    let parts = and_parts (b == 45) (is_group (take 20 bytes)) passes in
    let dash : b ≡ 45 = eqb-true b 45 parts.0 in
    let digits = is_group-is (take 20 bytes) parts.1 in
    let v : ℕ = digits_value 10 (take 20 bytes) in
    let others = rest ms refl in
    let front : twenty v ≡ take 20 bytes = twenty-of_value (take 20 bytes) digits.1 digits.0 digits.2 in
    let text : b ∷ bytes ≡ groups (v ∷ ms) = rw dash (ap (λ (x : List ℕ). 45 ∷ x) (sym (take-append-drop 20 bytes) ∙ ap (λ x. take 20 bytes ++ x) others.text ∙ ap (λ x. x ++ groups ms) (sym front))) in
    subst (Says (ℕ.suc k) (b ∷ bytes)) (some_list (v ∷ ms) ns h) (record { text = text; count = ap ℕ.suc others.count; fit = (digits.2, others.fit) })

pub groups_of-is : (k : ℕ) (bytes ns : List ℕ) → groups_of k bytes ≡ Some ns → Says k bytes ns
groups_of-is ℕ.zero [] ns h = says_none ns (some_list [] ns h)
groups_of-is ℕ.zero (b ∷ bytes) ns h = cc h
groups_of-is (ℕ.suc k) [] ns h = cc h
groups_of-is (ℕ.suc k) (b ∷ bytes) ns h = elim (cases_Bool (b == 45 && is_group (take 20 bytes))) [
  | inl passes ↦ says_more k b bytes ns (groups_of k (drop 20 bytes)) passes (λ ms e. groups_of-is k (drop 20 bytes) ms e) (rw passes at h)
  | inr fails ↦ cc (rw fails at h)
]

-- a key with such groups is a sequence key of its numbers
pub record IsSequence (prefix : List ℕ) (k : ℕ) (key numbers : List ℕ) : Type 0 where
  pub text : key ≡ sequence_key prefix numbers
  pub count : length numbers ≡ k
  pub fit : Fit numbers

sequence_at : (prefix : List ℕ) (k : ℕ) (key numbers : List ℕ) (rest : Option (List ℕ)) → after_prefix prefix key ≡ rest → option_and_then (groups_of k) rest ≡ Some numbers → IsSequence prefix k key numbers
sequence_at prefix k key numbers None e h = cc h
sequence_at prefix k key numbers (Some rest) e h =
    let says = groups_of-is k rest numbers h in
    record { text = after_prefix-is prefix key rest e ∙ ap (λ x. prefix ++ x) says.text; count = says.count; fit = says.fit }

pub numbers_of-is : (prefix : List ℕ) (k : ℕ) (key numbers : List ℕ) → numbers_of prefix k key ≡ Some numbers → IsSequence prefix k key numbers
numbers_of-is prefix k key numbers h = sequence_at prefix k key numbers (after_prefix prefix key) refl h

-- ---- the groups of numbers say them

is_group-of : (n : ℕ) → n < 2 ^ 64 → is_group (twenty n) ≡ true
is_group-of n h =
    let long : (length (twenty n) == 20) ≡ true = eq-eqb _ _ (twenty-length n h) in
    let small : nat_le (digits_value 10 (twenty n)) greatest_number ≡ true = le-leb _ _ (rw (twenty-value n h) (omega arith)) in
    rw (long, twenty-digits n h, small) refl

front_is : (n : ℕ) (more : List ℕ) → n < 2 ^ 64 → take 20 (twenty n ++ more) ≡ twenty n
front_is n more h = ap (λ k. take k (twenty n ++ more)) (sym (twenty-length n h)) ∙ take-append_seam (twenty n) more

back_is : (n : ℕ) (more : List ℕ) → n < 2 ^ 64 → drop 20 (twenty n ++ more) ≡ more
back_is n more h = ap (λ k. drop k (twenty n ++ more)) (sym (twenty-length n h)) ∙ drop-append_seam (twenty n) more

groups_of-groups : (ns : List ℕ) → Fit ns → groups_of (length ns) (groups ns) ≡ Some ns
groups_of-groups [] f = refl
groups_of-groups (n ∷ ns) f =
    rw (front_is n (groups ns) f.0, back_is n (groups ns) f.0, is_group-of n f.0, groups_of-groups ns f.1, twenty-value n f.0) refl

pub numbers_of-key : (prefix ns : List ℕ) → Fit ns → numbers_of prefix (length ns) (sequence_key prefix ns) ≡ Some ns
numbers_of-key prefix ns f = ap (option_and_then (groups_of (length ns))) (after_prefix-of prefix (groups ns)) ∙ groups_of-groups ns f
