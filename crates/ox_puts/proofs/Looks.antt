-- What a look at a key shows.
use Rattle.std.proofs.Common.{◌≡◌, ◌≤◌, ◌<◌, ◌∙◌, ◌+◌, ◌-◌, ◌*◌, ℕ, Bool, true, false, List, [], ◌∷◌, ◌++◌, Option, Some, None, length, take, drop, refl, sym, ap, subst, arith, inl, inr, length-append}
use Rattle.std.specs.Prelude.{◌==◌, IfSome, option_and_then}
use Rattle.std.specs.Ordering.{nat_cmp, is_le, ordering_then}
use Rattle.std.specs.Cmp.{tied_itself}
use Rattle.std.specs.Cmp.Lexicographic.{slice_cmp, nat_list_cmp_total}
use Rattle.std.specs.declared.cmp.Ordering.{Ordering}
use Rattle.std.specs.declared.cmp.Ordering.TheVariants.{Less, Equal, Greater}
use Rattle.std.proofs.lemmas.Bool.{eqb-true, eq-eqb}
use Rattle.std.proofs.lemmas.List.{take-append-drop, take_rest, append-nil}
use Rattle.ox_types.specs.Order.{has_slash, key_cmp}
use Rattle.ox_ops.specs.Sequence.{after_prefix, groups_of, numbers_of}
use Rattle.ox_puts.specs.declared.search.Look.{Look}
use Rattle.ox_puts.specs.declared.search.Look.TheVariants.{Numbers, Other}
use Rattle.ox_puts.specs.Search.{IsCut, Sees}
use Rattle.ox_puts.proofs.Bytes.{groups-length}
use Rattle.ox_puts.proofs.Groups.{Fit, groups, Says, groups_of-is, numbers_of-is, after_prefix-of, after_prefix-is, sequence-cmp, more-cmp}

-- so many groups have so many bytes
none_from : (k : ℕ) (bytes : List ℕ) (o : Option (List ℕ)) → groups_of k bytes ≡ o → ¬ (length bytes ≡ 21 * k) → o ≡ None
none_from k bytes None e other = refl
none_from k bytes (Some ns) e other =
    let says = groups_of-is k bytes ns e in
    absurd (other (ap length says.text ∙ groups-length ns says.fit ∙ ap (λ n. 21 * n) says.count))

length_none : (k : ℕ) (bytes : List ℕ) → ¬ (length bytes ≡ 21 * k) → groups_of k bytes ≡ None
length_none k bytes other = none_from k bytes (groups_of k bytes) refl other

behind : (prefix : List ℕ) (k : ℕ) (rest : List ℕ) → numbers_of prefix k (prefix ++ rest) ≡ groups_of k rest
behind prefix k rest = ap (option_and_then (groups_of k)) (after_prefix-of prefix rest)

-- ---- behind the prefix

pub none-seen : (prefix : List ℕ) (k : ℕ) (front more : List ℕ) → length front ≡ 21 * k → None ≡ groups_of k front → Sees prefix k (prefix ++ (front ++ more)) (Other None)
none-seen prefix k front [] l e = behind prefix k (front ++ []) ∙ ap (groups_of k) (append-nil front) ∙ sym e
none-seen prefix k front (b ∷ more) l e =
    let longer = length-append front (b ∷ more) in
    behind prefix k (front ++ b ∷ more) ∙ length_none k (front ++ b ∷ more) (λ same. omega arith)

pub numbers-seen : (prefix : List ℕ) (k : ℕ) (front more numbers : List ℕ) → (length more == 0) ≡ true → Some numbers ≡ groups_of k front → Sees prefix k (prefix ++ (front ++ more)) (Numbers numbers)
numbers-seen prefix k front [] numbers none e = behind prefix k (front ++ []) ∙ ap (groups_of k) (append-nil front) ∙ sym e
numbers-seen prefix k front (b ∷ more) numbers none e = absurd (let zero : ℕ.suc (length more) ≡ 0 = eqb-true (length (b ∷ more)) 0 none in omega arith)

then_less : (r : Ordering) → is_le (ordering_then r Less) ≡ true → is_le r ≡ true
then_less Less h = refl
then_less Equal h = refl
then_less Greater h = cc h

cut_is : (prefix : List ℕ) (k : ℕ) (numbers : List ℕ) (b : ℕ) (more cut : List ℕ) → Says k (groups numbers) numbers → has_slash (b ∷ more) ≡ false → cut ≡ prefix ++ groups numbers → IsCut prefix k (prefix ++ (groups numbers ++ b ∷ more)) cut
cut_is prefix k numbers b more cut says clean e = record {
  less =
      ap (λ x. key_cmp x (prefix ++ (groups numbers ++ b ∷ more))) e
      ∙ more-cmp prefix numbers numbers (b ∷ more) says.fit says.fit refl clean
      ∙ ap (λ r. ordering_then r Less) (tied_itself nat_list_cmp_total numbers);
  none_between = λ q ms there up.
      let one = numbers_of-is prefix k q ms there in
      let l = one.count ∙ sym says.count in
      let against = ap (λ x. is_le (key_cmp x (prefix ++ (groups numbers ++ b ∷ more)))) one.text ∙ ap is_le (more-cmp prefix ms numbers (b ∷ more) one.fit says.fit l clean) in
      ap is_le (λ i. key_cmp (one.text i) (e i)) ∙ ap is_le (sequence-cmp prefix ms numbers one.fit says.fit l) ∙ then_less (slice_cmp nat_cmp ms numbers) (sym against ∙ up);
}

pub cut-seen : (prefix : List ℕ) (k : ℕ) (front more numbers : List ℕ) (cut : Option (List ℕ)) → length front ≡ 21 * k → (length more == 0) ≡ false → Some numbers ≡ groups_of k front
    → IfSome cut (λ c. c ≡ prefix ++ front) → IfSome cut (λ _. has_slash more ≡ false) → Sees prefix k (prefix ++ (front ++ more)) (Other cut)
cut-seen prefix k front [] numbers cut l some e a b = cc some
cut-seen prefix k front (x ∷ more) numbers None l some e a b =
    let longer = length-append front (x ∷ more) in
    behind prefix k (front ++ x ∷ more) ∙ length_none k (front ++ x ∷ more) (λ same. omega arith)
cut-seen prefix k front (x ∷ more) numbers (Some cut) l some e a b =
    let says = groups_of-is k front numbers (sym e) in
    let own : Says k (groups numbers) numbers = record { text = refl; count = says.count; fit = says.fit } in
    subst (λ f. IsCut prefix k (prefix ++ (f ++ x ∷ more)) cut) (sym says.text) (cut_is prefix k numbers x more cut own b (a ∙ ap (λ f. prefix ++ f) says.text))

-- ---- the whole key

pub apart-seen : (prefix : List ℕ) (k : ℕ) (key : List ℕ) → None ≡ after_prefix prefix key → Sees prefix k key (Other None)
apart-seen prefix k key e = ap (option_and_then (groups_of k)) (sym e)

pub short-seen : (prefix : List ℕ) (k : ℕ) (key rest : List ℕ) → Some rest ≡ after_prefix prefix key → length rest < 21 * k → Sees prefix k key (Other None)
short-seen prefix k key rest e short = ap (option_and_then (groups_of k)) (sym e) ∙ length_none k rest (λ same. omega arith)

pub whole-seen : (prefix : List ℕ) (k : ℕ) (key rest front more : List ℕ) (look : Look) → Some rest ≡ after_prefix prefix key → front ++ more ≡ rest → Sees prefix k (prefix ++ (front ++ more)) look → Sees prefix k key look
whole-seen prefix k key rest front more look e parts seen = subst (λ x. Sees prefix k x look) (ap (λ x. prefix ++ x) parts ∙ sym (after_prefix-is prefix key rest (sym e))) seen

-- a slice up to a place, and from there on
pub cut_apart : (n : ℕ) (xs : List ℕ) → take n xs ++ take (length xs - n) (drop n xs) ≡ xs
cut_apart n xs = ap (λ x. take n xs ++ x) (take_rest xs n) ∙ take-append-drop n xs
