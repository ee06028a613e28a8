-- The next key of a sequence has no record yet.
use Rattle.std.proofs.Common.{◌≡◌, ◌≤◌, ◌<◌, ◌∙◌, ◌+◌, ◌-◌, ◌^◌, ℕ, Bool, true, false, List, [], ◌∷◌, Option, Some, None, Result, Ok, Err, length, map, find, fold, replicate, nat_eq, refl, sym, ap, subst, arith, inl, inr}
use Rattle.std.specs.Prelude.{◌==◌, nat_le, nat_lt}
use Rattle.std.specs.List.{filter_map, cons_option}
use Rattle.std.specs.Ordering.{nat_cmp, is_lt, is_le, ordering_then, ordering_reverse}
use Rattle.std.specs.Cmp.{tied_itself}
use Rattle.std.specs.Cmp.Lexicographic.{slice_cmp, nat_list_cmp_total, pointwise}
use Rattle.std.specs.declared.cmp.Ordering.{Ordering}
use Rattle.std.specs.declared.cmp.Ordering.TheVariants.{Less, Equal, Greater}
use Rattle.std.proofs.lemmas.Bool.{cases_Bool, leb-true}
use Rattle.std.proofs.lemmas.Bool.Decides.{nat_tests}
use Rattle.std.proofs.lemmas.List.{length-replicate}
use Rattle.std.proofs.lemmas.Option.{same_Some}
use Rattle.ox_types.specs.Order.{key_cmp}
use Rattle.ox_types.specs.OrderLaws.{key_ties, key_anti}
use Rattle.ox_types.specs.Comparisons.{equal_of}
use Rattle.ox_ops.specs.declared.write.Put.{Put}
use Rattle.ox_ops.specs.declared.answer.Record.{Record}
use Rattle.ox_ops.specs.State.{ShardState, has_key, record_of}
use Rattle.ox_ops.specs.Sequence.{sequence_key, numbers_of, greater_of, last_numbers, raised, spent_from, greatest_number, key_or_group, next_key}
use Rattle.ox_ops.specs.Check.{put_fault, has_deltas, begins_with_0}
use Rattle.ox_ops.specs.Operation.{put_key}
use Rattle.ox_puts.specs.Search.{IsIn}
use Rattle.ox_puts.proofs.Digits.{greater_is}
use Rattle.ox_puts.proofs.Groups.{Fit, numbers_of-is, numbers_of-key}
use Rattle.ox_puts.proofs.Greatest.{le, AllLe, le_cases, numbers_anti, found_in, in_found}
use Rattle.ox_puts.proofs.Raised.{raised-length}
use Rattle.ox_puts.proofs.Lawful.{few-deltas}

le_itself : (a : List ℕ) → le a a
le_itself a = ap is_le (tied_itself nat_list_cmp_total a)

le_trans : (a b c : List ℕ) → le a b → le b c → le a c
le_trans a b c p q = elim (le_cases (slice_cmp nat_cmp a b) p) [
  | inl ab ↦ elim (le_cases (slice_cmp nat_cmp b c) q) [
    | inl bc ↦ ap is_le (nat_list_cmp_total.trans a b c ab bc)
    | inr same ↦ subst (le a) (numbers_anti b c same) p
  ]
  | inr same ↦ subst (λ x. le x c) (sym (numbers_anti a b same)) q
]

-- ---- the greatest is above all

less_le : (r : Ordering) → is_lt r ≡ true → is_le r ≡ true
less_le Less h = refl
less_le Equal h = cc h
less_le Greater h = cc h

not_less_le : (r : Ordering) → is_lt r ≡ false → is_le (ordering_reverse r) ≡ true
not_less_le Less h = cc h
not_less_le Equal h = refl
not_less_le Greater h = refl

first_le : (a x : List ℕ) → le a (greater_of a x)
first_le a x = elim (cases_Bool (is_lt (slice_cmp nat_cmp a x))) [
  | inl less ↦ rw less (less_le (slice_cmp nat_cmp a x) less)
  | inr other ↦ rw other (le_itself a)
]

second_le : (a x : List ℕ) → le x (greater_of a x)
second_le a x = elim (cases_Bool (is_lt (slice_cmp nat_cmp a x))) [
  | inl less ↦ rw less (le_itself x)
  | inr other ↦ rw other (ap is_le (nat_list_cmp_total.antisymm x a) ∙ not_less_le (slice_cmp nat_cmp a x) other)
]

fold_first : (xs : List (List ℕ)) (a : List ℕ) → le a (fold greater_of a xs)
fold_first [] a = le_itself a
fold_first (x ∷ xs) a = le_trans a (greater_of a x) (fold greater_of (greater_of a x) xs) (first_le a x) (fold_first xs (greater_of a x))

fold_above : (xs : List (List ℕ)) (a x : List ℕ) → IsIn x xs → le x (fold greater_of a xs)
fold_above [] a x h = absurd h
fold_above (y ∷ xs) a x (inl same) = subst (λ z. le z (fold greater_of (greater_of a y) xs)) same (le_trans y (greater_of a y) (fold greater_of (greater_of a y) xs) (second_le a y) (fold_first xs (greater_of a y)))
fold_above (y ∷ xs) a x (inr more) = fold_above xs (greater_of a y) x more

-- ---- and has as many numbers

abbrev AllLong : List (List ℕ) → ℕ → Type 0
AllLong [] k = Unit {0}
AllLong (x ∷ xs) k = (length x ≡ k) × AllLong xs k

greater_long : (a x : List ℕ) (k : ℕ) → length a ≡ k → length x ≡ k → length (greater_of a x) ≡ k
greater_long a x k p q = elim (cases_Bool (is_lt (slice_cmp nat_cmp a x))) [
  | inl less ↦ rw less q
  | inr other ↦ rw other p
]

fold_long : (xs : List (List ℕ)) (a : List ℕ) (k : ℕ) → length a ≡ k → AllLong xs k → length (fold greater_of a xs) ≡ k
fold_long [] a k p h = p
fold_long (x ∷ xs) a k p h = fold_long xs (greater_of a x) k (greater_long a x k p h.0) h.1

module _ (prefix : List ℕ) (k : ℕ) where
  long_at : (rs : List Record) (o : Option (List ℕ)) → ((numbers : List ℕ) → o ≡ Some numbers → length numbers ≡ k) → AllLong (found_in prefix k rs) k → AllLong (cons_option o (found_in prefix k rs)) k
  long_at rs None one others = others
  long_at rs (Some x) one others = (one x refl, others)

  found_long : (rs : List Record) → AllLong (found_in prefix k rs) k
  found_long [] = tt
  found_long (r ∷ rs) = long_at rs (numbers_of prefix k r.key) (λ numbers e. let it = numbers_of-is prefix k r.key numbers e in it.count) (found_long rs)

  last_long : (rs : List Record) → length (last_numbers (map (λ (r : Record). r.key) rs) prefix k) ≡ k
  last_long rs = fold_long (found_in prefix k rs) (replicate k 0) k (length-replicate k 0) (found_long rs)

-- ---- the raised numbers are past it

fits_from : (i : ℕ) (ns : List ℕ) → spent_from i ns ≡ None → Fit ns
fits_from i [] h = tt
fits_from i (n ∷ ns) h = elim (cases_Bool (nat_le n greatest_number)) [
  | inl fits ↦ let small : n ≤ greatest_number = leb-true n greatest_number fits in (omega arith, fits_from (i + 1) ns (rw fits at h))
  | inr over ↦ cc (rw over at h)
]

raised_past : (last deltas : List ℕ) (d : ℕ) → 0 < d → 0 < length last → le (raised last (d ∷ deltas)) last → ⊥
raised_past [] deltas d p l h = omega arith
raised_past (n ∷ last) deltas d p l h =
    let past : nat_cmp (n + d) n ≡ Greater = greater_is (n + d) n (omega arith) in
    cc (rw past at h)

-- ---- the key has no record

same_key : (a b : List ℕ) → pointwise nat_eq a b ≡ true → a ≡ b
same_key a b h = key_anti a b (equal_of (key_cmp a b) (sym (key_ties a b) ∙ h))

found_there : (key : List ℕ) (rs : List Record) (r : Record) → record_of key rs ≡ Some r → IsIn r rs × (r.key ≡ key)
found_there key [] r h = cc h
found_there key (x ∷ rs) r h = elim (cases_Bool (has_key key x)) [
  | inl same ↦
      let e : x ≡ r = same_Some x r (rw same at h) in
      (inl e, sym (ap (λ (y : Record). y.key) e) ∙ same_key x.key key same)
  | inr other ↦ let rest = found_there key rs r (rw other at h) in (inr rest.0, rest.1)
]

ok_key : (prefix numbers key : List ℕ) (o : Option ℕ) → key_or_group prefix numbers o ≡ Ok key → (o ≡ None) × (sequence_key prefix numbers ≡ key)
ok_key prefix numbers key None h = let e : sequence_key prefix numbers ≡ key = cc h in (refl, e)
ok_key prefix numbers key (Some group) h = cc h

never : (rs : List Record) (prefix deltas : List ℕ) (d : ℕ) (key : List ℕ) (r : Record) → 0 < d → next_key (map (λ (r : Record). r.key) rs) prefix (d ∷ deltas) ≡ Ok key → record_of key rs ≡ Some r → ⊥
unfolding next_key
never rs prefix deltas d key r p h e =
    let k : ℕ = length (d ∷ deltas) in
    let last : List ℕ = last_numbers (map (λ (r : Record). r.key) rs) prefix k in
    let numbers : List ℕ = raised last (d ∷ deltas) in
    let made = ok_key prefix numbers key (spent_from 0 numbers) h in
    let fit : Fit numbers = fits_from 0 numbers made.0 in
    let long : length last ≡ k = last_long prefix k rs in
    let count : length numbers ≡ k = raised-length last (d ∷ deltas) ∙ long in
    let there = found_there key rs r e in
    let says : numbers_of prefix k r.key ≡ Some numbers =
    ap (numbers_of prefix k) (there.1 ∙ sym made.1) ∙ ap (λ n. numbers_of prefix n (sequence_key prefix numbers)) (sym count) ∙ numbers_of-key prefix numbers fit in
    let up : le numbers last = fold_above (found_in prefix k rs) (replicate k 0) numbers (in_found prefix k rs r numbers there.0 says) in
    raised_past last deltas d p (omega arith) up

none_there : (o : Option Record) → ((r : Record) → o ≡ Some r → ⊥) → o ≡ None
none_there None h = refl
none_there (Some r) h = absurd (h r refl)

fresh_at : (s : ShardState) (p : Put) (deltas key : List ℕ) → begins_with_0 deltas ≡ false → has_deltas deltas ≡ true → put_key s p deltas ≡ Ok key → record_of key s.records ≡ None
fresh_at s p [] key a b h = cc b
fresh_at s p (d ∷ deltas) key a b h =
    let some : 0 < d = grind (arith, nat_tests) in
    none_there (record_of key s.records) (λ r e. never s.records p.key deltas d key r some h e)

-- a put with deltas makes a key that has no record
pub fresh : (s : ShardState) (p : Put) (key : List ℕ) → put_fault p ≡ None → has_deltas p.deltas ≡ true → put_key s p p.deltas ≡ Ok key → record_of key s.records ≡ None
fresh s p key f b h = fresh_at s p p.deltas key (few-deltas p f).1 b h
