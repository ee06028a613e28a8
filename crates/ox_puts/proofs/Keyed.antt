-- What the words of a table say where each value is a record behind its key.
use Rattle.std.proofs.Common.{◌≡◌, ◌∙◌, ℕ, Bool, true, false, List, [], ◌∷◌, ◌++◌, Option, Some, None, map, filter, find, refl, sym, ap, inl, inr}
use Rattle.std.specs.Prelude.{not}
use Rattle.std.specs.List.{last_or}
use Rattle.std.specs.Option.{option_map}
use Rattle.std.specs.Str.{bytes_eq}
use Rattle.std.specs.Ordering.{is_lt, is_le, is_eq, is_ne, is_ge, is_gt, ordering_reverse}
use Rattle.std.specs.declared.cmp.Ordering.{Ordering}
use Rattle.std.specs.declared.cmp.Ordering.TheVariants as ordering
use Rattle.std.proofs.lemmas.Bool.{cases_Bool}
use Rattle.std.proofs.lemmas.List.{map-append}
use Rattle.ox_types.specs.Order.{key_cmp}
use Rattle.ox_types.specs.OrderLaws.{key_total, key_ties}
use Rattle.ox_types.specs.Lists.{first_of, last_of}
use Rattle.ox_order.specs.Range.{in_range}
use Rattle.ox_order.specs.declared.range.KeyRange.{KeyRange}
use Rattle.ox_table.specs.Table.{Pairs, table_get, floor_of, ceiling_of, lower_of, higher_of, inserted, removed, within, without}
use Rattle.ox_ops.specs.declared.answer.Record.{Record}
use Rattle.ox_ops.specs.declared.query.Compare.TheVariants as compare
use Rattle.ox_ops.specs.State.{has_key, record_of, without_key, with_record}
use Rattle.ox_ops.specs.Answer.{compared}
use Rattle.ox_puts.specs.Records.{keyed, records_in}

abbrev key_of : Record → List ℕ
key_of r = r.key

-- ---- lists

pub filter-keyed : (t : List ℕ × Record → Bool) (rs : List Record) → filter t (keyed rs) ≡ keyed (filter (λ (r : Record). t (r.key, r)) rs)
filter-keyed t [] = refl
filter-keyed t (r ∷ rs) = elim (cases_Bool (t (r.key, r))) [
  | inl passes ↦ rw passes (ap (λ (ps : Pairs Record). (r.key, r) ∷ ps) (filter-keyed t rs))
  | inr fails ↦ rw fails (filter-keyed t rs)
]

find-keyed : (t : List ℕ × Record → Bool) (rs : List Record) → option_map (λ (p : List ℕ × Record). p.1) (find t (keyed rs)) ≡ find (λ (r : Record). t (r.key, r)) rs
find-keyed t [] = refl
find-keyed t (r ∷ rs) = elim (cases_Bool (t (r.key, r))) [
  | inl passes ↦ rw passes refl
  | inr fails ↦ rw fails (find-keyed t rs)
]

module _ {X : Type 0} where
  pub filter_same : (s t : X → Bool) → ((x : X) → s x ≡ t x) → (xs : List X) → filter s xs ≡ filter t xs
  filter_same s t h [] = refl
  filter_same s t h (x ∷ xs) = elim (cases_Bool (t x)) [
    | inl passes ↦ rw (h x, passes) (ap (λ (ys : List X). x ∷ ys) (filter_same s t h xs))
    | inr fails ↦ rw (h x, fails) (filter_same s t h xs)
  ]

  find_same : (s t : X → Bool) → ((x : X) → s x ≡ t x) → (xs : List X) → find s xs ≡ find t xs
  find_same s t h [] = refl
  find_same s t h (x ∷ xs) = elim (cases_Bool (t x)) [
    | inl passes ↦ rw (h x, passes) refl
    | inr fails ↦ rw (h x, fails) (find_same s t h xs)
  ]

  pub first_of-filter : (t : X → Bool) (xs : List X) → first_of (filter t xs) ≡ find t xs
  first_of-filter t [] = refl
  first_of-filter t (x ∷ xs) = elim (cases_Bool (t x)) [
    | inl passes ↦ rw passes refl
    | inr fails ↦ rw fails (first_of-filter t xs)
  ]

last_from : (r : Record) (rs : List Record) → option_map (λ (p : List ℕ × Record). p.1) (last_or (Some (r.key, r)) (keyed rs)) ≡ last_of (r ∷ rs)
last_from r [] = refl
last_from r (s ∷ rs) = last_from s rs

last-keyed : (rs : List Record) → option_map (λ (p : List ℕ × Record). p.1) (last_or None (keyed rs)) ≡ last_of rs
last-keyed [] = refl
last-keyed (r ∷ rs) = last_from r rs

pub records_in-keyed : (rs : List Record) → records_in (keyed rs) ≡ rs
records_in-keyed [] = refl
records_in-keyed (r ∷ rs) = ap (λ (xs : List Record). r ∷ xs) (records_in-keyed rs)

-- ---- comparisons

is_eq-bytes : (a b : List ℕ) → is_eq (key_cmp a b) ≡ bytes_eq a b
is_eq-bytes a b = sym (key_ties a b)

is_ne-bytes : (a b : List ℕ) → is_ne (key_cmp a b) ≡ not (bytes_eq a b)
is_ne-bytes a b = not_eq (key_cmp a b) ∙ ap not (is_eq-bytes a b)
  where
    not_eq : (r : Ordering) → is_ne r ≡ not (is_eq r)
    not_eq ordering.Less = refl
    not_eq ordering.Equal = refl
    not_eq ordering.Greater = refl

is_gt-turned : (a b : List ℕ) → is_gt (key_cmp a b) ≡ is_lt (key_cmp b a)
is_gt-turned a b = ap is_gt (key_total.antisymm a b) ∙ turned (key_cmp b a)
  where
    turned : (r : Ordering) → is_gt (ordering_reverse r) ≡ is_lt r
    turned ordering.Less = refl
    turned ordering.Equal = refl
    turned ordering.Greater = refl

is_ge-turned : (a b : List ℕ) → is_ge (key_cmp a b) ≡ is_le (key_cmp b a)
is_ge-turned a b = ap is_ge (key_total.antisymm a b) ∙ turned (key_cmp b a)
  where
    turned : (r : Ordering) → is_ge (ordering_reverse r) ≡ is_le r
    turned ordering.Less = refl
    turned ordering.Equal = refl
    turned ordering.Greater = refl

-- ---- what a table finds

abbrev pub second : Option (List ℕ × Record) → Option Record
second o = option_map (λ (p : List ℕ × Record). p.1) o

module _ (pairs : Pairs Record) (rs : List Record) (key : List ℕ) (e : pairs ≡ keyed rs) where
  pub get-keyed : table_get pairs key ≡ record_of key rs
  get-keyed = rw e (find-keyed _ rs ∙ find_same _ _ (λ r. is_eq-bytes r.key key) rs)

  pub equal-keyed : table_get pairs key ≡ compared key_of compare.Equal key rs
  equal-keyed = get-keyed ∙ sym (first_of-filter _ rs)

  pub floor-keyed : second (floor_of pairs key) ≡ compared key_of compare.Floor key rs
  floor-keyed = rw (e, filter-keyed) (last-keyed (filter (λ (r : Record). is_le (key_cmp r.key key)) rs))

  pub lower-keyed : second (lower_of pairs key) ≡ compared key_of compare.Lower key rs
  lower-keyed = rw (e, filter-keyed) (last-keyed (filter (λ (r : Record). is_lt (key_cmp r.key key)) rs))

  pub ceiling-keyed : second (ceiling_of pairs key) ≡ compared key_of compare.Ceiling key rs
  ceiling-keyed = rw e (find-keyed _ rs ∙ find_same _ _ (λ r. is_ge-turned r.key key) rs ∙ sym (first_of-filter _ rs))

  pub higher-keyed : second (higher_of pairs key) ≡ compared key_of compare.Higher key rs
  higher-keyed = rw e (find-keyed _ rs ∙ find_same _ _ (λ r. is_gt-turned r.key key) rs ∙ sym (first_of-filter _ rs))

  pub removed-keyed : removed pairs key ≡ keyed (without_key key rs)
  removed-keyed = rw e (filter-keyed _ rs ∙ ap keyed (filter_same _ _ (λ r. is_ne-bytes r.key key) rs))

module _ (pairs : Pairs Record) (rs : List Record) (e : pairs ≡ keyed rs) where
  inserted_at : (r : Record) → inserted pairs r.key r ≡ keyed (with_record r rs)
  inserted_at r =
      let low = filter-keyed (λ p. is_lt (key_cmp p.0 r.key)) rs in
      let high = filter-keyed (λ p. is_gt (key_cmp p.0 r.key)) rs ∙ ap keyed (filter_same (λ (x : Record). is_gt (key_cmp x.key r.key)) (λ (x : Record). is_lt (key_cmp r.key x.key)) (λ (x : Record). is_gt-turned x.key r.key) rs) in
      rw (e, low, high, map-append) refl

  pub inserted-keyed : (r : Record) (key : List ℕ) → key ≡ r.key → inserted pairs key r ≡ keyed (with_record r rs)
  inserted-keyed r key same = rw same (inserted_at r)

  pub within-keyed : (range : KeyRange) → within range pairs ≡ keyed (filter (λ (r : Record). in_range range r.key) rs)
  within-keyed range = rw e (filter-keyed _ rs)

  pub without-keyed : (range : KeyRange) → without range pairs ≡ keyed (filter (λ (r : Record). not (in_range range r.key)) rs)
  without-keyed range = rw e (filter-keyed _ rs)

-- the records behind an edit, which still stand behind their keys
pub keyed-again : (pairs : Pairs Record) (rs : List Record) → pairs ≡ keyed rs → (records_in pairs ≡ rs) × (pairs ≡ keyed (records_in pairs))
keyed-again pairs rs e =
    let back : records_in pairs ≡ rs = ap records_in e ∙ records_in-keyed rs in
    (back, e ∙ ap keyed (sym back))
