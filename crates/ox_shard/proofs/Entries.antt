-- The pairs of an index are those of the records.
use Rattle.std.proofs.Common.{◌≡◌, ◌∙◌, ℕ, Bool, true, false, List, [], ◌∷◌, ◌++◌, Option, Some, None, All, map, filter, find, refl, sym, ap, inl, inr}
use Rattle.std.specs.Prelude.{◌||◌, ◌⊎◌, option_and_then}
use Rattle.std.specs.List.{flat_map, filter_map, list_any}
use Rattle.std.specs.Option.{option_map}
use Rattle.std.specs.Str.{bytes_eq}
use Rattle.std.specs.Ordering.{is_eq}
use Rattle.std.specs.Cmp.{tied_itself}
use Rattle.std.proofs.lemmas.Bool.{cases_Bool}
use Rattle.std.proofs.lemmas.List.{map-append}
use Rattle.std.proofs.lemmas.List.Elements.{filter-append, All-head, All-tail}
use Rattle.std.proofs.lemmas.List.Concat.{flat_map-cons}
use Rattle.ox_types.specs.Comparisons.{equal_of}
use Rattle.ox_types.specs.Lists.{first_of}
use Rattle.ox_table.specs.Table.{IsRising}
use Rattle.ox_order.specs.declared.range.KeyRange.{KeyRange}
use Rattle.ox_order.specs.Range.{in_range}
use Rattle.ox_ops.specs.declared.write.IndexEntry.{IndexEntry}
use Rattle.ox_ops.specs.declared.query.Compare.{Compare}
use Rattle.ox_ops.specs.declared.query.Compare.TheVariants as compare
use Rattle.ox_ops.specs.declared.answer.Record.{Record}
use Rattle.ox_ops.specs.State.{ShardState, has_key, record_of}
use Rattle.ox_ops.specs.Check.{same_entry, has_repeated}
use Rattle.ox_ops.specs.Answer.{IndexPair, sorted, pairs_in, pairs_of, record_of_pair, compared, got, matching}
use Rattle.ox_puts.specs.Records.{keyed}
use Rattle.ox_index.specs.declared.added.Added.{Added}
use Rattle.ox_index.specs.Order.{added_cmp, IsInOrder}
use Rattle.ox_index.specs.OrderTotal.{added_total}
use Rattle.ox_index.specs.OrderLaws.{added_anti}
use Rattle.ox_index.specs.Pairs.{has_name, pair_of, pairs_under, has_added, IsDistinct, in_order_of}
use Rattle.ox_index.specs.PairLaws.{in_order-in_order_of, has-in_order_of, pairs_sorted, told_by_entries}
use Rattle.ox_shard.specs.Lists.{entries_at, added_by, all_added, HasEntriesOf}
use Rattle.ox_shard.specs.Parts.{HasDistinctEntries}
use Rattle.ox_shard.proofs.Keys.{key_of, same_key, itself, at_key, has-append, has-cons, not_below}

-- ---- the pairs of one index

named : (name key : List ℕ) (entries : List IndexEntry) → pairs_under name (entries_at key entries) ≡ map (λ (e : IndexEntry). record { second = e.key; key = key }) (filter (λ (e : IndexEntry). bytes_eq e.name name) entries)
named name key [] = refl
named name key (e ∷ entries) = elim (cases_Bool (bytes_eq e.name name)) [
  | inl here ↦ rw here (ap (λ (ps : List IndexPair). record { second = e.key; key = key } ∷ ps) (named name key entries))
  | inr other ↦ rw other (named name key entries)
]

under-append : (name : List ℕ) (xs ys : List Added) → pairs_under name (xs ++ ys) ≡ pairs_under name xs ++ pairs_under name ys
under-append name xs ys = ap (map pair_of) (filter-append (has_name name) xs ys) ∙ map-append pair_of (filter (has_name name) xs) (filter (has_name name) ys)

all_pairs : (name : List ℕ) (rs : List Record) → pairs_under name (all_added rs) ≡ flat_map (pairs_in name) rs
all_pairs name [] = refl
all_pairs name (r ∷ rs) =
    ap (pairs_under name) (flat_map-cons added_by r rs) ∙ under-append name (added_by r) (all_added rs)
    ∙ (λ i. named name r.key r.indexes i ++ all_pairs name rs i) ∙ sym (flat_map-cons (pairs_in name) r rs)

-- ---- no entry is there twice

same_at : (key : List ℕ) (a b : IndexEntry) → is_eq (added_cmp (record { entry = b; key = key }) (record { entry = a; key = key })) ≡ true → same_entry a b ≡ true
same_at key a b e =
    let one : b ≡ a = ap (λ (x : Added). x.entry) (added_anti (record { entry = b; key = key }) (record { entry = a; key = key }) (equal_of _ e)) in
    rw one (rw (itself a.name, itself a.key) refl)

not_repeated : (key : List ℕ) (a : IndexEntry) (entries : List IndexEntry) → list_any (same_entry a) entries ≡ false → has_added (record { entry = a; key = key }) (entries_at key entries) ≡ false
not_repeated key a [] e = refl
not_repeated key a (b ∷ entries) e = elim (cases_Bool (is_eq (added_cmp (record { entry = b; key = key }) (record { entry = a; key = key })))) [
  | inl same ↦ absurd (wrong (same_entry a b) (list_any (same_entry a) entries) (same_at key a b same) e)
  | inr other ↦ rw other (not_repeated key a entries (rest (same_entry a b) (list_any (same_entry a) entries) e))
]
  where
    wrong : (p q : Bool) → p ≡ true → (p || q) ≡ false → ⊥
    wrong true q e f = cc
    wrong false q e f = cc

    rest : (p q : Bool) → (p || q) ≡ false → q ≡ false
    rest true q f = cc
    rest false q f = f

distinct_at : (key : List ℕ) (entries : List IndexEntry) → has_repeated entries ≡ false → IsDistinct (entries_at key entries)
distinct_at key [] e = tt
distinct_at key (a ∷ entries) e = (not_repeated key a entries (first _ _ e), distinct_at key entries (rest _ _ e))
  where
    first : (p q : Bool) → (p || q) ≡ false → p ≡ false
    first true q f = cc
    first false q f = refl

    rest : (p q : Bool) → (p || q) ≡ false → q ≡ false
    rest true q f = cc
    rest false q f = f

tied : (a : Added) → is_eq (added_cmp a a) ≡ true
tied a = ap is_eq (tied_itself added_total a)

or_right : (p q : Bool) → q ≡ true → (p || q) ≡ true
or_right true q e = refl
or_right false q e = e

distinct-append : (xs ys : List Added) → IsDistinct xs → IsDistinct ys → ((a : Added) → has_added a xs ≡ true → has_added a ys ≡ false) → IsDistinct (xs ++ ys)
distinct-append [] ys x y h = y
distinct-append (a ∷ xs) ys x y h =
    let here : has_added a (a ∷ xs) ≡ true = rw (tied a) refl in
    (has-append a xs ys ∙ rw (x.0, h a here) refl, distinct-append xs ys x.1 y (λ b e. h b (or_right (is_eq (added_cmp a b)) (has_added b xs) e)))

distinct : (rs : List Record) → IsRising (keyed rs) → All HasDistinctEntries rs → IsDistinct (all_added rs)
distinct [] h each = tt
distinct (r ∷ rs) h each =
    rw (flat_map-cons added_by r rs) (distinct-append (added_by r) (all_added rs) (distinct_at r.key r.indexes (All-head HasDistinctEntries r rs each)) (distinct rs h.1 (All-tail HasDistinctEntries r rs each))
    (λ a e. not_below a rs (rw (at_key a r.key r.indexes e) h.0)))

-- ---- an index that has the entries of the records

module _ (index : List Added) (rs : List Record) (has : HasEntriesOf index rs) where
  pub pairs-are : IsInOrder index → IsRising (keyed rs) → All HasDistinctEntries rs → (name : List ℕ) → pairs_under name index ≡ pairs_of name rs
  pairs-are order rising each name =
      let d = distinct rs rising each in
      let same : index ≡ in_order_of (all_added rs) = told_by_entries index (in_order_of (all_added rs)) order (in_order-in_order_of (all_added rs)) (λ q. has q ∙ sym (has-in_order_of q (all_added rs) d)) in
      ap (pairs_under name) same ∙ pairs_sorted name (all_added rs) d ∙ ap sorted (all_pairs name rs)

-- ---- the records behind the pairs

pub first_is_found : {X : Type 0} (t : X → Bool) (xs : List X) → first_of (filter t xs) ≡ find t xs
first_is_found t [] = refl
first_is_found t (x ∷ xs) = elim (cases_Bool (t x)) [
  | inl passes ↦ rw passes refl
  | inr fails ↦ rw fails (first_is_found t xs)
]

-- a get of the key of the pair that was found
pub got-by : (s : ShardState) (c : Compare) (second name : List ℕ) (pairs : List IndexPair) (o : Option (List ℕ)) → pairs ≡ pairs_of name s.records
    → o ≡ option_map (λ (p : IndexPair). p.key) (compared (λ (p : IndexPair). p.second) c second pairs) → (found : Option Record) → found ≡ option_and_then (λ k. compared key_of compare.Equal k s.records) o → found ≡ got s c second (Some name)
got-by s c second name pairs o e of found is =
    is ∙ ap (option_and_then (λ k. compared key_of compare.Equal k s.records)) (of ∙ ap (λ ps. option_map (λ (p : IndexPair). p.key) (compared (λ (p : IndexPair). p.second) c second ps)) e)
    ∙ step (compared (λ (p : IndexPair). p.second) c second (pairs_of name s.records))
  where
    step : (p : Option IndexPair) → option_and_then (λ k. compared key_of compare.Equal k s.records) (option_map (λ (p : IndexPair). p.key) p) ≡ option_and_then (record_of_pair s.records) p
    step None = refl
    step (Some p) = first_is_found (has_key p.key) s.records

-- the records of the pairs
pub found-pairs : (rs : List Record) (entries : List Added) → filter_map (λ (a : Added). record_of a.key rs) entries ≡ filter_map (record_of_pair rs) (map pair_of entries)
found-pairs rs [] = refl
found-pairs rs (a ∷ entries) = by_case (record_of a.key rs) refl (found-pairs rs entries)
  where
    by_case : (o : Option Record) → record_of a.key rs ≡ o → filter_map (λ (a : Added). record_of a.key rs) entries ≡ filter_map (record_of_pair rs) (map pair_of entries)
        → filter_map (λ (a : Added). record_of a.key rs) (a ∷ entries) ≡ filter_map (record_of_pair rs) (map pair_of (a ∷ entries))
    by_case None e rest = rw e rest
    by_case (Some r) e rest = rw e (ap (λ xs. r ∷ xs) rest)

-- each pair has a record
abbrev HaveRecords : List Record → List IndexPair → Type 0
HaveRecords rs [] = Unit {0}
HaveRecords rs (p ∷ ps) = ((r : Record) × (record_of p.key rs ≡ Some r)) × HaveRecords rs ps

has_record : (q : Added) (rs : List Record) → has_added q (all_added rs) ≡ true → (r : Record) × (record_of q.key rs ≡ Some r)
has_record q [] e = absurd cc
has_record q (r ∷ rs) e = elim (cases_Bool (bytes_eq r.key q.key)) [
  | inl here ↦ (r, rw here refl)
  | inr other ↦
      let none : has_added q (added_by r) ≡ false = not_own (cases_Bool (has_added q (added_by r))) other in
      let more = has_record q rs (rw none at (sym (has-cons q r rs) ∙ e)) in
      (more.0, rw other more.1)
]
  where
    not_own : (has_added q (added_by r) ≡ true) ⊎ (has_added q (added_by r) ≡ false) → bytes_eq r.key q.key ≡ false → has_added q (added_by r) ≡ false
    not_own (inl here) other = cc (sym (itself r.key) ∙ ap (bytes_eq r.key) (sym (at_key q r.key r.indexes here)) ∙ other)
    not_own (inr fails) other = fails

-- each pair of an index of the records has a record
in_index : (name : List ℕ) (rs : List Record) (xs : List Added) → ((q : Added) → has_added q xs ≡ true → has_added q (all_added rs) ≡ true) → HaveRecords rs (pairs_under name xs)
in_index name rs [] h = tt
in_index name rs (a ∷ xs) h =
    let own : has_added a (a ∷ xs) ≡ true = rw (tied a) refl in
    let more : HaveRecords rs (pairs_under name xs) = in_index name rs xs (λ q e. h q (or_right (is_eq (added_cmp a q)) (has_added q xs) e)) in
    elim (cases_Bool (has_name name a)) [
      | inl here ↦ rw here (has_record a rs (h a own), more)
      | inr other ↦ rw other more
    ]

have-filter : (rs : List Record) (t : IndexPair → Bool) (ps : List IndexPair) → HaveRecords rs ps → HaveRecords rs (filter t ps)
have-filter rs t [] h = tt
have-filter rs t (p ∷ ps) h = elim (cases_Bool (t p)) [
  | inl passes ↦ rw passes (h.0, have-filter rs t ps h.1)
  | inr fails ↦ rw fails (have-filter rs t ps h.1)
]

found_key : (key : List ℕ) (rs : List Record) (r : Record) → record_of key rs ≡ Some r → r.key ≡ key
found_key key [] r e = cc e
found_key key (x ∷ rs) r e = elim (cases_Bool (bytes_eq x.key key)) [
  | inl here ↦ let same : Some x ≡ Some r = rw here at e in let is : x ≡ r = cc same in ap key_of (sym is) ∙ same_key x.key key here
  | inr other ↦ found_key key rs r (rw other at e)
]

keys-found : (rs : List Record) (ps : List IndexPair) → HaveRecords rs ps → map key_of (filter_map (record_of_pair rs) ps) ≡ map (λ (p : IndexPair). p.key) ps
keys-found rs [] h = refl
keys-found rs (p ∷ ps) h = rw h.0.1 (λ i. found_key p.key rs h.0.0 h.0.1 i ∷ keys-found rs ps h.1 i)

keys_behind : (entries : List Added) → map (λ (a : Added). a.key) entries ≡ map (λ (p : IndexPair). p.key) (map pair_of entries)
keys_behind [] = refl
keys_behind (a ∷ entries) = ap (λ ks. a.key ∷ ks) (keys_behind entries)

module _ (s : ShardState) (index : List Added) (has : HasEntriesOf index s.records) (order : IsInOrder index) (rising : IsRising (keyed s.records)) (each : All HasDistinctEntries s.records) (range : KeyRange) (name : List ℕ) (entries : List Added)
    (are : map pair_of entries ≡ filter (λ (p : IndexPair). in_range range p.second) (pairs_under name index)) where
  pairs : map pair_of entries ≡ filter (λ (p : IndexPair). in_range range p.second) (pairs_of name s.records)
  pairs = are ∙ ap (filter (λ (p : IndexPair). in_range range p.second)) (pairs-are index s.records has order rising each name)

  -- the keys of the entries are those of the records that a list by the index matches
  pub listed-by : map (λ (a : Added). a.key) entries ≡ map key_of (matching s range (Some name))
  listed-by =
      let have : HaveRecords s.records (filter (λ (p : IndexPair). in_range range p.second) (pairs_under name index)) =
      have-filter s.records (λ (p : IndexPair). in_range range p.second) (pairs_under name index) (in_index name s.records index (λ q e. sym (has q) ∙ e)) in
      keys_behind entries ∙ ap (map (λ (p : IndexPair). p.key)) are
      ∙ sym (keys-found s.records (filter (λ (p : IndexPair). in_range range p.second) (pairs_under name index)) have)
      ∙ ap (λ ps. map key_of (filter_map (record_of_pair s.records) ps)) (sym are ∙ pairs)

  -- the records of the entries are those that a scan by the index matches
  pub scanned-by : filter_map (λ (a : Added). record_of a.key s.records) entries ≡ matching s range (Some name)
  scanned-by = found-pairs s.records entries ∙ ap (filter_map (record_of_pair s.records)) pairs
