-- A record that is stored joins its session and its indexes.
use Rattle.std.proofs.Common.{◌≡◌, ◌∙◌, ℕ, Bool, true, false, List, [], ◌∷◌, ◌++◌, Some, All, map, filter, refl, sym, ap, inl, inr}
use Rattle.std.specs.Prelude.{◌||◌, if◌then◌else◌}
use Rattle.std.specs.Str.{bytes_eq}
use Rattle.std.specs.Ordering.{is_lt, is_eq, ordering_reverse}
use Rattle.std.specs.declared.cmp.Ordering.{Ordering}
use Rattle.std.specs.declared.cmp.Ordering.TheVariants.{Less, Equal, Greater}
use Rattle.std.proofs.lemmas.Bool.{cases_Bool}
use Rattle.std.proofs.lemmas.List.{map-append}
use Rattle.std.proofs.lemmas.List.Elements.{All-append, All-cons, All-filter, filter-append}
use Rattle.ox_types.specs.Order.{key_cmp, IsBefore}
use Rattle.ox_types.specs.OrderLaws.{key_total, key_ties}
use Rattle.ox_table.specs.Table.{IsBelow, IsRising}
use Rattle.ox_ops.specs.declared.answer.Record.{Record}
use Rattle.ox_ops.specs.State.{without_key, with_record, is_member, members_of}
use Rattle.ox_session.specs.Keys as keys
use Rattle.ox_puts.specs.Records.{keyed}
use Rattle.ox_index.specs.declared.added.Added.{Added}
use Rattle.ox_index.specs.Pairs.{has_added}
use Rattle.ox_shard.specs.Lists.{added_by, all_added, joined_by}
use Rattle.ox_shard.proofs.Keys.{key_of, has-cons}
use Rattle.ox_shard.proofs.Leaving.{keys_of, keys-in, keys-out}

-- the records before a key and those past it
abbrev pub before : List ℕ → List Record → List Record
before key rs = filter (λ (x : Record). is_lt (key_cmp x.key key)) rs

abbrev pub behind : List ℕ → List Record → List Record
behind key rs = filter (λ (x : Record). is_lt (key_cmp key x.key)) rs

-- ---- the records around a key

turned : (a b : List ℕ) (r : Ordering) → key_cmp a b ≡ r → key_cmp b a ≡ ordering_reverse r
turned a b r e = key_total.antisymm b a ∙ ap ordering_reverse e

no_before : (key k : List ℕ) (rs : List Record) → IsBefore key k → IsBelow k (keyed rs) → before key rs ≡ []
no_before key k [] lt h = refl
no_before key k (r ∷ rs) lt h =
    let past : key_cmp key r.key ≡ Less = key_total.trans key k r.key lt h.0 in
    rw (turned key r.key Less past) (no_before key k rs lt h.1)

around_at : (key : List ℕ) (r : Record) (rs : List Record) (o : Ordering) → key_cmp r.key key ≡ o → IsBelow r.key (keyed rs) → before key rs ++ behind key rs ≡ without_key key rs
    → before key (r ∷ rs) ++ behind key (r ∷ rs) ≡ without_key key (r ∷ rs)
around_at key r rs Less e h rest = rw (e, turned r.key key Less e, key_ties r.key key, e) (ap (λ xs. r ∷ xs) rest)
around_at key r rs Equal e h rest = rw (e, turned r.key key Equal e, key_ties r.key key, e) rest
around_at key r rs Greater e h rest =
    let past : key_cmp key r.key ≡ Less = turned r.key key Greater e in
    let none : before key rs ≡ [] = no_before key r.key rs past h in
    rw (e, past, key_ties r.key key, e, none) (ap (λ xs. r ∷ xs) (rw none at rest))

-- the records before a key and those past it are all but the one that has it
pub around : (key : List ℕ) (rs : List Record) → IsRising (keyed rs) → before key rs ++ behind key rs ≡ without_key key rs
around key [] h = refl
around key (r ∷ rs) h = around_at key r rs (key_cmp r.key key) refl h.0 (around key rs h.1)

-- ---- members

not_same_lt : (a b : List ℕ) → is_lt (key_cmp a b) ≡ true → bytes_eq a b ≡ false
not_same_lt a b e = key_ties a b ∙ by_case (key_cmp a b) e
  where
    by_case : (r : Ordering) → is_lt r ≡ true → is_eq r ≡ false
    by_case Less e = refl
    by_case Equal e = cc e
    by_case Greater e = cc e

not_same_gt : (a b : List ℕ) → is_lt (key_cmp b a) ≡ true → bytes_eq a b ≡ false
not_same_gt a b e = key_ties a b ∙ ap is_eq (key_total.antisymm a b) ∙ by_case (key_cmp b a) e
  where
    by_case : (r : Ordering) → is_lt r ≡ true → is_eq (ordering_reverse r) ≡ false
    by_case Less e = refl
    by_case Equal e = cc e
    by_case Greater e = cc e

-- the keys of a session that pass a test which the key fails
picked : (key : List ℕ) (u : List ℕ → Bool) (q : ℕ) → ((k : List ℕ) → u k ≡ true → bytes_eq k key ≡ false) → (rs : List Record) → filter u (keys_of q (without_key key rs)) ≡ keys_of q (filter (λ (r : Record). u r.key) rs)
picked key u q h [] = refl
picked key u q h (r ∷ rs) = elim (cases_Bool (u r.key)) [
  | inl passes ↦ rw (h r.key passes, passes) (elim (cases_Bool (is_member q r)) [
    | inl member ↦ ap (filter u) (keys-in q r (without_key key rs) member) ∙ rw passes (ap (λ ks. r.key ∷ ks) (picked key u q h rs)) ∙ sym (keys-in q r (filter (λ (x : Record). u x.key) rs) member)
    | inr other ↦ ap (filter u) (keys-out q r (without_key key rs) other) ∙ picked key u q h rs ∙ sym (keys-out q r (filter (λ (x : Record). u x.key) rs) other)
  ])
  | inr fails ↦ rw fails (elim (cases_Bool (bytes_eq r.key key)) [
    | inl same ↦ rw same (picked key u q h rs)
    | inr apart ↦ rw apart (elim (cases_Bool (is_member q r)) [
      | inl member ↦ ap (filter u) (keys-in q r (without_key key rs) member) ∙ rw fails (picked key u q h rs)
      | inr other ↦ ap (filter u) (keys-out q r (without_key key rs) other) ∙ picked key u q h rs
    ])
  ])
]

keys-append : (q : ℕ) (xs ys : List Record) → keys_of q (xs ++ ys) ≡ keys_of q xs ++ keys_of q ys
keys-append q xs ys = ap (map key_of) (filter-append (is_member q) xs ys) ∙ map-append key_of (members_of q xs) (members_of q ys)

module _ (q : ℕ) (r : Record) (rs : List Record) (rising : IsRising (keyed rs)) where
  -- the members with the record in its place
  pub joined : joined_by q r (Some r.key) (keys_of q (without_key r.key rs)) ≡ keys_of q (with_record r rs)
  joined = elim (cases_Bool (is_member q r)) [
    | inl member ↦
        let low = picked r.key (λ k. is_lt (key_cmp k r.key)) q (λ k e. not_same_lt k r.key e) rs in
        let high = picked r.key (λ k. is_lt (key_cmp r.key k)) q (λ k e. not_same_gt k r.key e) rs in
        ap (λ (b : Bool). if b then keys.with_key r.key (keys_of q (without_key r.key rs)) else keys_of q (without_key r.key rs)) member
        ∙ (λ i. low i ++ r.key ∷ high i)
        ∙ ap (λ ks. keys_of q (before r.key rs) ++ ks) (sym (keys-in q r (behind r.key rs) member))
        ∙ sym (keys-append q (before r.key rs) (r ∷ behind r.key rs))
    | inr other ↦
        ap (λ (b : Bool). if b then keys.with_key r.key (keys_of q (without_key r.key rs)) else keys_of q (without_key r.key rs)) other
        ∙ ap (keys_of q) (sym (around r.key rs rising)) ∙ keys-append q (before r.key rs) (behind r.key rs)
        ∙ ap (λ ks. keys_of q (before r.key rs) ++ ks) (sym (keys-out q r (behind r.key rs) other))
        ∙ sym (keys-append q (before r.key rs) (r ∷ behind r.key rs))
  ]

-- ---- index entries

swapped : (a b c : Bool) → (a || (b || c)) ≡ (b || (a || c))
swapped true true c = refl
swapped true false c = refl
swapped false b c = refl

module _ (q : Added) (r : Record) (rs : List Record) (rising : IsRising (keyed rs)) where
  all-append : (xs ys : List Record) → has_added q (all_added (xs ++ ys)) ≡ (has_added q (all_added xs) || has_added q (all_added ys))
  all-append [] ys = refl
  all-append (x ∷ xs) ys =
      has-cons q x (xs ++ ys) ∙ ap (λ b. has_added q (added_by x) || b) (all-append xs ys)
      ∙ assoc (has_added q (added_by x)) (has_added q (all_added xs)) (has_added q (all_added ys))
      ∙ sym (ap (λ b. b || has_added q (all_added ys)) (has-cons q x xs))
    where
      assoc : (a b c : Bool) → (a || (b || c)) ≡ ((a || b) || c)
      assoc true b c = refl
      assoc false b c = refl

  -- the entries with those of the record
  pub entered : (has_added q (added_by r) || has_added q (all_added (without_key r.key rs))) ≡ has_added q (all_added (with_record r rs))
  entered =
      ap (λ xs. has_added q (added_by r) || has_added q (all_added xs)) (sym (around r.key rs rising))
      ∙ ap (λ b. has_added q (added_by r) || b) (all-append (before r.key rs) (behind r.key rs))
      ∙ swapped (has_added q (added_by r)) (has_added q (all_added (before r.key rs))) (has_added q (all_added (behind r.key rs)))
      ∙ sym (all-append (before r.key rs) (r ∷ behind r.key rs) ∙ ap (λ b. has_added q (all_added (before r.key rs)) || b) (has-cons q r (behind r.key rs)))

-- what holds of the records and of one more
pub All-with : (P : Record → Type 0) (r : Record) (rs : List Record) → P r → All P rs → All P (with_record r rs)
All-with P r rs p h = All-append P (before r.key rs) (r ∷ behind r.key rs) (All-filter _ P rs h) (All-cons P r (behind r.key rs) p (All-filter _ P rs h))
