-- Keys that are the same, and the entries of a record with a key.
use Rattle.std.proofs.Common.{◌≡◌, ◌∙◌, ℕ, Bool, true, false, List, [], ◌∷◌, ◌++◌, filter, refl, sym, ap, inl, inr}
use Rattle.std.specs.Prelude.{◌||◌}
use Rattle.std.specs.Str.{bytes_eq}
use Rattle.std.specs.Ordering.{is_eq, ordering_reverse}
use Rattle.std.specs.Cmp.{tied_itself}
use Rattle.std.specs.declared.cmp.Ordering.{Ordering}
use Rattle.std.proofs.lemmas.Bool.{cases_Bool}
use Rattle.std.proofs.lemmas.List.Folds.{list_any-append}
use Rattle.std.proofs.lemmas.List.Concat.{flat_map-cons}
use Rattle.ox_types.specs.Order.{key_cmp, IsBefore}
use Rattle.ox_types.specs.OrderLaws.{key_total, key_anti, key_ties}
use Rattle.ox_types.specs.Comparisons.{equal_of}
use Rattle.ox_table.specs.Table.{IsBelow}
use Rattle.ox_ops.specs.declared.write.IndexEntry.{IndexEntry}
use Rattle.ox_ops.specs.declared.answer.Record.{Record}
use Rattle.ox_puts.specs.Records.{keyed}
use Rattle.ox_index.specs.declared.added.Added.{Added}
use Rattle.ox_index.specs.Order.{added_cmp}
use Rattle.ox_index.specs.OrderLaws.{added_anti}
use Rattle.ox_index.specs.Pairs.{has_added}
use Rattle.ox_shard.specs.Lists.{entries_at, added_by, all_added}

abbrev pub key_of : Record → List ℕ
key_of r = r.key

-- equal bytes are the same key
pub same_key : (a b : List ℕ) → bytes_eq a b ≡ true → a ≡ b
same_key a b e = key_anti a b (equal_of (key_cmp a b) (sym (key_ties a b) ∙ e))

pub itself : (a : List ℕ) → bytes_eq a a ≡ true
itself a = key_ties a a ∙ ap is_eq (tied_itself key_total a)

-- a test tells two keys apart
pub apart : (t : List ℕ → Bool) (a b : List ℕ) → t a ≡ false → t b ≡ true → bytes_eq a b ≡ false
apart t a b fails passes = elim (cases_Bool (bytes_eq a b)) [
  | inl same ↦ cc (sym fails ∙ ap t (same_key a b same) ∙ passes)
  | inr other ↦ other
]

-- a later key is another one
pub later : (a b : List ℕ) → IsBefore a b → bytes_eq b a ≡ false
later a b e = key_ties b a ∙ ap is_eq (key_total.antisymm b a) ∙ ap (λ (r : Ordering). is_eq (ordering_reverse r)) e

pub earlier : (a b : List ℕ) → IsBefore a b → bytes_eq a b ≡ false
earlier a b e = key_ties a b ∙ ap is_eq e

-- ---- entries

pub has-append : (q : Added) (xs ys : List Added) → has_added q (xs ++ ys) ≡ (has_added q xs || has_added q ys)
has-append q xs ys = list_any-append (λ x. is_eq (added_cmp x q)) xs ys

-- the entries of the first record and of the others
pub has-cons : (q : Added) (r : Record) (rs : List Record) → has_added q (all_added (r ∷ rs)) ≡ (has_added q (added_by r) || has_added q (all_added rs))
has-cons q r rs = ap (has_added q) (flat_map-cons added_by r rs) ∙ has-append q (added_by r) (all_added rs)

-- an entry of a record has its key
pub at_key : (q : Added) (key : List ℕ) (entries : List IndexEntry) → has_added q (entries_at key entries) ≡ true → q.key ≡ key
at_key q key [] e = cc e
at_key q key (x ∷ xs) e = elim (cases_Bool (is_eq (added_cmp (record { entry = x; key = key }) q))) [
  | inl here ↦ sym (ap (λ (a : Added). a.key) (added_anti (record { entry = x; key = key }) q (equal_of _ here)))
  | inr other ↦ at_key q key xs (rw other at e)
]

module _ (q : Added) where
  -- records whose keys pass a test that the entry's key fails don't have it
  pub stranger : (u : List ℕ → Bool) (rs : List Record) → u q.key ≡ false → has_added q (all_added (filter (λ (r : Record). u r.key) rs)) ≡ false
  stranger u [] e = refl
  stranger u (r ∷ rs) e = elim (cases_Bool (u r.key)) [
    | inl passes ↦ rw passes (has-cons q r (filter (λ (x : Record). u x.key) rs) ∙ none r.key r.indexes passes (stranger u rs e))
    | inr fails ↦ rw fails (stranger u rs e)
  ]
    where
      none : (key : List ℕ) (entries : List IndexEntry) {b : Bool} → u key ≡ true → b ≡ false → (has_added q (entries_at key entries) || b) ≡ false
      none key entries passes f = elim (cases_Bool (has_added q (entries_at key entries))) [
        | inl here ↦ cc (sym e ∙ ap u (at_key q key entries here) ∙ passes)
        | inr other ↦ rw (other, f) refl
      ]

  -- records with other keys don't have it
  pub not_below : (rs : List Record) → IsBelow q.key (keyed rs) → has_added q (all_added rs) ≡ false
  not_below [] h = refl
  not_below (r ∷ rs) h = has-cons q r rs ∙ elim (cases_Bool (has_added q (added_by r))) [
    | inl here ↦ cc (sym (itself q.key) ∙ ap (bytes_eq q.key) (at_key q r.key r.indexes here) ∙ earlier q.key r.key h.0)
    | inr other ↦ rw (other, not_below rs h.1) refl
  ]
