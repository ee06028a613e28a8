-- What a lawful put without a fault weighs at most, and how long its key may grow.
use Rattle.std.proofs.Common.{◌≡◌, ◌≤◌, ◌<◌, ◌∙◌, ◌+◌, ◌*◌, ◌^◌, ℕ, Bool, true, false, List, [], ◌∷◌, None, length, sum_by, sym, ap, arith, inl, inr}
use Rattle.std.specs.Prelude.{◌&&◌, ◌==◌, nat_lt, is_none, not}
use Rattle.std.specs.List.{list_all}
use Rattle.std.proofs.lemmas.Bool.{cases_Bool, and_parts, leb-true, ltb-false}
use Rattle.std.proofs.lemmas.List.Sums.{sum_by-cons}
use Rattle.ox_types.specs.Key.{key_fault}
use Rattle.ox_types.specs.Limits.{key_limit, weight_limit}
use Rattle.ox_bytes.specs.Fields.{is_key, key, value, option, list, number64}
use Rattle.ox_ops.specs.declared.write.IndexEntry.{IndexEntry}
use Rattle.ox_ops.specs.declared.write.Put.{Put}
use Rattle.ox_ops.specs.Forms.{put, index_entry, expect, is_name}
use Rattle.ox_ops.specs.Weight.{entry_weight}
use Rattle.ox_ops.specs.Check.{◌or_else◌, put_fault, begins_with_0}
use Rattle.ox_ops.specs.CheckLaws.{neither_faulty, not_faulty}

key_short : (bytes : List ℕ) → is_key bytes ≡ true → length bytes ≤ key_limit
key_short bytes h = elim (cases_Bool (length bytes == 0)) [
  | inl none ↦ cc (rw none at h)
  | inr some ↦ elim (cases_Bool (nat_lt key_limit (length bytes))) [
    | inl long ↦ cc (rw (some, long) at h)
    | inr short ↦ ltb-false key_limit (length bytes) short
  ]
]

entry_light : (e : IndexEntry) → index_entry.is_lawful e ≡ true → entry_weight e ≤ 4359
unfolding index_entry
entry_light e h =
    let parts = and_parts _ _ h in
    let name = and_parts _ _ (and_parts _ _ parts.0).1 in
    let key = and_parts _ _ parts.1 in
    let a : length e.name ≤ 255 = leb-true _ _ name.1 in
    let b : length e.key ≤ key_limit = key_short e.key key.1 in
    omega arith

entries_light : (es : List IndexEntry) → list_all index_entry.is_lawful es ≡ true → sum_by entry_weight es ≤ 4359 * length es
entries_light [] h = omega arith
entries_light (e ∷ es) h =
    let parts = and_parts _ _ h in
    let one = entry_light e parts.0 in
    let others = entries_light es parts.1 in
    rw (sum_by-cons entry_weight e es) (omega arith)

-- ---- a put without a fault

few_indexes : (p : Put) → put_fault p ≡ None → length p.indexes ≤ 16
few_indexes p h =
    let last = neither_faulty _ _ h in
    let indexes = neither_faulty _ _ last.0 in
    ltb-false 16 (length p.indexes) (not_faulty _ _ indexes.1)

last_true : (a b c d e f : Bool) → (a && (b && (c && (d && (e && f))))) ≡ true → f ≡ true
last_true a b c d e f h =
    let t = (and_parts a (b && (c && (d && (e && f)))) h).1 in
    let u = (and_parts b (c && (d && (e && f))) t).1 in
    let v = (and_parts c (d && (e && f)) u).1 in
    let w = (and_parts d (e && f) v).1 in
    (and_parts e f w).1

lawful_indexes : (p : Put) → put.is_lawful p ≡ true → (list index_entry).is_lawful p.indexes ≡ true
unfolding put
lawful_indexes p h = last_true (key.is_lawful p.key) (value.is_lawful p.value) (expect.is_lawful p.expect) ((option number64).is_lawful p.session) ((list number64).is_lawful p.deltas) ((list index_entry).is_lawful p.indexes) h

pub light-put : (p : Put) → put.is_lawful p ≡ true → put_fault p ≡ None → sum_by entry_weight p.indexes ≤ weight_limit
light-put p h f =
    let entries = and_parts (nat_lt (length p.indexes) (2 ^ 32)) (list_all index_entry.is_lawful p.indexes) (lawful_indexes p h) in
    let light = entries_light p.indexes entries.1 in
    let few = few_indexes p f in
    omega arith

-- the deltas are few, and the key of their groups is short
pub few-deltas : (p : Put) → put_fault p ≡ None → (length p.deltas ≤ 8) × (begins_with_0 p.deltas ≡ false) × (length p.key + 21 * length p.deltas ≤ key_limit)
few-deltas p h =
    let last = neither_faulty _ _ h in
    let indexes = neither_faulty _ _ last.0 in
    let long = neither_faulty _ _ indexes.0 in
    let any = neither_faulty _ _ long.0 in
    let first = neither_faulty _ _ any.0 in
    (ltb-false 8 (length p.deltas) (not_faulty _ _ first.0), not_faulty _ _ first.1, ltb-false key_limit (length p.key + 21 * length p.deltas) (not_faulty _ _ long.1))
