-- The lengths of the texts that pages count.
use Rattle.std.proofs.Common.{◌≡◌, ◌∙◌, sym, ap, refl, ℕ, ◌+◌, List, [], ◌∷◌, ◌++◌, length, sum_by, Option, Some, None, Bool, true, false, is_some, if◌then◌else◌, length-append, arith}
use Rattle.std.specs.Prelude.{min}
use Rattle.std.specs.List.{flat_map}
use Rattle.std.proofs.lemmas.List.Sums.{sum_by-cons}
use Rattle.ox_bytes.specs.Numbers.{be32, be64}
use Rattle.ox_bytes.specs.NumberLaws.{length-be32, length-be64}
use Rattle.ox_bytes.specs.Fields.{key, option, number64, list}
use Rattle.ox_order.specs.declared.range.Lo.{Lo}
use Rattle.ox_order.specs.declared.range.Lo.TheVariants.{Start, At, Past}
use Rattle.ox_order.specs.declared.range.Hi.{Hi}
use Rattle.ox_order.specs.declared.range.Hi.TheVariants.{End, Before}
use Rattle.ox_order.specs.declared.range.KeyRange.{KeyRange}
use Rattle.ox_order.specs.Forms.{lo, hi, key_range}
use Rattle.ox_ops.specs.declared.write.IndexEntry.{IndexEntry}
use Rattle.ox_ops.specs.declared.answer.Record.{Record}
use Rattle.ox_ops.specs.declared.notice.Notice.{Notice}
use Rattle.ox_ops.specs.declared.notice.Notice.TheVariants.{Created, Modified, Deleted, Ranged}
use Rattle.ox_ops.specs.declared.notice.NoticeItem.{NoticeItem}
use Rattle.ox_ops.specs.Forms.{notice, notice_item, record_form, meta, index_entry}
use Rattle.ox_ops.specs.Weight.{entry_weight}
use Rattle.ox_ops.specs.Page.{key_size, record_size, item_size}

pub key_size-is : (k : List ℕ) → key_size k ≡ 4 + length k
key_size-is k = length-append (be32 (length k)) k ∙ ap (λ n. n + length k) (length-be32 (length k))

module _ (k : List ℕ) (n : ℕ) (is : n ≡ 4 + length k) where
  keyed : n ≡ length (key.text k)
  keyed = is ∙ sym (key_size-is k)

  behind_1 : 1 + n ≡ length (0 ∷ key.text k)
  behind_1 = let h : n ≡ length (key.text k) = keyed in omega arith

  pub lo-At : (l : Lo) → l ≡ At k → 1 + n ≡ length (lo.text l)
  unfolding lo
  lo-At l e = rw e behind_1

  pub lo-Past : (l : Lo) → l ≡ Past k → 1 + n ≡ length (lo.text l)
  unfolding lo
  lo-Past l e = rw e behind_1

  pub hi-Before : (h : Hi) → h ≡ Before k → 1 + n ≡ length (hi.text h)
  unfolding hi
  hi-Before h e = rw e behind_1

  versioned : (v : ℕ) → 9 + n ≡ length (0 ∷ (key.text k ++ be64 v))
  versioned v =
      let h : n ≡ length (key.text k) = keyed in
      let both : length (key.text k ++ be64 v) ≡ length (key.text k) + length (be64 v) = length-append (key.text k) (be64 v) in
      let eight : length (be64 v) ≡ 8 = length-be64 v in
      omega arith

  pub notice-Created : (x : Notice) (v : ℕ) → x ≡ Created k v → 9 + n ≡ length (notice.text x)
  unfolding notice
  notice-Created x v e = rw e (versioned v)

  pub notice-Modified : (x : Notice) (v : ℕ) → x ≡ Modified k v → 9 + n ≡ length (notice.text x)
  unfolding notice
  notice-Modified x v e = rw e (versioned v)

  pub notice-Deleted : (x : Notice) → x ≡ Deleted k → 1 + n ≡ length (notice.text x)
  unfolding notice
  notice-Deleted x e = rw e behind_1

pub lo-Start : (l : Lo) → l ≡ Start → 1 ≡ length (lo.text l)
unfolding lo
lo-Start l e = rw e refl

pub hi-End : (h : Hi) → h ≡ End → 1 ≡ length (hi.text h)
unfolding hi
hi-End h e = rw e refl

pub range-ends : (r : KeyRange) (a b : ℕ) → a ≡ length (lo.text r.lo) → b ≡ length (hi.text r.hi) → a + b ≡ length (key_range.text r)
unfolding key_range
range-ends r a b e f = sym (length-append (lo.text r.lo) (hi.text r.hi) ∙ ap (λ n. n + length (hi.text r.hi)) (sym e) ∙ ap (λ n. a + n) (sym f))

pub notice-Ranged : (x : Notice) (r : KeyRange) (n : ℕ) → x ≡ Ranged r → n ≡ length (key_range.text r) → 1 + n ≡ length (notice.text x)
unfolding notice
notice-Ranged x r n e is = rw e (let h : n ≡ length (key_range.text r) = is in let goal : 1 + n ≡ length (3 ∷ key_range.text r) = omega arith in goal)

pub item_size-is : (i : NoticeItem) (n : ℕ) → n ≡ length (notice.text i.notice) → item_size i ≡ 8 + n
unfolding notice_item
item_size-is i n e = length-append (be64 i.offset) (notice.text i.notice) ∙ ap (λ m. m + length (notice.text i.notice)) (length-be64 i.offset) ∙ ap (λ m. 8 + m) (sym e)

-- ---- records

entry-size : (e : IndexEntry) → length (index_entry.text e) ≡ entry_weight e
unfolding index_entry
entry-size e = simp (length-append, length-be32) (omega arith)

entries-size : (es : List IndexEntry) → length (flat_map index_entry.text es) ≡ sum_by entry_weight es
entries-size [] = refl
entries-size (e ∷ es) =
    length-append (index_entry.text e) (flat_map index_entry.text es)
    ∙ ap (λ n. n + length (flat_map index_entry.text es)) (entry-size e)
    ∙ ap (λ n. entry_weight e + n) (entries-size es)
    ∙ sym (sum_by-cons entry_weight e es)

session-size : (s : Option ℕ) → length ((option number64).text s) ≡ (if is_some s then 9 else 1)
session-size None = refl
session-size (Some id) = let h : length (be64 id) ≡ 8 = length-be64 id in let goal : length (1 ∷ be64 id) ≡ 9 = omega arith in goal

meta-size : (r : Record) → length (meta.text r.meta) ≡ 32
unfolding meta
meta-size r = simp (length-append, length-be64)

pub list-size : (es : List IndexEntry) → length ((list index_entry).text es) ≡ 4 + sum_by entry_weight es
list-size es =
    length-append (be32 (length es)) (flat_map index_entry.text es)
    ∙ ap (λ n. n + length (flat_map index_entry.text es)) (length-be32 (length es))
    ∙ ap (λ n. 4 + n) (entries-size es)

joined : (a b c d e : List ℕ) → length (a ++ (b ++ (c ++ (d ++ e)))) ≡ length a + (length b + (length c + (length d + length e)))
joined a b c d e = simp length-append

added : (b : Bool) (k v s n w : ℕ) → s ≡ (if b then 9 else 1) → n ≡ k + v + (if b then 53 else 45) → 4 + k + (4 + v + (32 + (s + (4 + w)))) ≡ n + w
added true k v s n w e h = omega arith
added false k v s n w e h = omega arith

-- what a record's text has, from the parts of it
pub record_size-is : (r : Record) (n : ℕ) → n ≡ length r.key + length r.value + (if is_some r.session then 53 else 45) → record_size r ≡ n + sum_by entry_weight r.indexes
unfolding record_form
record_size-is r n e =
    joined (key.text r.key) (key.text r.value) (meta.text r.meta) ((option number64).text r.session) ((list index_entry).text r.indexes)
    ∙ ap (λ a. a + (length (key.text r.value) + (length (meta.text r.meta) + (length ((option number64).text r.session) + length ((list index_entry).text r.indexes))))) (key_size-is r.key)
    ∙ ap (λ a. 4 + length r.key + (a + (length (meta.text r.meta) + (length ((option number64).text r.session) + length ((list index_entry).text r.indexes))))) (key_size-is r.value)
    ∙ ap (λ a. 4 + length r.key + (4 + length r.value + (a + (length ((option number64).text r.session) + length ((list index_entry).text r.indexes))))) (meta-size r)
    ∙ ap (λ a. 4 + length r.key + (4 + length r.value + (32 + (length ((option number64).text r.session) + a)))) (list-size r.indexes)
    ∙ added (is_some r.session) (length r.key) (length r.value) (length ((option number64).text r.session)) n (sum_by entry_weight r.indexes) (session-size r.session) e

-- a sum that stands at the greatest number
pub capped : (fixed some all total size : ℕ) → some ≡ min all 18446744073709551615 → total ≡ min (fixed + some) 18446744073709551615 → size ≡ fixed + all → total ≡ min size 18446744073709551615
capped fixed some all total size e f g = omega arith
