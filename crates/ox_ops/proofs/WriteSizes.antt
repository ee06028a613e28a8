-- The length of the text of a write, from the parts of it.
use Rattle.std.proofs.Common.{◌≡◌, ◌∙◌, sym, ap, refl, ℕ, ◌+◌, ◌*◌, List, [], ◌∷◌, ◌++◌, length, sum_by, Option, Some, None, length-append, arith}
use Rattle.std.specs.Prelude.{min}
use Rattle.std.specs.List.{flat_map}
use Rattle.std.proofs.lemmas.List.Sums.{sum_by-cons}
use Rattle.ox_bytes.specs.Form.{Form}
use Rattle.ox_bytes.specs.Numbers.{be32, be64}
use Rattle.ox_bytes.specs.NumberLaws.{length-be32, length-be64}
use Rattle.ox_bytes.specs.Fields.{key, value, option, number64, list}
use Rattle.ox_order.specs.Forms.{key_range}
use Rattle.ox_ops.specs.declared.write.Expect.{Expect}
use Rattle.ox_ops.specs.declared.write.Expect.TheVariants.{Any, Absent, Exactly}
use Rattle.ox_ops.specs.declared.write.Put.{Put}
use Rattle.ox_ops.specs.declared.write.Delete.{Delete}
use Rattle.ox_ops.specs.declared.write.WriteBatch.{WriteBatch}
use Rattle.ox_ops.specs.Forms.{expect, index_entry, put, delete, write_batch, command}
use Rattle.ox_ops.specs.Weight.{entry_weight}
use Rattle.ox_ops.specs.Size.{put_size, delete_size, range_size, write_size}
use Rattle.ox_ops.proofs.Sizes.{key_size-is, list-size}

pub expect-short : (e : Expect) → e ≡ Any → 1 ≡ length (expect.text e)
unfolding expect
expect-short e is = rw is refl

pub expect-absent : (e : Expect) → e ≡ Absent → 1 ≡ length (expect.text e)
unfolding expect
expect-absent e is = rw is refl

nine : (b : ℕ) (v : ℕ) → 9 ≡ length (b ∷ be64 v)
nine b v = let h : length (be64 v) ≡ 8 = length-be64 v in omega arith

pub expect-long : (e : Expect) (v : ℕ) → e ≡ Exactly v → 9 ≡ length (expect.text e)
unfolding expect
expect-long e v is = rw is (nine 2 v)

pub session-short : (s : Option ℕ) → s ≡ None → 1 ≡ length ((option number64).text s)
session-short s is = rw is refl

pub session-long : (s : Option ℕ) (id : ℕ) → s ≡ Some id → 9 ≡ length ((option number64).text s)
session-long s id is = rw is (nine 1 id)

-- ---- lists

items-size : {A : Type 0} (form : Form A) (xs : List A) → length (flat_map form.text xs) ≡ sum_by (λ x. length (form.text x)) xs
items-size form [] = refl
items-size form (x ∷ xs) =
    length-append (form.text x) (flat_map form.text xs)
    ∙ ap (λ n. length (form.text x) + n) (items-size form xs)
    ∙ sym (sum_by-cons (λ y. length (form.text y)) x xs)

list_of-size : {A : Type 0} (form : Form A) (xs : List A) → length ((list form).text xs) ≡ 4 + sum_by (λ x. length (form.text x)) xs
list_of-size form xs =
    length-append (be32 (length xs)) (flat_map form.text xs)
    ∙ ap (λ n. n + length (flat_map form.text xs)) (length-be32 (length xs))
    ∙ ap (λ n. 4 + n) (items-size form xs)

deltas-sum : (ds : List ℕ) → sum_by (λ d. length (number64.text d)) ds ≡ 8 * length ds
deltas-sum [] = refl
deltas-sum (d ∷ ds) =
    let all : sum_by (λ x. length (number64.text x)) (d ∷ ds) ≡ length (be64 d) + sum_by (λ x. length (number64.text x)) ds = sum_by-cons (λ x. length (number64.text x)) d ds in
    let one : length (be64 d) ≡ 8 = length-be64 d in
    let rest : sum_by (λ x. length (number64.text x)) ds ≡ 8 * length ds = deltas-sum ds in
    omega arith

deltas-size : (ds : List ℕ) → length ((list number64).text ds) ≡ 4 + 8 * length ds
deltas-size ds = list_of-size number64 ds ∙ ap (λ n. 4 + n) (deltas-sum ds)

-- ---- operations

joined : (a b c d e f : List ℕ) → length (a ++ (b ++ (c ++ (d ++ (e ++ f))))) ≡ length a + (length b + (length c + (length d + (length e + length f))))
joined a b c d e f = simp length-append

pub put_size-is : (p : Put) → put_size p ≡ length p.key + length p.value + length (expect.text p.expect) + length ((option number64).text p.session) + 16 + 8 * length p.deltas + sum_by entry_weight p.indexes
unfolding put
put_size-is p =
    let k : length (key.text p.key) ≡ 4 + length p.key = key_size-is p.key in
    let v : length (value.text p.value) ≡ 4 + length p.value = key_size-is p.value in
    let d : length ((list number64).text p.deltas) ≡ 4 + 8 * length p.deltas = deltas-size p.deltas in
    let i : length ((list index_entry).text p.indexes) ≡ 4 + sum_by entry_weight p.indexes = list-size p.indexes in
    joined (key.text p.key) (value.text p.value) (expect.text p.expect) ((option number64).text p.session) ((list number64).text p.deltas) ((list index_entry).text p.indexes)
    ∙ sums _ _ _ _ _ _ _ _ _ _ k v d i
  where
    sums : (a b e s d i k v m w : ℕ) → a ≡ 4 + k → b ≡ 4 + v → d ≡ 4 + m → i ≡ 4 + w → a + (b + (e + (s + (d + i)))) ≡ k + v + e + s + 16 + m + w
    sums a b e s d i k v m w x y z u = omega arith

pub delete_size-is : (d : Delete) (k e : ℕ) → k ≡ 4 + length d.key → e ≡ length (expect.text d.expect) → k + e ≡ delete_size d
unfolding delete
delete_size-is d k e is of =
    let a : length (key.text d.key) ≡ 4 + length d.key = key_size-is d.key in
    let both : length (key.text d.key ++ expect.text d.expect) ≡ length (key.text d.key) + length (expect.text d.expect) = length-append (key.text d.key) (expect.text d.expect) in
    let sum : k + e ≡ length (key.text d.key ++ expect.text d.expect) = omega arith in
    sum

-- the text of a write is that of its lists behind a byte
pub write_size-is : (b : WriteBatch) → write_size b ≡ 1 + ((4 + sum_by put_size b.puts) + ((4 + sum_by delete_size b.deletes) + (4 + sum_by range_size b.ranges)))
unfolding command write_batch
write_size-is b =
    let p : length ((list put).text b.puts) ≡ 4 + sum_by put_size b.puts = list_of-size put b.puts in
    let d : length ((list delete).text b.deletes) ≡ 4 + sum_by delete_size b.deletes = list_of-size delete b.deletes in
    let r : length ((list key_range).text b.ranges) ≡ 4 + sum_by range_size b.ranges = list_of-size key_range b.ranges in
    let one : length (0 ∷ ((list put).text b.puts ++ ((list delete).text b.deletes ++ (list key_range).text b.ranges))) ≡ 1 + (length ((list put).text b.puts) + (length ((list delete).text b.deletes) + length ((list key_range).text b.ranges))) =
    three ((list put).text b.puts) ((list delete).text b.deletes) ((list key_range).text b.ranges) in
    one ∙ (λ j. 1 + (p j + (d j + r j)))
  where
    three : (x y z : List ℕ) → length (0 ∷ (x ++ (y ++ z))) ≡ 1 + (length x + (length y + length z))
    three x y z =
        let a : length (x ++ (y ++ z)) ≡ length x + length (y ++ z) = length-append x (y ++ z) in
        let b : length (y ++ z) ≡ length y + length z = length-append y z in
        omega arith

-- ---- sums that stand at the greatest number

capped-right : (a b y : ℕ) → b ≡ min y 18446744073709551615 → min (a + b) 18446744073709551615 ≡ min (a + y) 18446744073709551615
capped-right a b y e = omega arith

capped-two : (a b x y : ℕ) → a ≡ min x 18446744073709551615 → b ≡ min y 18446744073709551615 → min (a + b) 18446744073709551615 ≡ min (x + y) 18446744073709551615
capped-two a b x y e f = omega arith

pub capped-put : (fixed deltas indexes count all total size : ℕ) → deltas ≡ min (count * 8) 18446744073709551615 → indexes ≡ min all 18446744073709551615
    → total ≡ min (min (fixed + deltas) 18446744073709551615 + indexes) 18446744073709551615 → size ≡ fixed + 8 * count + all → total ≡ min size 18446744073709551615
capped-put fixed deltas indexes count all total size d i t s =
    let one : min (fixed + deltas) 18446744073709551615 ≡ min (fixed + count * 8) 18446744073709551615 = capped-right fixed deltas (count * 8) d in
    let two : min (min (fixed + deltas) 18446744073709551615 + indexes) 18446744073709551615 ≡ min (fixed + count * 8 + all) 18446744073709551615 = capped-two (min (fixed + deltas) 18446744073709551615) indexes (fixed + count * 8) all one i in
    let sum : fixed + count * 8 + all ≡ size = omega arith in
    t ∙ two ∙ ap (λ n. min n 18446744073709551615) sum

pub capped-write : (p d r x y z total size : ℕ) → p ≡ min x 18446744073709551615 → d ≡ min y 18446744073709551615 → r ≡ min z 18446744073709551615
    → total ≡ min (min (min (p + d) 18446744073709551615 + r) 18446744073709551615 + 1) 18446744073709551615 → size ≡ 1 + (x + (y + z)) → total ≡ min size 18446744073709551615
capped-write p d r x y z total size e f g t s =
    let two : min (p + d) 18446744073709551615 ≡ min (x + y) 18446744073709551615 = capped-two p d x y e f in
    let three : min (min (p + d) 18446744073709551615 + r) 18446744073709551615 ≡ min (x + y + z) 18446744073709551615 = capped-two (min (p + d) 18446744073709551615) r (x + y) z two g in
    let four : min (min (min (p + d) 18446744073709551615 + r) 18446744073709551615 + 1) 18446744073709551615 ≡ min (x + y + z + 1) 18446744073709551615 =
    capped-two (min (min (p + d) 18446744073709551615 + r) 18446744073709551615) 1 (x + y + z) 1 three refl in
    let sum : x + y + z + 1 ≡ size = omega arith in
    t ∙ four ∙ ap (λ n. min n 18446744073709551615) sum
