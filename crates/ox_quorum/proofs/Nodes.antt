-- What is read as an ensemble is one, and how it is written.
use Rattle.std.proofs.Common.{◌≡◌, ℕ, zero, suc, ◌+◌, ◌≤◌, nat_le, ◌&&◌, Bool, true, false, List, [], ◌∷◌, ◌++◌, length, take, Ok, Err, if◌then◌else◌, refl, sym, ap, subst, ◌∙◌, arith, ◌^◌, All, ◌<◌, nat_lt, get_or, IsTrue}
use Rattle.std.specs.List.{flat_map}
use Rattle.std.specs.List.Sorted.{IsStrictlyIncreasing}
use Rattle.std.proofs.lemmas.Bool.{and_parts, and_from}
use Rattle.std.proofs.lemmas.List.{take_all}
use Rattle.ox_bytes.specs.declared.fault.BadField.{BadField}
use Rattle.ox_bytes.specs.declared.fault.WireRule.{WireRule}
use Rattle.ox_bytes.specs.declared.fault.WireRule.TheVariants.{Range, Order}
use Rattle.ox_bytes.specs.Reading.{◌>>=◌, bad}
use Rattle.ox_bytes.specs.Form.{Form, checked}
use Rattle.ox_bytes.specs.Numbers.{be32}
use Rattle.ox_bytes.specs.Fields.{number32}
use Rattle.ox_bytes.specs.Lists.{course_at, course_text, is_course, list_by_at}
use Rattle.ox_bytes.specs.ListLaws.{course_text-same}
use Rattle.ox_bytes.specs.NumberLaws.{bind_ok, ok_is}
use Rattle.ox_quorum.specs.Ensemble.{IsEnsemble}
use Rattle.ox_quorum.specs.Forms.{ensemble_size, node_from, nodes_course, ensemble}

-- each number is at least the one given, or above the one before it
abbrev RisesFrom : ℕ → List ℕ → Type 0
RisesFrom least [] = Unit {0}
RisesFrom least (n ∷ nodes) = (least ≤ n) × RisesFrom (n + 1) nodes

rising : (least : ℕ) (nodes : List ℕ) → RisesFrom least nodes → IsStrictlyIncreasing nodes
rising least [] h k lt = absurd (omega arith)
rising least (n ∷ []) h k lt = absurd (omega arith)
rising least (n ∷ m ∷ nodes) h zero lt = omega (arith, h.1.0)
rising least (n ∷ m ∷ nodes) h (suc k) lt =
    let e : suc k + 1 ≡ suc (k + 1) = omega arith in
    rw e (rising (n + 1) (m ∷ nodes) h.1 k (omega arith))

-- a test that was passed
tested : {A : Type 0} (b : Bool) (d : BadField) (x y : A) → (if b then Ok x else Err d) ≡ Ok y → (b ≡ true) × (x ≡ y)
tested true d x y e = (refl, ok_is x y e)
tested false d x y e = absurd cc

-- what was read under a test passes it
checked_read : (test : ℕ → Bool) (rule : WireRule) (form : Form ℕ) (bytes : List ℕ) (n : ℕ) (rest : List ℕ) → (checked test rule form).at bytes ≡ Ok (n, rest) → test n ≡ true
checked_read test rule form bytes n rest e =
    let a = bind_ok (form.at bytes) (λ x. if test x.0 then Ok x else Err (bad rule bytes)) (n, rest) e in
    let b = tested (test a.0.0) (bad rule bytes) a.0 (n, rest) a.2 in
    subst (λ (p : ℕ × List ℕ). test p.0 ≡ true) b.1 b.0

le_from_test : (a b : ℕ) → nat_le a b ≡ true → a ≤ b
le_from_test a b h = grind (arith, h)

size_read : (bytes : List ℕ) (n : ℕ) (rest : List ℕ) → ensemble_size.at bytes ≡ Ok (n, rest) → (1 ≤ n) × (n ≤ 7)
unfolding ensemble_size
size_read bytes n rest e =
    let both = and_parts (nat_le 1 n) (nat_le n 7) (checked_read (λ n. nat_le 1 n && nat_le n 7) Range number32 bytes n rest e) in
    (le_from_test 1 n both.0, le_from_test n 7 both.1)

node_read : (least : ℕ) (bytes : List ℕ) (n : ℕ) (rest : List ℕ) → (node_from least).at bytes ≡ Ok (n, rest) → least ≤ n
unfolding node_from
node_read least bytes n rest e = le_from_test least n (checked_read (λ n. nat_le least n) Order number32 bytes n rest e)

nodes_read : (count least : ℕ) (bytes : List ℕ) (nodes rest : List ℕ) → course_at nodes_course count least bytes ≡ Ok (nodes, rest) → (length nodes ≡ count) × RisesFrom least nodes
unfolding course_at
nodes_read zero least bytes nodes rest e = subst (λ (q : List ℕ × List ℕ). (length q.0 ≡ 0) × RisesFrom least q.0) (ok_is ([], bytes) (nodes, rest) e) (refl, tt)
nodes_read (suc count) least bytes nodes rest e =
    let a = bind_ok ((node_from least).at bytes) (λ x. course_at nodes_course count (x.0 + 1) x.1 >>= λ xs. Ok (x.0 ∷ xs.0, xs.1)) (nodes, rest) e in
    let b = bind_ok (course_at nodes_course count (a.0.0 + 1) a.0.1) (λ xs. Ok (a.0.0 ∷ xs.0, xs.1)) (nodes, rest) a.2 in
    let others = nodes_read count (a.0.0 + 1) a.0.1 b.0.0 b.0.1 b.1 in
    subst (λ (q : List ℕ × List ℕ). (length q.0 ≡ suc count) × RisesFrom least q.0) (ok_is (a.0.0 ∷ b.0.0, b.0.1) (nodes, rest) b.2)
    (ap suc others.0, (node_read least bytes a.0.0 a.0.1 a.1, others.1))

pub ensemble_read : (bytes : List ℕ) (nodes rest : List ℕ) → All (λ n. n < 2 ^ 32) nodes → list_by_at ensemble_size nodes_course 0 bytes ≡ Ok (nodes, rest) → IsEnsemble nodes
unfolding list_by_at
ensemble_read bytes nodes rest small e =
    let n = bind_ok (ensemble_size.at bytes) (λ n. course_at nodes_course n.0 0 n.1) (nodes, rest) e in
    let size = size_read bytes n.0.0 n.0.1 n.1 in
    let read = nodes_read n.0.0 0 n.0.1 nodes rest n.2 in
    record { some = omega (arith, size.0, read.0); few = omega (arith, size.1, read.0); rising = rising 0 nodes read.1; ids = small }

-- the number of the nodes, and the ids one behind the other
pub written : (to items nodes : List ℕ) (i : ℕ) → items ≡ nodes → length items ≤ i → to ++ (be32 (length items) ++ flat_map be32 (take i items)) ≡ to ++ (ensemble_size.text (length nodes) ++ course_text nodes_course 0 nodes)
unfolding ensemble_size node_from
written to items nodes i same past =
    ap (λ (l : List ℕ). to ++ (be32 (length items) ++ flat_map be32 l)) (take_all i items past)
    ∙ ap (λ (l : List ℕ). to ++ (be32 (length l) ++ flat_map be32 l)) same
    ∙ ap (λ (l : List ℕ). to ++ (be32 (length nodes) ++ l)) (sym (course_text-same nodes_course be32 (λ s x. refl) 0 nodes))

-- nodes of 32 bits that rise are lawful one behind the other
rising_lawful : (least : ℕ) (nodes : List ℕ) → ((0 < length nodes) → least ≤ get_or nodes 0 0) → IsStrictlyIncreasing nodes → All (λ n. n < 2 ^ 32) nodes → is_course nodes_course least nodes ≡ true
unfolding node_from
rising_lawful least [] first rises small = refl
rising_lawful least (n ∷ nodes) first rises small =
    let here : least ≤ n = first (omega arith) in
    let bits : n < 4294967296 = small 0 0 (omega arith) in
    let from : nat_le least n ≡ true = grind (arith, here) in
    let fits : nat_lt n 4294967296 ≡ true = grind (arith, bits) in
    and_from _ _ (and_from _ _ fits from)
    (rising_lawful (n + 1) nodes (λ some. let next : n < get_or nodes 0 0 = rises 0 (omega (arith, some)) in omega (arith, next))
    (λ k lt. let e : suc k + 1 ≡ suc (k + 1) = omega arith in let there : get_or (n ∷ nodes) (suc k) 0 < get_or (n ∷ nodes) (suc k + 1) 0 = rises (suc k) (omega arith) in subst (λ (j : ℕ). get_or nodes k 0 < get_or (n ∷ nodes) j 0) e there)
    (λ k d lt. small (suc k) d (omega arith)))

-- an ensemble has a text
pub ensemble_lawful : (nodes : List ℕ) → IsEnsemble nodes → IsTrue (ensemble.is_lawful nodes)
unfolding ensemble_size
ensemble_lawful nodes e =
    let some = e.some in
    let few = e.few in
    let low : nat_le 1 (length nodes) ≡ true = grind (arith, some) in
    let high : nat_le (length nodes) 7 ≡ true = grind (arith, few) in
    let fits : nat_lt (length nodes) 4294967296 ≡ true = grind (arith, few) in
    and_from _ _ (and_from _ _ fits (and_from _ _ low high)) (rising_lawful 0 nodes (λ h. omega arith) e.rising e.ids)
