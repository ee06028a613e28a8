-- Numbers that rise, by recursion and by their places.
use Rattle.std.proofs.Common.{◌≡◌, ℕ, zero, suc, ◌+◌, ◌<◌, ◌≤◌, List, [], ◌∷◌, length, get_or, subst, arith}
use Rattle.std.specs.List.Sorted.{IsStrictlyIncreasing}

-- each number is at least the one given, or above the one before it
abbrev pub RisesFrom : ℕ → List ℕ → Type 0
RisesFrom least [] = Unit {0}
RisesFrom least (n ∷ ns) = (least ≤ n) × RisesFrom (n + 1) ns

pub rising : (least : ℕ) (ns : List ℕ) → RisesFrom least ns → IsStrictlyIncreasing ns
rising least [] h k lt = absurd (omega arith)
rising least (n ∷ []) h k lt = absurd (omega arith)
rising least (n ∷ m ∷ ns) h zero lt = omega (arith, h.1.0)
rising least (n ∷ m ∷ ns) h (suc k) lt =
    let e : suc k + 1 ≡ suc (k + 1) = omega arith in
    rw e (rising (n + 1) (m ∷ ns) h.1 k (omega arith))

next : (n : ℕ) (ns : List ℕ) → IsStrictlyIncreasing (n ∷ ns) → (0 < length ns) → n + 1 ≤ get_or ns 0 0
next n [] rises some = absurd (omega arith)
next n (m ∷ ns) rises some = let lt : n < m = rises 0 (omega arith) in omega arith

later : (n : ℕ) (ns : List ℕ) → IsStrictlyIncreasing (n ∷ ns) → (k : ℕ) → k + 1 < length ns → get_or ns k 0 < get_or ns (k + 1) 0
later n ns rises k lt =
    let e : suc k + 1 ≡ suc (k + 1) = omega arith in
    let there : get_or (n ∷ ns) (suc k) 0 < get_or (n ∷ ns) (suc k + 1) 0 = rises (suc k) (omega arith) in
    subst (λ (j : ℕ). get_or ns k 0 < get_or (n ∷ ns) j 0) e there

pub rises_of : (least : ℕ) (ns : List ℕ) → ((0 < length ns) → least ≤ get_or ns 0 0) → IsStrictlyIncreasing ns → RisesFrom least ns
rises_of least [] first rises = tt
rises_of least (n ∷ ns) first rises = (first (omega arith), rises_of (n + 1) ns (next n ns rises) (later n ns rises))
