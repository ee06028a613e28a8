-- The first of some nodes that is one of those before it, by places, and what is known where there is none.
use Rattle.std.proofs.Common.{◌≡◌, ℕ, ◌+◌, ◌<◌, ◌≤◌, Bool, true, false, List, [], ◌∷◌, ◌++◌, length, get_or, take, drop, Some, None, if◌then◌else◌, refl, sym, ap, subst, ◌∙◌, append_assoc, arith, nat_eq, nat_lt, ◌==◌, ◌^◌, inl, inr, All}
use Rattle.std.specs.List.{IsDistinct}
use Rattle.std.specs.List.Sorted.{IsPermutation, IsNonDecreasing}
use Rattle.std.proofs.lemmas.Cmp.{nat_eq_equiv}
use Rattle.std.proofs.lemmas.Bool.{cases_lt}
use Rattle.std.proofs.lemmas.List.{take_more, drop_more, drop_all, append-nil, get_or_default}
use Rattle.std.proofs.lemmas.List.Sorted.{length_permutation, All-permutation}
use Rattle.std.proofs.lemmas.Map.Keys.{IsDistinct-push, IsDistinct-IsPermutation, IsStrictlyIncreasing-from_distinct}
use Rattle.ox_quorum.specs.Ensemble.{has, first_again, ensemble_fault, IsEnsemble}

-- a node that isn't one of those before it
pub again_later : (nodes : List ℕ) (i n : ℕ) → i < length nodes → n ≡ get_or nodes i n → has (take i nodes) n ≡ false → first_again (take i nodes) (drop i nodes) ≡ first_again (take (i + 1) nodes) (drop (i + 1) nodes)
again_later nodes i n lt at h =
    ap (first_again (take i nodes)) (drop_more nodes i n lt)
    ∙ rw (sym at, h) (ap (λ (l : List ℕ). first_again l (drop (i + 1) nodes)) (ap (λ (m : ℕ). take i nodes ++ m ∷ []) at ∙ sym (take_more nodes i n lt)))

-- a node that is one of those before it
pub again_here : (nodes : List ℕ) (i n : ℕ) → i < length nodes → n ≡ get_or nodes i n → has (take i nodes) n ≡ true → first_again (take i nodes) (drop i nodes) ≡ Some n
again_here nodes i n lt at h = ap (first_again (take i nodes)) (drop_more nodes i n lt) ∙ rw (sym at, h) refl

-- past the last node
pub again_nowhere : (nodes : List ℕ) (i : ℕ) → length nodes ≤ i → first_again (take i nodes) (drop i nodes) ≡ None
again_nowhere nodes i le = ap (first_again (take i nodes)) (drop_all i nodes le)

Some-is_not-None : (n : ℕ) → Some n ≡ None → ⊥
Some-is_not-None n e = cc

-- where none stands again, the first stands nowhere before, and none of the others stands again
split : {G : Type 0} (seen : List ℕ) (n : ℕ) (nodes : List ℕ) → first_again seen (n ∷ nodes) ≡ None → (has seen n ≡ false → first_again (seen ++ n ∷ []) nodes ≡ None → G) → G
split {G} seen n nodes none use_it = go (has seen n) refl none
  where
    go : (b : Bool) → has seen n ≡ b → (if b then Some n else first_again (seen ++ n ∷ []) nodes) ≡ None → G
    go true h e = absurd (Some-is_not-None n e)
    go false h e = use_it h e

-- where none stands again, no two are the same
distinct : (seen nodes : List ℕ) → IsDistinct nat_eq seen → first_again seen nodes ≡ None → IsDistinct nat_eq (seen ++ nodes)
distinct seen [] apart none = subst (IsDistinct nat_eq) (sym (append-nil seen)) apart
distinct seen (n ∷ nodes) apart none =
    subst (IsDistinct nat_eq) (append_assoc seen (n ∷ []) nodes)
    (split seen n nodes none (λ fresh later. distinct (seen ++ n ∷ []) nodes (IsDistinct-push nat_eq_equiv seen n apart fresh) later))

-- 1 to 7 nodes of which none stands again are an ensemble, once they don't fall
ensemble_made : (nodes sorted : List ℕ) → 0 < length nodes → length nodes ≤ 7 → first_again [] nodes ≡ None → All (λ n. n < 2 ^ 32) nodes → IsPermutation nodes sorted → IsNonDecreasing sorted → IsEnsemble sorted
unfolding IsDistinct
ensemble_made nodes sorted some few none small moved rising =
    let len = length_permutation nodes sorted moved in
    let apart = IsDistinct-IsPermutation nat_eq nat_eq_equiv.symm nodes sorted moved (distinct [] nodes tt none) in
    record { some = omega (arith, len, some); few = omega (arith, len, few); rising = IsStrictlyIncreasing-from_distinct sorted rising apart; ids = All-permutation (λ n. n < 2 ^ 32) nodes sorted moved small }

-- they break no rule
no_fault : (nodes : List ℕ) → 0 < length nodes → length nodes ≤ 7 → first_again [] nodes ≡ None → ensemble_fault nodes ≡ None
no_fault nodes some few none =
    let whole : (length nodes == 0) ≡ false = grind (arith, some) in
    let short : nat_lt 7 (length nodes) ≡ false = grind (arith, few) in
    rw (whole, short, none) refl

-- what is told of an ensemble that is made
pub ensemble_told : (nodes sorted : List ℕ) → 0 < length nodes → length nodes ≤ 7 → first_again [] nodes ≡ None → All (λ n. n < 2 ^ 32) nodes → IsPermutation nodes sorted → IsNonDecreasing sorted → IsEnsemble sorted × IsPermutation nodes sorted × ensemble_fault nodes ≡ None
ensemble_told nodes sorted some few none small moved rising = (ensemble_made nodes sorted some few none small moved rising, moved, no_fault nodes some few none)

-- one more id that has 32 bits
pub small_more : (nodes : List ℕ) (i n : ℕ) → i < length nodes → n ≡ get_or nodes i n → n < 2 ^ 32 → ((k d : ℕ) → k < i → get_or nodes k d < 2 ^ 32) → (k d : ℕ) → k < i + 1 → get_or nodes k d < 2 ^ 32
small_more nodes i n lt at small before k d h = elim (cases_lt k i) [
  | inl earlier ↦ before k d earlier
  | inr later ↦
      let here : k ≡ i = omega arith in
      let same : get_or nodes k d ≡ n = ap (λ (j : ℕ). get_or nodes j d) here ∙ get_or_default nodes i d n lt ∙ sym at in
      omega (arith, same, small)
]
