-- Which nodes are an ensemble, and else the first rule that they break.
use Rattle.std.specs.Prelude.{ℕ, ◌<◌, ◌≤◌, ◌^◌, ◌==◌, All, ◌||◌, nat_lt, Bool, List, [], ◌∷◌, ◌++◌, length, Option, Some, None, if◌then◌else◌}
use Rattle.std.specs.List.{list_any}
use Rattle.std.specs.List.Sorted.{IsStrictlyIncreasing}
use Rattle.std.specs.Option.{option_map}
use Rattle.ox_quorum.specs.declared.ensemble.EnsembleFault.{EnsembleFault}
use Rattle.ox_quorum.specs.declared.ensemble.EnsembleFault.TheVariants.{Size, Repeated}

-- the node is one of these
abbrev pub has : List ℕ → ℕ → Bool
has nodes node = list_any (λ n. node == n) nodes

-- 1 to 7 nodes, by rising id; an id has 32 bits
pub record IsEnsemble (nodes : List ℕ) : Type 0 where
  pub some : 0 < length nodes
  pub few : length nodes ≤ 7
  pub rising : IsStrictlyIncreasing nodes
  pub ids : All (λ n. n < 2 ^ 32) nodes

-- the first of the nodes that is one of those before it, where those of `seen` stand before them all
abbrev pub first_again : List ℕ → List ℕ → Option ℕ
first_again seen [] = None
first_again seen (n ∷ nodes) = if has seen n then Some n else first_again (seen ++ n ∷ []) nodes

-- the first rule of an ensemble that the nodes break, in whatever order they stand
abbrev pub ensemble_fault : List ℕ → Option EnsembleFault
ensemble_fault nodes =
    if length nodes == 0 || nat_lt 7 (length nodes)
    then Some (Size (length nodes))
    else option_map Repeated (first_again [] nodes)
