-- Runs of calls, one behind the other.
use Rattle.std.proofs.Common.{inl, inr, ℕ, List, [], ◌∷◌, ◌++◌, subst}
use Rattle.ox_outside.specs.Disk.{Shown}
use Rattle.ox_journal.specs.Chain.{OneOf, LeavesInTurn}

-- where each has Q that has P
pub one_of_on : {S : Type 0} {P Q : S → Type 0} (xs : List S) → ((x : S) → P x → Q x) → OneOf P xs → OneOf Q xs
one_of_on [] on is = is
one_of_on (x ∷ xs) on (inl here) = inl (on x here)
one_of_on (x ∷ xs) on (inr there) = inr (one_of_on xs on there)

module _ {D S : Type 0} (shows : D → Shown) (stands : S → List ℕ → List ℕ → Type 0) where
  -- two runs are one
  pub joined : (steps more : List (List S)) (first mid last : D × D) → LeavesInTurn shows stands steps first mid → LeavesInTurn shows stands more mid last → LeavesInTurn shows stands (steps ++ more) first last
  joined [] more first mid last is rest = subst (λ (p : D × D). LeavesInTurn shows stands more p last) is rest
  joined (states ∷ steps) more first mid last front rest = (front.0, front.1, joined steps more front.0 mid last front.2 rest)

  -- in other words
  pub restated : (other : S → List ℕ → List ℕ → Type 0) → ((s : S) (c d : List ℕ) → stands s c d → other s c d) → (steps : List (List S)) (old new : D × D)
      → LeavesInTurn shows stands steps old new → LeavesInTurn shows other steps old new
  restated other on [] old new is = is
  restated other on (states ∷ steps) old new run = (
    run.0,
    record {
      seen = one_of_on states (λ s. on s _ _) run.1.seen;
      now = λ c d at_c at_d. one_of_on states (λ s. on s c d) (run.1.now c d at_c at_d);
      each = λ c d at_c at_d. one_of_on states (λ s. on s c d) (run.1.each c d at_c at_d);
    },
    restated other on steps run.0 new run.2,
  )
