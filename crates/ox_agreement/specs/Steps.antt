-- The steps of a node from its moment `old` to its moment `new`, behind the moments `older` of all nodes; and what is a tale.
use Rattle.std.specs.Prelude.{◌≡◌, ℕ, ◌<◌, ◌≤◌, List, [], ◌∷◌, ◌++◌, length}
use Rattle.ox_types.specs.declared.log.Entry.{Entry}
use Rattle.ox_types.specs.declared.log.Seat.TheVariants.{Fenced, Attached, Led}
use Rattle.ox_agreement.specs.Begins.{Begins}
use Rattle.ox_agreement.specs.Entries.{AreNumbered, AreOfTerm}
use Rattle.ox_agreement.specs.Tale.{Moment, latest, LeaderHad}

-- it is fenced at a higher term
pub record Fences (old new : Moment) : Type 0 where
  pub higher : old.term < new.term
  pub seat : new.seat ≡ Fenced
  pub same : new.entries ≡ old.entries

-- it begins to lead as the leader of its term, with one entry more
pub record BeginsToLead (leader : ℕ → ℕ) (old new : Moment) : Type 0 where
  pub was : old.seat ≡ Fenced
  pub seat : new.seat ≡ Led
  pub term : new.term ≡ old.term
  pub some_term : 0 < new.term
  pub pass : Entry
  pub of_term : pass.term ≡ new.term
  pub numbered : pass.offset ≡ length old.entries
  pub added : new.entries ≡ old.entries ++ pass ∷ []
  pub is_leader : leader new.term ≡ new.node

-- it adds entries of its term, or none, and its base doesn't fall
pub record Writes (old new : Moment) : Type 0 where
  pub was : old.seat ≡ Led
  pub seat : new.seat ≡ Led
  pub term : new.term ≡ old.term
  pub more : List Entry
  pub of_term : AreOfTerm new.term more
  pub numbered : AreNumbered (length old.entries) more
  pub base_rises : old.base ≤ new.base
  pub added : new.entries ≡ old.entries ++ more

-- it is attached to its leader, with the beginning of a list of that leader
pub record Attaches (older : List Moment) (old new : Moment) : Type 0 where
  pub was : old.seat ≡ Fenced
  pub seat : new.seat ≡ Attached
  pub term : new.term ≡ old.term
  pub list : List Entry
  pub leads : LeaderHad older new.term list
  pub follows : Begins new.entries list

-- it takes more of its leader's list
pub record Grows (older : List Moment) (old new : Moment) : Type 0 where
  pub was : old.seat ≡ Attached
  pub seat : new.seat ≡ Attached
  pub term : new.term ≡ old.term
  pub list : List Entry
  pub leads : LeaderHad older new.term list
  pub follows : Begins new.entries list
  pub keeps : Begins old.entries new.entries

pub data Step (leader : ℕ → ℕ) (older : List Moment) (old new : Moment) : Type 0 where
  ByFencing : Fences old new → Step leader older old new
  ByLeading : BeginsToLead leader old new → Step leader older old new
  ByWriting : Writes old new → Step leader older old new
  ByAttaching : Attaches older old new → Step leader older old new
  ByGrowing : Grows older old new → Step leader older old new

-- each moment is a step of its node, where each term has this leader
abbrev pub IsTale : (ℕ → ℕ) → List Moment → Type 0
IsTale leader [] = Unit {0}
IsTale leader (m ∷ older) = Step leader older (latest older m.node) m × IsTale leader older

-- what begins both the old list and a list of the leader begins the new list
pub record KeepsCommon (older : List Moment) (old new : Moment) : Type 0 where
  pub list : List Entry
  pub leads : LeaderHad older new.term list
  pub keeps : (front : List Entry) → Begins front old.entries → Begins front list → Begins front new.entries

-- each node that is attached keeps what it has in common with its leader
abbrev pub IsFaithful : List Moment → Type 0
IsFaithful [] = Unit {0}
IsFaithful (m ∷ older) =
    ((latest older m.node).seat ≡ Fenced → m.seat ≡ Attached → KeepsCommon older (latest older m.node) m) × IsFaithful older
