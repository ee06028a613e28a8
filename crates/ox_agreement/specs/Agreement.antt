-- What the nodes of a tale agree on: who leads a term, the leader's list and base, and logs.
use Rattle.std.specs.Prelude.{◌≡◌, ℕ, ◌≤◌, List, length, take, ◌⊎◌}
use Rattle.ox_types.specs.declared.log.Entry.{Entry}
use Rattle.ox_types.specs.declared.log.Seat.{Seat}
use Rattle.ox_types.specs.declared.log.Seat.TheVariants.{Led}
use Rattle.ox_agreement.specs.Begins.{Begins}
use Rattle.ox_agreement.specs.Entries.{last_term, AreNumbered}
use Rattle.ox_agreement.specs.Tale.{Moment, latest, Was, LeaderHad, LeaderHadBase}

-- one node leads a term
abbrev pub HasOneLeader : List Moment → Type 0
HasOneLeader tale = (n k t : ℕ) (a b : List Entry) → Was tale n t Led a → Was tale k t Led b → n ≡ k

-- of two lists of the leader of a term one begins the other: its log only grows
abbrev pub LeadersOnlyGrow : List Moment → Type 0
LeadersOnlyGrow tale = (t : ℕ) (a b : List Entry) → LeaderHad tale t a → LeaderHad tale t b → Begins a b ⊎ Begins b a

-- a leader's base isn't below one that the leader of its term had before
abbrev pub BasesOnlyRise : List Moment → Type 0
BasesOnlyRise tale =
    (t base : ℕ) → LeaderHadBase tale t base →
    (n : ℕ) → (latest tale n).seat ≡ Led → (latest tale n).term ≡ t → base ≤ (latest tale n).base

-- two lists that have at some place an entry of one term are the same up to it
abbrev pub LogsMatch : List Moment → Type 0
LogsMatch tale =
    (n k t u : ℕ) (seat other : Seat) (a b : List Entry) → Was tale n t seat a → Was tale k u other b →
    (count : ℕ) → count ≤ length a → count ≤ length b →
    last_term (take count a) ≡ last_term (take count b) → take count a ≡ take count b

-- each entry stands at its offset
abbrev pub EntriesStandAtOffsets : List Moment → Type 0
EntriesStandAtOffsets tale = (n t : ℕ) (seat : Seat) (list : List Entry) → Was tale n t seat list → AreNumbered 0 list
