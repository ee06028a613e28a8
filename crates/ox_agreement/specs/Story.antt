-- Stories: the terms with their configs, and a tale of what the nodes did; and what holds of each.
use Rattle.std.specs.Prelude.{ℕ, suc, ◌<◌, ◌≤◌, Bool, List, IsTrue, ◌⊎◌}
use Rattle.ox_types.specs.declared.log.Entry.{Entry}
use Rattle.ox_quorum.specs.declared.config.Config.{Config}
use Rattle.ox_quorum.specs.Quorum.{meets_config, Follows}
use Rattle.ox_agreement.specs.Begins.{Begins}
use Rattle.ox_agreement.specs.Entries.{IsHeadWithin}
use Rattle.ox_agreement.specs.Tale.{Moment, latest, WasFenced, LedFrom}
use Rattle.ox_agreement.specs.Steps.{IsTale, IsFaithful}
use Rattle.ox_agreement.specs.Committed.{QuorumHas, IsCommitted}

-- Of each term its config, whether it was recorded steady, and its leader; the newest term; and what the nodes did.
pub record Story : Type 0 where
  pub config : ℕ → Config
  pub steady : ℕ → Bool
  pub leader : ℕ → ℕ
  pub newest : ℕ
  pub tale : List Moment

pub record IsStory (s : Story) : Type 0 where
  -- up to the newest term each config follows from that of the term before
  pub chain : (t : ℕ) → t < s.newest → Follows (s.config t) (s.steady t) (s.config (suc t))
  -- no node has a term above the newest
  pub within : (n : ℕ) → (latest s.tale n).term ≤ s.newest
  -- a term is recorded steady only where its leader had committed
  pub ready : (t : ℕ) → IsTrue (s.steady t) → (front : List Entry) × IsCommitted s.config s.tale t front
  -- each moment is a step of its node
  pub steps : IsTale s.leader s.tale
  -- a node that is attached keeps what it has in common with its leader
  pub faithful : IsFaithful s.tale
  -- a leader had the highest head of nodes that meet the config of its term and were fenced at it
  pub chosen :
      (t : ℕ) (list : List Entry) → LedFrom s.tale t list →
      QuorumHas (s.config t) (λ n had. WasFenced s.tale n t had × IsHeadWithin had list)

-- The list from which a leader began to lead has all that a leader of a lower term commits, anywhere in the tale.
abbrev pub LeadersAreComplete : Story → Type 0
LeadersAreComplete s =
    (t u : ℕ) (list front : List Entry) → LedFrom s.tale t list → u < t → IsCommitted s.config s.tale u front → Begins front list

-- And so has a list that may be chosen: that of a node that was fenced at the term, with the highest head of nodes that were
-- fenced at it and meet its config.
abbrev pub CandidatesAreComplete : Story → Type 0
CandidatesAreComplete s =
    (n t : ℕ) (list : List Entry) → 0 < t → WasFenced s.tale n t list →
    QuorumHas (s.config t) (λ k had. WasFenced s.tale k t had × IsHeadWithin had list) →
    (u : ℕ) (front : List Entry) → u < t → IsCommitted s.config s.tale u front → Begins front list

-- Of what two leaders commit one begins the other: there is one history.
abbrev pub HasOneHistory : Story → Type 0
HasOneHistory s =
    (t u : ℕ) (a b : List Entry) → IsCommitted s.config s.tale t a → IsCommitted s.config s.tale u b → Begins a b ⊎ Begins b a

-- Of each set of nodes that meets the config of the newest term, a node with the highest head has all that was committed.
abbrev pub IsRecoverable : Story → Type 0
IsRecoverable s =
    (nodes : ℕ → Bool) → IsTrue (meets_config nodes (s.config s.newest)) →
    (best : ℕ) → ((n : ℕ) → IsTrue (nodes n) → IsHeadWithin (latest s.tale n).entries (latest s.tale best).entries) →
    (t : ℕ) (front : List Entry) → IsCommitted s.config s.tale t front → Begins front (latest s.tale best).entries
