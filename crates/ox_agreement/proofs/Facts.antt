-- What the induction on terms takes of a tale.
use Rattle.std.specs.Prelude.{◌≡◌, ℕ, suc, ◌<◌, Bool, List, IsTrue, ◌⊎◌}
use Rattle.ox_types.specs.declared.log.Entry.{Entry}
use Rattle.ox_quorum.specs.declared.config.Config.{Config}
use Rattle.ox_quorum.specs.Quorum.{Follows}
use Rattle.ox_agreement.specs.Begins.{Begins}
use Rattle.ox_agreement.specs.Entries.{last_term, IsHeadWithin}
use Rattle.ox_agreement.specs.Committed.{QuorumHas}
use Rattle.ox_agreement.proofs.Fronts.{TermsNeverFall}

-- The relations below are taken as any, so that the induction sees no tale:
--   WasFenced n t l   node n was fenced at term t, with the list l
--   TookPart n t l    node n was attached or led in term t, with the list l
--   LedFrom t l       a node began to lead in term t, and had the list l before
--   LeaderHad t l     a leader of term t had the list l
--   IsCommitted t l   the leader of term t may count l as committed

-- each list from which a leader of term t began has what leaders of lower terms commit
abbrev pub AreComplete : (ℕ → List Entry → Type 0) → (ℕ → List Entry → Type 0) → ℕ → Type 0
AreComplete LedFrom IsCommitted t =
    (q : List Entry) → LedFrom t q → (u : ℕ) → u < t → (p : List Entry) → IsCommitted u p → Begins p q

pub record Facts
    (config : ℕ → Config) (steady : ℕ → Bool)
    (WasFenced TookPart : ℕ → ℕ → List Entry → Type 0)
    (LedFrom LeaderHad IsCommitted : ℕ → List Entry → Type 0) : Type 0 where
  -- up to the term of a leader each config follows from that of the term before
  pub chain : (t : ℕ) (q : List Entry) → LedFrom t q → (v : ℕ) → v < t → Follows (config v) (steady v) (config (suc v))
  -- a term is recorded steady only where its leader had committed
  pub ready : (t : ℕ) → IsTrue (steady t) → (p : List Entry) × IsCommitted t p
  -- a leader had the highest head of nodes that meet the config of its term and were fenced at it
  pub chosen : (t : ℕ) (q : List Entry) → LedFrom t q → QuorumHas (config t) (λ n l. WasFenced n t l × IsHeadWithin l q)
  -- nodes that meet the config of a term had, in the term, what its leader committed
  pub held : (t : ℕ) (p : List Entry) → IsCommitted t p → QuorumHas (config t) (λ n q. TookPart n t q × Begins p q)
  -- what is committed begins a list of the leader
  pub of_leader : (t : ℕ) (p : List Entry) → IsCommitted t p → (q : List Entry) × LeaderHad t q × Begins p q
  -- and its last entry is of the leader's term
  pub own : (t : ℕ) (p : List Entry) → IsCommitted t p → last_term p ≡ t
  -- what a leader began from begins each of its lists
  pub opened : (t : ℕ) (q : List Entry) → LeaderHad t q → (l : List Entry) × LedFrom t l × Begins l q
  -- of two lists of the leader of a term one begins the other
  pub one : (t : ℕ) (q r : List Entry) → LeaderHad t q → LeaderHad t r → Begins q r ⊎ Begins r q
  -- a leader began from entries of lower terms alone
  pub below : (t : ℕ) (q : List Entry) → LedFrom t q → last_term q < t
  -- terms never fall along a list
  pub rises : (t : ℕ) (q : List Entry) → LedFrom t q → TermsNeverFall q
  pub fenced_rises : (n t : ℕ) (l : List Entry) → WasFenced n t l → TermsNeverFall l
  -- a list begins one of the leader of its last term
  pub stems : (t : ℕ) (q : List Entry) → LedFrom t q → 0 < last_term q → (r : List Entry) × LeaderHad (last_term q) r × Begins q r
  -- A node that had what was committed has it where it is fenced at a higher term, if the leaders of the terms below are complete.
  pub kept :
      (n t u : ℕ) (l q p : List Entry) → WasFenced n t l → TookPart n u q → u < t → IsCommitted u p → Begins p q →
      ((v : ℕ) → v < t → AreComplete LedFrom IsCommitted v) → Begins p l
