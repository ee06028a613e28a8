-- Stories by other rules: a quorum, the chain of configs, the higher head, what an attached node keeps, and where what is committed
-- ends may each be defined in another way. By the rules of specs/ such a story is a story; by each wrong rule of the files Wrong..
-- there is one whose leaders aren't complete.
use Rattle.std.specs.Prelude.{◌≡◌, ℕ, suc, ◌<◌, ◌≤◌, Bool, List, IsTrue}
use Rattle.ox_types.specs.declared.log.Entry.{Entry}
use Rattle.ox_quorum.specs.declared.config.Config.{Config}
use Rattle.ox_quorum.specs.Quorum.{meets_config, Follows}
use Rattle.ox_agreement.specs.Begins.{Begins}
use Rattle.ox_agreement.specs.Entries.{last_term, IsHeadWithin}
use Rattle.ox_agreement.specs.Tale.{Moment, latest, WasFenced, TookPart, LeaderHad, LedFrom}
use Rattle.ox_agreement.specs.Steps.{IsTale, IsFaithful}
use Rattle.ox_agreement.specs.Committed.{IsCommitted}
use Rattle.ox_agreement.specs.Story.{Story, IsStory}
use Rattle.ox_agreement.proofs.Keeping.{story_complete}

-- the rules: which nodes meet a config, how one config follows another, which head isn't higher, what the nodes of a tale keep,
-- and where what the leader of a term commits ends
module _
    (meets : (ℕ → Bool) → Config → Bool) (Chains : Config → Bool → Config → Type 0)
    (Within : List Entry → List Entry → Type 0) (Keeps : List Moment → Type 0)
    (Ends : ℕ → List Entry → Type 0) where
  -- each of these is that of specs/, by these rules
  pub record QuorumHasBy (config : Config) (P : ℕ → List Entry → Type 0) : Type 0 where
    pub nodes : ℕ → Bool
    pub quorum : IsTrue (meets nodes config)
    pub each : (n : ℕ) → IsTrue (nodes n) → (list : List Entry) × P n list

  pub record IsCommittedBy (config : ℕ → Config) (tale : List Moment) (t : ℕ) (front : List Entry) : Type 0 where
    pub list : List Entry
    pub leads : LeaderHad tale t list
    pub begins : Begins front list
    pub own : Ends t front
    pub held : QuorumHasBy (config t) (λ n had. TookPart tale n t had × Begins front had)

  pub record IsStoryBy (s : Story) : Type 0 where
    pub chain : (t : ℕ) → t < s.newest → Chains (s.config t) (s.steady t) (s.config (suc t))
    pub within : (n : ℕ) → (latest s.tale n).term ≤ s.newest
    pub ready : (t : ℕ) → IsTrue (s.steady t) → (front : List Entry) × IsCommittedBy s.config s.tale t front
    pub steps : IsTale s.leader s.tale
    pub faithful : Keeps s.tale
    pub chosen :
        (t : ℕ) (list : List Entry) → LedFrom s.tale t list →
        QuorumHasBy (s.config t) (λ n had. WasFenced s.tale n t had × Within had list)

  -- a leader began from a list that lacks what was committed in a lower term
  pub record LeaderLacks (s : Story) : Type 0 where
    pub t : ℕ
    pub u : ℕ
    pub list : List Entry
    pub front : List Entry
    pub began : LedFrom s.tale t list
    pub lower : u < t
    pub committed : IsCommittedBy s.config s.tale u front
    pub lacks : Begins front list → ⊥

  -- a story by these rules whose leaders aren't complete
  pub record AreWrong : Type 0 where
    pub story : Story
    pub is : IsStoryBy story
    pub lacking : LeaderLacks story

-- ---- by the rules of specs/ it is a story

-- its last entry is of the term
abbrev pub EndsIn : ℕ → List Entry → Type 0
EndsIn t front = last_term front ≡ t

committed_is :
    (config : ℕ → Config) (tale : List Moment) (t : ℕ) (front : List Entry) →
    IsCommittedBy meets_config Follows IsHeadWithin IsFaithful EndsIn config tale t front → IsCommitted config tale t front
committed_is config tale t front c = record {
  list = c.list;
  leads = c.leads;
  begins = c.begins;
  own = c.own;
  held = record { nodes = c.held.nodes; quorum = c.held.quorum; each = c.held.each };
}

story_is : (s : Story) → IsStoryBy meets_config Follows IsHeadWithin IsFaithful EndsIn s → IsStory s
story_is s is = record {
  chain = is.chain;
  within = is.within;
  ready = λ t h. let c = is.ready t h in (c.0, committed_is s.config s.tale t c.0 c.1);
  steps = is.steps;
  faithful = is.faithful;
  chosen = λ t list o. let q = is.chosen t list o in record { nodes = q.nodes; quorum = q.quorum; each = q.each };
}

-- by these rules no story is wrong
pub the_rules_are_right : AreWrong meets_config Follows IsHeadWithin IsFaithful EndsIn → ⊥
the_rules_are_right w =
    let l = w.lacking in
    let committed = committed_is w.story.config w.story.tale l.u l.front l.committed in
    l.lacks (story_complete w.story (story_is w.story w.is) l.t l.u l.list l.front l.began l.lower committed)
