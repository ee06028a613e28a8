-- What a quorum of nodes has, and what is committed.
use Rattle.std.specs.Prelude.{◌≡◌, ℕ, Bool, List, IsTrue}
use Rattle.ox_types.specs.declared.log.Entry.{Entry}
use Rattle.ox_quorum.specs.declared.config.Config.{Config}
use Rattle.ox_quorum.specs.Quorum.{meets_config}
use Rattle.ox_agreement.specs.Begins.{Begins}
use Rattle.ox_agreement.specs.Entries.{last_term}
use Rattle.ox_agreement.specs.Tale.{Moment, LeaderHad, TookPart}

-- some nodes that meet the config, each with a list of which `P` holds
pub record QuorumHas (config : Config) (P : ℕ → List Entry → Type 0) : Type 0 where
  pub nodes : ℕ → Bool
  pub quorum : IsTrue (meets_config nodes config)
  pub each : (n : ℕ) → IsTrue (nodes n) → (list : List Entry) × P n list

-- What the leader of term t may count as committed: a beginning of its list that ends in its term, and that nodes which
-- meet the config of the term have had in that term.
pub record IsCommitted (config : ℕ → Config) (tale : List Moment) (t : ℕ) (front : List Entry) : Type 0 where
  pub list : List Entry
  pub leads : LeaderHad tale t list
  pub begins : Begins front list
  pub own : last_term front ≡ t
  pub held : QuorumHas (config t) (λ n had. TookPart tale n t had × Begins front had)
