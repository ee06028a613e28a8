-- Which sets of nodes decide, and how one config follows another.
use Rattle.std.specs.Prelude.{ℕ, ◌*◌, ◌<◌, nat_lt, Bool, true, false, ◌&&◌, List, length, count_by, IsTrue}
use Rattle.ox_quorum.specs.declared.config.Config.{Config}
use Rattle.ox_quorum.specs.declared.config.Config.TheVariants.{One, Joint}

-- A set of nodes is a test of a node. It holds more than half of an ensemble.
abbrev pub IsMajority : (ℕ → Bool) → List ℕ → Type 0
IsMajority nodes ensemble = length ensemble < 2 * count_by nodes ensemble

-- A set of nodes meets a config where it holds more than half of each of its ensembles.
abbrev pub MeetsConfig : (ℕ → Bool) → Config → Type 0
MeetsConfig nodes (One a) = IsMajority nodes a
MeetsConfig nodes (Joint a b) = IsMajority nodes a × IsMajority nodes b

-- the same as tests
abbrev pub has_majority : (ℕ → Bool) → List ℕ → Bool
has_majority nodes ensemble = nat_lt (length ensemble) (2 * count_by nodes ensemble)

abbrev pub meets_config : (ℕ → Bool) → Config → Bool
meets_config nodes (One a) = has_majority nodes a
meets_config nodes (Joint a b) = has_majority nodes a && has_majority nodes b

-- the config of the next term, where no other is wanted: that of a steady term leaves its former ensemble behind
abbrev pub config_after : Config → Bool → Config
config_after (One a) steady = One a
config_after (Joint a b) true = One b
config_after (Joint a b) false = Joint a b

-- How the config of a term may follow that of the term before, which was recorded steady or not.
pub data Follows : Config → Bool → Config → Type 0 where
  Same : (c : Config) (steady : Bool) → Follows c steady c
  Enters : (a b : List ℕ) (steady : Bool) → IsTrue steady → Follows (One a) steady (Joint a b)
  Leaves : (a b : List ℕ) (steady : Bool) → IsTrue steady → Follows (Joint a b) steady (One b)
