-- The bytes of ensembles and configs (docs/FORMATS.md).
use Rattle.std.specs.Prelude.{ℕ, ◌+◌, ◌&&◌, nat_le, List, [], ◌∷◌, Option, Some, None}
use Rattle.ox_bytes.specs.declared.fault.WireRule.TheVariants.{Range, Order}
use Rattle.ox_bytes.specs.Form.{Form, checked, pair, variant}
use Rattle.ox_bytes.specs.Fields.{number32, choice}
use Rattle.ox_bytes.specs.Lists.{Course, list_by}
use Rattle.ox_quorum.specs.declared.config.Config.{Config}
use Rattle.ox_quorum.specs.declared.config.Config.TheVariants.{One, Joint}

-- how many nodes an ensemble has
unfoldable pub ensemble_size : Form ℕ
ensemble_size = checked (λ n. nat_le 1 n && nat_le n 7) Range number32

-- a node behind others: its id is at least this one, or else out of order
unfoldable pub node_from : ℕ → Form ℕ
node_from least = checked (λ n. nat_le least n) Order number32

-- ids rise from node to node
abbrev pub nodes_course : Course ℕ ℕ
nodes_course = record { form = node_from; after = λ least n. n + 1 }

-- the nodes of an ensemble, behind their number
abbrev pub ensemble : Form (List ℕ)
ensemble = list_by ensemble_size nodes_course 0

-- the byte of a config, and its ensembles where it is of this kind
abbrev pub config_tag : Config → ℕ
config_tag (One a) = 0
config_tag (Joint a b) = 1

abbrev pub config_one : Config → Option (List ℕ)
config_one (One a) = Some a
config_one _ = None

abbrev pub config_joint : Config → Option (List ℕ × List ℕ)
config_joint (Joint a b) = Some (a, b)
config_joint _ = None

-- a config
unfoldable pub config : Form Config
config = choice config_tag (
    variant (λ p. One p) config_one ensemble
    ∷ variant (λ p. Joint p.0 p.1) config_joint (pair ensemble ensemble)
    ∷ [])
