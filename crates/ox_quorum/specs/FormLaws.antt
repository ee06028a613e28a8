-- The forms of ensembles and configs are exact, and what is read as an ensemble is one.
use Rattle.std.proofs.Common.{◌≡◌, ℕ, List, Some, refl, sym, ap}
use Rattle.std.proofs.lemmas.Option.{same_Some}
use Rattle.ox_bytes.specs.declared.fault.WireRule.TheVariants.{Range, Order}
use Rattle.ox_bytes.specs.Form.{IsExact, pair}
use Rattle.ox_bytes.specs.FormLaws.{checked_exact, pair_exact, is_variant}
use Rattle.ox_bytes.specs.Fields.{number32}
use Rattle.ox_bytes.specs.FieldLaws.{choice_exact}
use Rattle.ox_bytes.specs.ListLaws.{list_by_exact}
use Rattle.ox_bytes.specs.NumberLaws.{number32_exact}
use Rattle.ox_quorum.specs.declared.config.Config.{Config}
use Rattle.ox_quorum.specs.declared.config.Config.TheVariants.{One, Joint}
use Rattle.ox_quorum.specs.Forms.{ensemble_size, node_from, nodes_course, ensemble, config_tag, config_one, config_joint, config}

pub ensemble_size_exact : IsExact ensemble_size
unfolding ensemble_size
ensemble_size_exact = checked_exact _ Range number32 number32_exact

pub node_from_exact : (least : ℕ) → IsExact (node_from least)
unfolding node_from
node_from_exact least = checked_exact _ Order number32 number32_exact

pub ensemble_exact : IsExact ensemble
ensemble_exact = list_by_exact nodes_course node_from_exact ensemble_size 0 ensemble_size_exact

config_one_there : (x : Config) (a : List ℕ) → config_one x ≡ Some a → One a ≡ x
config_one_there (One b) a h = cc
config_one_there _ a h = absurd cc

config_joint_there : (x : Config) (p : List ℕ × List ℕ) → config_joint x ≡ Some p → Joint p.0 p.1 ≡ x
config_joint_there (Joint a b) p h = sym (ap (λ (q : List ℕ × List ℕ). Joint q.0 q.1) (same_Some (a, b) p h))
config_joint_there _ p h = absurd cc

pub config_exact : IsExact config
unfolding config
config_exact = choice_exact config_tag _ (
  is_variant config_tag 0 (λ p. One p) config_one ensemble config_one_there (λ a. refl) (λ a. refl) ensemble_exact,
  (
    is_variant config_tag 1 (λ p. Joint p.0 p.1) config_joint (pair ensemble ensemble) config_joint_there (λ a. refl) (λ a. refl) (pair_exact ensemble ensemble ensemble_exact ensemble_exact),
    tt,
  ),
)
