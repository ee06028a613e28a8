-- The test of a quorum tells what it says.
use Rattle.std.proofs.Common.{◌≡◌, ℕ, Bool, true, List, arith}
use Rattle.std.proofs.lemmas.Bool.{and_parts, and_from}
use Rattle.ox_quorum.specs.declared.config.Config.{Config}
use Rattle.ox_quorum.specs.declared.config.Config.TheVariants.{One, Joint}
use Rattle.ox_quorum.specs.Quorum.{MeetsConfig, meets_config, has_majority, IsMajority}

majority_told : (nodes : ℕ → Bool) (a : List ℕ) → has_majority nodes a ≡ true → IsMajority nodes a
majority_told nodes a h = grind (arith, h)

majority_tells : (nodes : ℕ → Bool) (a : List ℕ) → IsMajority nodes a → has_majority nodes a ≡ true
majority_tells nodes a h = grind (arith, h)

pub quorum_told : (nodes : ℕ → Bool) (config : Config) → meets_config nodes config ≡ true → MeetsConfig nodes config
quorum_told nodes (One a) h = majority_told nodes a h
quorum_told nodes (Joint a b) h =
    let both = and_parts (has_majority nodes a) (has_majority nodes b) h in
    (majority_told nodes a both.0, majority_told nodes b both.1)

pub quorum_tells : (nodes : ℕ → Bool) (config : Config) → MeetsConfig nodes config → meets_config nodes config ≡ true
quorum_tells nodes (One a) h = majority_tells nodes a h
quorum_tells nodes (Joint a b) h = and_from _ _ (majority_tells nodes a h.0) (majority_tells nodes b h.1)
