-- The key of the entry that a comparison finds is that of the pair.
use Rattle.std.proofs.Common.{◌≡◌, ◌∙◌, ℕ, List, map, filter, refl, sym, ap}
use Rattle.std.specs.Prelude.{Bool, Option, Some, None}
use Rattle.std.specs.Option.{option_map}
use Rattle.std.specs.Str.{bytes_eq}
use Rattle.std.specs.Ordering.{is_lt, is_le}
use Rattle.ox_types.specs.Order.{key_cmp}
use Rattle.ox_types.specs.Lists.{first_of, last_of}
use Rattle.ox_ops.specs.declared.query.Compare.{Compare}
use Rattle.ox_ops.specs.declared.query.Compare.TheVariants.{Equal, Floor, Ceiling, Lower, Higher}
use Rattle.ox_ops.specs.Answer.{compared}
use Rattle.ox_index.specs.declared.added.Added.{Added}
use Rattle.ox_index.specs.Pairs.{has_name, pair_of, pairs_under, found}
use Rattle.ox_index.proofs.Cuts.{filter_map_first, first_of-map, last_of-map}

key_of_pair : (o : Option Added) → option_map (λ a. a.key) o ≡ option_map (λ p. p.key) (option_map pair_of o)
key_of_pair None = refl
key_of_pair (Some a) = refl

module _ (t : List ℕ → Bool) (xs : List Added) where
  first_pair : option_map pair_of (first_of (filter (λ a. t a.entry.key) xs)) ≡ first_of (filter (λ p. t p.second) (map pair_of xs))
  first_pair = sym (ap first_of (filter_map_first pair_of (λ p. t p.second) xs) ∙ first_of-map pair_of (filter (λ a. t a.entry.key) xs))

  last_pair : option_map pair_of (last_of (filter (λ a. t a.entry.key) xs)) ≡ last_of (filter (λ p. t p.second) (map pair_of xs))
  last_pair = sym (ap last_of (filter_map_first pair_of (λ p. t p.second) xs) ∙ last_of-map pair_of (filter (λ a. t a.entry.key) xs))

pair_found : (name : List ℕ) (compare : Compare) (second : List ℕ) (xs : List Added)
    → option_map pair_of (found name compare second xs) ≡ compared (λ p. p.second) compare second (pairs_under name xs)
pair_found name Equal second xs = first_pair (λ k. bytes_eq k second) (filter (has_name name) xs)
pair_found name Floor second xs = last_pair (λ k. is_le (key_cmp k second)) (filter (has_name name) xs)
pair_found name Ceiling second xs = first_pair (λ k. is_le (key_cmp second k)) (filter (has_name name) xs)
pair_found name Lower second xs = last_pair (λ k. is_lt (key_cmp k second)) (filter (has_name name) xs)
pair_found name Higher second xs = first_pair (λ k. is_lt (key_cmp second k)) (filter (has_name name) xs)

pub found_key : (name : List ℕ) (compare : Compare) (second : List ℕ) (xs : List Added)
    → option_map (λ a. a.key) (found name compare second xs) ≡ option_map (λ p. p.key) (compared (λ p. p.second) compare second (pairs_under name xs))
found_key name compare second xs = key_of_pair (found name compare second xs) ∙ ap (option_map (λ p. p.key)) (pair_found name compare second xs)
