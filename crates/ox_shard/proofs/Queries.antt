-- Answers to queries by key and by an index.
use Rattle.std.proofs.Common.{◌≡◌, refl, ℕ, List, map, filter, Option, Some, None}
use Rattle.ox_order.specs.declared.range.KeyRange.{KeyRange}
use Rattle.ox_order.specs.Range.{in_range}
use Rattle.ox_ops.specs.declared.answer.Record.{Record}
use Rattle.ox_ops.specs.declared.answer.ShardAnswer.TheVariants as answer
use Rattle.ox_ops.specs.declared.query.Compare.{Compare}
use Rattle.ox_ops.specs.declared.query.ShardQuery.{ShardQuery}
use Rattle.ox_ops.specs.declared.query.ShardQuery.TheVariants as query
use Rattle.ox_ops.specs.State.{ShardState}
use Rattle.ox_ops.specs.Answer.{compared, matching, keys_page, answer_to}

module _ (s : ShardState) (q : ShardQuery) where
  pub got-by-key : (compare : Compare) (key : List ℕ) (by : Option (List ℕ)) (found : Option Record) → q ≡ query.Get compare key by → by ≡ None → found ≡ compared (λ (r : Record). r.key) compare key s.records → answer.Got found ≡ answer_to s q
  unfolding answer_to
  got-by-key compare key by found is none e = rw (is, none, e) refl

  pub listed-by-key : (range : KeyRange) (by : Option (List ℕ)) → q ≡ query.List range by → by ≡ None → keys_page (map (λ (r : Record). r.key) (filter (λ (r : Record). in_range range r.key) s.records)) ≡ answer_to s q
  unfolding answer_to
  listed-by-key range by is none = rw (is, none) refl

  pub listed-by-index : (range : KeyRange) (by : Option (List ℕ)) (name : List ℕ) → q ≡ query.List range by → by ≡ Some name → keys_page (map (λ (r : Record). r.key) (matching s range (Some name))) ≡ answer_to s q
  unfolding answer_to
  listed-by-index range by name is named = rw (is, named) refl
