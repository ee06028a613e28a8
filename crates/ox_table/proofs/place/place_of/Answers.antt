use Rattle.std.proofs.Common.{rules}
use Rattle.std.proofs.lemmas.Fn.{always_returns_same}
use Rattle.ox_types.specs.Order.{key_cmp}
use Rattle.ox_table.proofs.Search.{searched}
use Rattle.ox_table.proofs.place.place_of.Goals as goal

-- the closure compares a pair's key with the one that is sought
pub returns : goal.returns
returns g c =
    let facts = c.binary_search_by.ensures in
    let by_key = facts.position (λ pair. key_cmp pair.0 c.args.key.now) (always_returns_same _ _ _ (λ a r q called. search rules)) in
    searched _ c.requires c.args.key.now _ facts.bound by_key
