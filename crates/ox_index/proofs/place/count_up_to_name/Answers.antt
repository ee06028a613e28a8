use Rattle.std.proofs.Common.{rules}
use Rattle.std.specs.Ordering.{is_le}
use Rattle.std.proofs.lemmas.Fn.{always_returns_same}
use Rattle.ox_types.specs.Order.{bytes_cmp}
use Rattle.ox_index.specs.declared.added.Added.{Added}
use Rattle.ox_index.proofs.Orders.{cut_at, name_le}
use Rattle.ox_index.proofs.place.count_up_to_name.Goals as goal

-- the closure tests an entry
pub returns : goal.returns
returns c =
    let facts = c.partition_point.ensures in
    let test = λ (a : Added). is_le (bytes_cmp a.entry.name c.args.name.now) in
    cut_at test (name_le c.args.name.now) _ _ c.requires facts.bound
    (facts.partitioned test (always_returns_same _ _ _ (λ a r q called. search rules)))
