use Rattle.std.proofs.Common.{rules}
use Rattle.std.specs.Ordering.{is_lt}
use Rattle.std.proofs.lemmas.Fn.{always_returns_same}
use Rattle.ox_index.specs.Order.{entry_cmp}
use Rattle.ox_index.specs.declared.added.Added.{Added}
use Rattle.ox_index.proofs.Orders.{cut_at, entry_lt}
use Rattle.ox_index.proofs.place.count_before.Goals as goal

-- the closure tests an entry
pub returns : goal.returns
returns c =
    let facts = c.partition_point.ensures in
    let test = λ (a : Added). is_lt (entry_cmp a.entry (record { name = c.args.name.now; key = c.args.second.now })) in
    cut_at test (entry_lt (record { name = c.args.name.now; key = c.args.second.now })) _ _ c.requires facts.bound
    (facts.partitioned test (always_returns_same _ _ _ (λ a r q called. search rules)))
