use Rattle.std.proofs.Common.{◌≡◌, ◌-◌, length, take, drop}
use Rattle.std.specs.List.{flat_map}
use Rattle.ox_ops.specs.Answer.{items_in}
use Rattle.ox_ops.specs.Page.{item_size}
use Rattle.ox_ops.specs.Filling.{Holds}
use Rattle.ox_notice.proofs.reading.page_from.Given as goal

abbrev pub invariant-loop-at : goal.invariant-loop-at
invariant-loop-at l =
    Holds item_size l.page (drop l.skip (flat_map items_in (take (l.at - l.from) (drop l.from l.batches.items))))
    × (l.left ≡ l.skip - length (flat_map items_in (take (l.at - l.from) (drop l.from l.batches.items))))
