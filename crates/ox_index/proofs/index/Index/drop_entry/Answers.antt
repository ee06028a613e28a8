use Rattle.ox_index.specs.OrderLaws.{in_order-without}
use Rattle.ox_index.proofs.index.Index.drop_entry.Goals as goal

pub invariant_of-self : goal.invariant_of-self
invariant_of-self c =
    let place = rw c.deref.ensures.value at c.in-Ok.ensures in
    rw (c.remove.ensures.items, ← place.taken) (in_order-without _ _ c.self.invariant)

pub returns-in-Ok-clause-in_order : goal.returns-in-Ok-clause-in_order
returns-in-Ok-clause-in_order c =
    let place = rw c.deref.ensures.value at c.in-Ok.ensures in
    rw (c.remove.ensures.items, ← place.taken) (in_order-without _ _ c.self.invariant)
