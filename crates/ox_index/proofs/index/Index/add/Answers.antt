use Rattle.ox_index.specs.OrderLaws.{in_order-with}
use Rattle.ox_index.proofs.index.Index.add.Goals as goal

pub invariant_of-self-in-Err : goal.invariant_of-self-in-Err
invariant_of-self-in-Err c =
    let gap = rw c.deref.ensures.value at c.in-Err.ensures in
    rw (c.in_ok-insert-in-Err.ensures.items, c.in_ok-added-in-Err.ensures, ← gap.put) (in_order-with _ _ c.self.invariant)

pub returns-in_ok-insert-in-Err-clause-in_order : goal.returns-in_ok-insert-in-Err-clause-in_order
returns-in_ok-insert-in-Err-clause-in_order c =
    let gap = rw c.deref.ensures.value at c.in-Err.ensures in
    rw (c.in_ok-insert-in-Err.ensures.items, c.in_ok-added-in-Err.ensures, ← gap.put) (in_order-with _ _ c.self.invariant)
