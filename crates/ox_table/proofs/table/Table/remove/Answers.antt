use Rattle.std.proofs.Common.{◌∙◌}
use Rattle.ox_table.specs.TableLaws.{IsRising-filter}
use Rattle.ox_table.proofs.Places.{remove-place, removed-gap, table_get-place, table_get-gap}
use Rattle.ox_table.proofs.table.Table.remove.Goals as goal

pub invariant_of-self : goal.invariant_of-self
invariant_of-self g c =
    let place = rw c.deref.ensures.value at c.in-Ok.ensures in
    rw (c.remove.ensures.items, remove-place _ _ _ place) (IsRising-filter _ _ c.self.invariant)

pub returns-in-Ok-clause-value : goal.returns-in-Ok-clause-value
returns-in-Ok-clause-value g c =
    let place = rw c.deref.ensures.value at c.in-Ok.ensures in
    rw (← c.self.view_is) (table_get-place _ _ _ _ place c.remove.ensures.value)

pub returns-in-Ok-clause-after : goal.returns-in-Ok-clause-after
returns-in-Ok-clause-after g c =
    let place = rw c.deref.ensures.value at c.in-Ok.ensures in
    rw (← c.self.view_is) (c.remove.ensures.items ∙ remove-place _ _ _ place)

pub returns-in-Ok-clause-rising : goal.returns-in-Ok-clause-rising
returns-in-Ok-clause-rising g c =
    let place = rw c.deref.ensures.value at c.in-Ok.ensures in
    rw (c.remove.ensures.items, remove-place _ _ _ place) (IsRising-filter _ _ c.self.invariant)

pub returns-in-Err-clause-value : goal.returns-in-Err-clause-value
returns-in-Err-clause-value g c =
    let gap = rw c.deref.ensures.value at c.in-Err.ensures in
    rw (← c.self.view_is) (table_get-gap _ _ _ gap)

pub returns-in-Err-clause-after : goal.returns-in-Err-clause-after
returns-in-Err-clause-after g c =
    let gap = rw c.deref.ensures.value at c.in-Err.ensures in
    rw (← c.self.view_is) (removed-gap _ _ _ gap)
