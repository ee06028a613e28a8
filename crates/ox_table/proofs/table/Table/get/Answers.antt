use Rattle.ox_table.proofs.Places.{table_get-place, table_get-gap}
use Rattle.ox_table.proofs.table.Table.get.Goals as goal

pub returns-in-Ok-clause-value : goal.returns-in-Ok-clause-value
returns-in-Ok-clause-value g c =
    rw (← c.self.view_is) (table_get-place _ _ _ _ (rw c.deref.ensures.value at c.in-Ok.ensures) c.index.ensures)

pub returns-in-Err-clause-value : goal.returns-in-Err-clause-value
returns-in-Err-clause-value g c =
    rw (← c.self.view_is) (table_get-gap _ _ _ (rw c.deref.ensures.value at c.in-Err.ensures))
