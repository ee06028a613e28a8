use Rattle.std.proofs.Common.{◌∙◌}
use Rattle.ox_puts.proofs.Keyed.{get-keyed}
use Rattle.ox_puts.proofs.record_table.RecordTable.get.Goals as goal

pub returns-clause-found : goal.returns-clause-found
returns-clause-found c = rw (← c.self.view_is) (c.get.ensures.value ∙ get-keyed _ _ _ c.self.invariant)
