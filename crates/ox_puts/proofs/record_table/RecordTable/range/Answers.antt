use Rattle.std.proofs.Common.{◌∙◌}
use Rattle.ox_puts.proofs.Keyed.{within-keyed}
use Rattle.ox_puts.proofs.record_table.RecordTable.range.Goals as goal

pub returns-clause-records : goal.returns-clause-records
returns-clause-records c = rw (← c.self.view_is) (c.range.ensures.pairs ∙ within-keyed _ _ c.self.invariant _)
