use Rattle.ox_table.proofs.Cuts.{run_between, run_empty}
use Rattle.ox_table.proofs.place.run_of.Goals as goal

pub returns-then-start-end : goal.returns-then-start-end
returns-then-start-end g c = run_between _ _ _ _ c.start_of-start.ensures c.end_of-end.ensures c.if-start-end.true

pub returns-else-start-end : goal.returns-else-start-end
returns-else-start-end g c = run_empty _ _ _ _ c.start_of-start.ensures c.end_of-end.ensures c.if-start-end.false
