use Rattle.ox_index.proofs.Ranges.{pairs_between}
use Rattle.ox_index.proofs.index.Index.within.Goals as goal

pub returns-clause-pairs : goal.returns-clause-pairs
returns-clause-pairs c = rw (← c.self.view_is, ← c.as_slice-entries.ensures.value) (pairs_between c.args.name.now c.args.range.now _ _ _ c.start_of-start.ensures c.end_of-end.ensures c.max.result c.max.ensures)
