use Rattle.ox_bytes.specs.LogForms.{runs_course, runs_behind}
use Rattle.ox_bytes.specs.ListLaws.{IsSoFar}
use Rattle.ox_bytes.proofs.term_table.take_runs.Given as goal

abbrev pub invariant-loop : goal.invariant-loop
invariant-loop l = IsSoFar runs_course l.runs l.count l.counter l.least l.from ((runs_behind l.fn.base).at l.fn.from)
