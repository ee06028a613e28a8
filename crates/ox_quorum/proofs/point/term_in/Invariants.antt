use Rattle.std.proofs.Common.{◌≡◌, drop}
use Rattle.ox_types.specs.Log.{term_in_runs}
use Rattle.ox_quorum.proofs.point.term_in.Given as goal

abbrev pub invariant-loop-run : goal.invariant-loop-run
invariant-loop-run l = term_in_runs l.runs l.offset ≡ term_in_runs (drop l.run-index l.runs) l.offset
