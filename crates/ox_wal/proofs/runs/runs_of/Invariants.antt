use Rattle.std.proofs.Common.{◌≡◌, ◌++◌, length}
use Rattle.ox_types.specs.Log.{runs_of}
use Rattle.ox_wal.specs.Follow.{Follow}
use Rattle.ox_wal.proofs.runs.runs_of.Given as goal

abbrev pub invariant-loop-rest : goal.invariant-loop-rest
invariant-loop-rest l = record {
  runs : l.runs ++ runs_of l.rest ≡ runs_of l.entries;
  follow : Follow l.rest;
}

abbrev pub decreases-loop-rest : goal.decreases-loop-rest
decreases-loop-rest l = length l.rest
