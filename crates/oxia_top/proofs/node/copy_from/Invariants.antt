use Rattle.std.proofs.Common.{◌≡◌, ◌≤◌, ◌++◌, max}
use Rattle.oxia_top.specs.Node.{between}
use Rattle.oxia_top.proofs.node.copy_from.Given as goal

abbrev pub invariant-loop-offset : goal.invariant-loop-offset
invariant-loop-offset l = record {
  copied : l.into ≡ l.initial.into ++ between l.replica.disk l.from l.offset;
  reach : l.offset ≤ max l.from l.to;
}
