use Rattle.std.proofs.Common.{◌≡◌, ◌≤◌, take}
use Rattle.std.specs.List.{count_by}
use Rattle.ox_quorum.specs.Ensemble.{has}
use Rattle.ox_quorum.proofs.config.count_among.Given as goal

abbrev pub invariant-loop-node : goal.invariant-loop-node
invariant-loop-node l = (l.count ≡ count_by (has l.nodes) (take l.node-index l.node-items)) × (l.count ≤ l.node-index)
