use Rattle.std.proofs.Common.{◌∙◌}
use Rattle.ox_quorum.proofs.Nodes.{written}
use Rattle.ox_quorum.proofs.bytes.EnsembleField.put.Goals as goal

pub returns : goal.returns
returns c = c.loop-node.invariant ∙ written _ _ _ _ c.nodes-node-items.ensures.same c.loop-node-test.false
