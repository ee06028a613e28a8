use Rattle.oxia_top.proofs.NodeLemmas.{opening_node}
use Rattle.oxia_top.proofs.node.Node.opening.Goals as goal

pub returns : goal.returns
returns c = opening_node c.args.blocks c.in_ok-node.node c.in_ok-node-2.node c.in_ok-node-3.node _ _ c.requires.some c.in_ok-node.ensures c.in_ok-new_term.ensures.input c.in_ok-node-2.ensures.node c.in_ok-become_leader.ensures.input c.in_ok-node-3.ensures.node
