use Rattle.std.proofs.Common.{◌≡◌, ◌++◌, take, codes, decimal}
use Rattle.std.specs.List.{flat_map}
use Rattle.ox_report.proofs.message.add_other_nodes.Given as goal

abbrev pub invariant-loop-node : goal.invariant-loop-node
invariant-loop-node l = l.text ≡ l.fn.text ++ flat_map (λ n. codes "," ++ decimal n) (take l.node-index l.nodes)
