use Rattle.std.proofs.Common.{◌≡◌, ◌++◌, length, take}
use Rattle.std.specs.List.{flat_map}
use Rattle.ox_bytes.specs.Numbers.{be32}
use Rattle.ox_quorum.proofs.bytes.EnsembleField.put.Given as goal

abbrev pub invariant-loop-node : goal.invariant-loop-node
invariant-loop-node l = l.to ≡ l.fn.to ++ (be32 (length l.node-items) ++ flat_map be32 (take l.node-index l.node-items))
