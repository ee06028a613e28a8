use Rattle.std.proofs.Common.{◌<◌, ◌^◌, All}
use Rattle.ox_bytes.specs.ListLaws.{IsSoFar}
use Rattle.ox_quorum.specs.Forms.{nodes_course, ensemble}
use Rattle.ox_quorum.proofs.bytes.take_nodes.Given as goal

abbrev pub invariant-loop : goal.invariant-loop
invariant-loop l = IsSoFar nodes_course l.nodes l.count l.counter l.least l.from (ensemble.at l.fn.from) × All (λ n. n < 2 ^ 32) l.nodes
