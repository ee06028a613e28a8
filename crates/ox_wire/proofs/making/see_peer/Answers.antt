use Rattle.std.proofs.Common.{◌<◌, arith}
use Rattle.std.proofs.lemmas.Bool.{lt-ltb}
use Rattle.ox_bytes.specs.LogForms.{peer}
use Rattle.ox_wire.proofs.making.see_peer.Goals as goal

pub returns-in-Node : goal.returns-in-Node
unfolding peer
returns-in-Node c = let small : c.in-Node.node < 4294967296 = omega arith in rw c.in-Node.is (lt-ltb c.in-Node.node 4294967296 small)

pub returns-in-Coordinator : goal.returns-in-Coordinator
unfolding peer
returns-in-Coordinator c = let small : c.in-Coordinator.coordinator < 4294967296 = omega arith in rw c.in-Coordinator.is (lt-ltb c.in-Coordinator.coordinator 4294967296 small)
