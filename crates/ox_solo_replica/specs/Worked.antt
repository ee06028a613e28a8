-- A worked history: node 1, alone and with eight blocks, replicates a register.
use Rattle.std.specs.Prelude.{ℕ, true, [], ◌∷◌}
use Rattle.ox_types.specs.Durable.{blank}
use Rattle.ox_types.specs.declared.peer.Peer.TheVariants.{Coordinator}
use Rattle.ox_machine.specs.Register.{register_meaning}
use Rattle.ox_quorum.specs.declared.config.Config.TheVariants.{One}
use Rattle.ox_wire.specs.declared.body.Body.TheVariants.{NewTerm, BecomeLeader}
use Rattle.ox_solo_replica.specs.declared.input.Input.{Input}
use Rattle.ox_solo_replica.specs.declared.input.Input.TheVariants as input
use Rattle.ox_solo_replica.specs.Recovered.{recovered}
use Rattle.ox_solo_replica.specs.State.{ReplicaState}
use Rattle.ox_solo_replica.specs.Step.{Stepped, replica_step}

-- with nothing on its disks
abbrev pub opening : ReplicaState ℕ
opening = record { disk = blank; live = recovered register_meaning blank }

abbrev pub stepped_by : ReplicaState ℕ → Input → Stepped ℕ
stepped_by r i = replica_step register_meaning 1 8 r i

-- coordinator 4 begins term 1
abbrev pub fenced : Stepped ℕ
fenced = stepped_by opening (input.Peer (Coordinator 4) (NewTerm 1))

-- and lets it lead
abbrev pub led : Stepped ℕ
led = stepped_by fenced.state (input.Peer (Coordinator 4) (BecomeLeader 1 (One (1 ∷ [])) []))

-- client 7 stores the number 5
abbrev pub stored : Stepped ℕ
stored = stepped_by led.state (input.Client 7 true (0 ∷ 0 ∷ 0 ∷ 0 ∷ 0 ∷ 0 ∷ 0 ∷ 0 ∷ 5 ∷ []))
