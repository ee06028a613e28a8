-- The node of a run: its disks, its start and its opening.
use Rattle.std.proofs.Common.{◌≡◌, ◌≤◌, ◌∙◌, ◌⊎◌, inl, inr, ℕ, List, [], ◌∷◌, Bool, true, false, ◌-◌, ◌==◌, if◌then◌else◌, refl, ap, arith}
use Rattle.ox_types.specs.Durable.{DurableState, blank}
use Rattle.ox_types.specs.declared.peer.Peer.TheVariants.{Coordinator}
use Rattle.ox_memory.specs.declared.disk.MemoryDisk.{MemoryDisk}
use Rattle.ox_wal.specs.Files.{HoldsState, Stands}
use Rattle.ox_ops.specs.State.{ShardState}
use Rattle.ox_meaning.specs.Shard.{shard_meaning}
use Rattle.ox_wire.specs.declared.body.Body.TheVariants.{NewTerm}
use Rattle.ox_solo_replica.specs.declared.input.Input.{Input}
use Rattle.ox_solo_replica.specs.declared.input.Input.TheVariants.{Peer}
use Rattle.ox_solo_replica.specs.State.{Held, ReplicaState}
use Rattle.ox_solo_replica.specs.Recovered.{recovered}
use Rattle.ox_solo_replica.specs.Moving.{advance}
use Rattle.ox_solo_replica.specs.State.{view_at}
use Rattle.ox_solo_replica.specs.Term.{refuses, leads}
use Rattle.ox_solo_replica.specs.Step.{replica_step, row_at, stepped}
use Rattle.ox_types.specs.declared.refusal.Refusal.TheVariants.{LogFull}
use Rattle.ox_quorum.specs.declared.config.Config.TheVariants.{One}
use Rattle.ox_wire.specs.declared.body.Asked.TheVariants as asked
use Rattle.ox_solo_safety.specs.World.{opening_replica, reopened}
use Rattle.ox_solo_safety.specs.Run.{lead_body}
use Rattle.ox_solo_safety.specs.declared.power.Power.{Power}
use Rattle.ox_solo_safety.specs.declared.power.Power.TheVariants.{Up, Down}
use Rattle.oxia_top.specs.Node.{NodeState, node_of, shows}

-- two blank files stand for the blank state
pub blank_stands : (first second : List ℕ) → first ≡ [] → second ≡ [] → Stands first second blank
blank_stands first second e f = rw (e, f) (inr (refl, refl, refl))

-- files that a replica's disks show stand for its state in either order
pub stands_either : (first second journal spare : MemoryDisk) (d : DurableState)
    → ((c e : List ℕ) (state : DurableState) → HoldsState c e state → HoldsState e c state)
    → HoldsState ((shows journal).seen) ((shows spare).seen) d
    → ((first ≡ journal) × (second ≡ spare)) ⊎ ((first ≡ spare) × (second ≡ journal))
    → Stands ((shows first).seen) ((shows second).seen) d
stands_either first second journal spare d swapped held (inl e) = rw (e.0, e.1) (inl held)
stands_either first second journal spare d swapped held (inr e) = rw (e.0, e.1) (inl (swapped _ _ d held))

-- a node that opens on disks of a known state
pub opened_is : (blocks : ℕ) (r : Held ShardState MemoryDisk) (d : DurableState)
    → r.disk ≡ d → r.live ≡ recovered shard_meaning r.disk → node_of blocks Up r ≡ record { blocks = blocks; power = Up; state = reopened shard_meaning d }
opened_is blocks r d e live = rw (live, e) refl

-- a node that starts again
pub started_is : (blocks : ℕ) (power : Power) (r r' : Held ShardState MemoryDisk) (n : NodeState)
    → node_of blocks power r ≡ n → n.power ≡ Down → r'.disk ≡ r.disk → r'.live ≡ recovered shard_meaning r'.disk → node_of blocks Up r' ≡ record n { power = Up }
started_is blocks power r r' n view down e live =
    let p : power ≡ Down = ap (λ (m : NodeState). m.power) view ∙ down in
    rw (← view, p, live, e) refl

-- ---- the opening

fenced_is : (blocks : ℕ) → (replica_step shard_meaning 1 blocks (reopened shard_meaning blank) (Peer (Coordinator 0) (NewTerm 1))).state
    ≡ record { disk = record blank { term = 1 }; live = recovered shard_meaning blank }
unfolding replica_step row_at
fenced_is blocks = refl

-- in term 1, with an empty log
abbrev fenced_disk : DurableState
fenced_disk = record blank { term = 1 }

led_if : (blocks : ℕ) (b : Bool) → b ≡ false
    → (stepped shard_meaning fenced_disk (if b then refuses (recovered shard_meaning blank) 0 asked.BecomeLeader 1 (LogFull 1 0) else leads (view_at blocks fenced_disk 0) (recovered shard_meaning blank) 1 0 (One (1 ∷ [])))).state
    ≡ opening_replica shard_meaning
unfolding advance
led_if blocks true e = absurd cc
led_if blocks false e = refl

some_free : (blocks : ℕ) → 1 ≤ blocks → (blocks - 0 == 0) ≡ false
some_free blocks some = grind (arith, some)

led_is : (blocks : ℕ) → 1 ≤ blocks
    → (replica_step shard_meaning 1 blocks (record { disk = fenced_disk; live = recovered shard_meaning blank }) (Peer (Coordinator 0) (lead_body 1))).state ≡ opening_replica shard_meaning
unfolding replica_step row_at
led_is blocks some = led_if blocks (blocks - 0 == 0) (some_free blocks some)

-- a node that was blank is fenced in term 1 and then leads it
pub opening_node : (blocks : ℕ) (n n' n'' : NodeState) (first second : Input) → 1 ≤ blocks
    → n ≡ record { blocks = blocks; power = Up; state = reopened shard_meaning blank }
    → first ≡ Peer (Coordinator 0) (NewTerm 1) → n' ≡ record n { state = (replica_step shard_meaning 1 n.blocks n.state first).state }
    → second ≡ Peer (Coordinator 0) (lead_body 1) → n'' ≡ record n' { state = (replica_step shard_meaning 1 n'.blocks n'.state second).state }
    → n'' ≡ record { blocks = blocks; power = Up; state = opening_replica shard_meaning }
opening_node blocks n n' n'' first second some e e1 e' e2 e'' =
    let node : ReplicaState ShardState → NodeState = λ s. record { blocks = blocks; power = Up; state = s } in
    let f : n' ≡ node (record { disk = record blank { term = 1 }; live = recovered shard_meaning blank }) = (let h = rw (e, e1) at e' in h ∙ ap node (fenced_is blocks)) in
    let g = rw (f, e2) at e'' in
    g ∙ ap node (led_is blocks some)
