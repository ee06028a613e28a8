-- The only node of a run: its replica, and whether it is up.
use Rattle.std.specs.Prelude.{◌≡◌, ◌-◌, ℕ, nat_lt, List, take, None, if◌then◌else◌, Bool}
use Rattle.ox_types.specs.declared.log.Entry.{Entry}
use Rattle.ox_types.specs.Durable.{DurableState}
use Rattle.ox_outside.specs.Disk.{Shown}
use Rattle.ox_memory.specs.Log.{shown}
use Rattle.ox_memory.specs.declared.disk.MemoryDisk.{MemoryDisk}
use Rattle.ox_ops.specs.State.{ShardState}
use Rattle.ox_meaning.specs.Shard.{shard_meaning}
use Rattle.ox_solo_replica.specs.State.{Held, ReplicaState, replica_of}
use Rattle.ox_solo_replica.specs.Sound.{IsKept}
use Rattle.ox_solo_replica.specs.Moving.{entries_from}
use Rattle.ox_solo_replica.specs.Step.{Stepped}
use Rattle.ox_solo_replica.specs.Cutting.{calls_of, disk_behind}
use Rattle.ox_solo_safety.specs.World.{reopened}
use Rattle.ox_solo_safety.specs.declared.power.Power.{Power}
use Rattle.ox_solo_safety.specs.declared.power.Power.TheVariants.{Up, Down, Lost}

-- what a disk in memory shows
abbrev pub shows : MemoryDisk → Shown
shows d = shown d.log.items d.calls

-- how many blocks it has, whether it is up, and its replica: where it isn't up, what a start would make of its disks
pub record NodeState : Type 0 where
  pub blocks : ℕ
  pub power : Power
  pub state : ReplicaState ShardState

abbrev pub state_by : Power → ReplicaState ShardState → ReplicaState ShardState
state_by Up r = r
state_by Down r = reopened shard_meaning r.disk
state_by Lost r = reopened shard_meaning r.disk

-- the node of a replica of the program
abbrev pub node_of : ℕ → Power → Held ShardState MemoryDisk → NodeState
node_of blocks power r = record { blocks = blocks; power = power; state = state_by power (replica_of r) }

-- It is node 1, and its disks stand for its durable state. Where it is up its replica isn't closed.
pub record IsNode (blocks : ℕ) (power : Power) (r : Held ShardState MemoryDisk) : Type 0 where
  pub me : r.me ≡ 1
  pub blocks_are : r.blocks ≡ blocks
  pub kept : IsKept shows r
  pub up : power ≡ Up → r.fault ≡ None

-- the entries of a log from one offset up to another
abbrev pub between : DurableState → ℕ → ℕ → List Entry
between d from to = take (to - from) (entries_from d from)

-- it isn't up any more, and its disks stand for this state
abbrev pub gone : NodeState → Power → DurableState → NodeState
gone n power d = record n { power = power; state = reopened shard_meaning d }

-- the node behind a step that is cut inside this call: the step is whole where it makes fewer calls
abbrev pub behind_cut : NodeState → Stepped ShardState → ℕ → Bool → NodeState
behind_cut n step at stands =
    if nat_lt (calls_of step.kept) at then record n { state = step.state } else gone n Down (disk_behind n.state.disk step at stands)
