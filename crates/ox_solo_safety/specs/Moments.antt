-- The moments of a run by their place: the world before event k, counted from 0, and what that event showed.
use Rattle.std.specs.Prelude.{◌≡◌, ℕ, ◌+◌, ◌≤◌, List, [], ◌++◌, take, slice_get, Option, Some, None}
use Rattle.ox_types.specs.declared.log.Entry.{Entry}
use Rattle.ox_wire.specs.declared.message.Outcome.TheVariants as outcome
use Rattle.ox_machine.specs.Meaning.{Meaning}
use Rattle.ox_solo_replica.specs.declared.leading.Leading.{Leading}
use Rattle.ox_solo_replica.specs.State.{ReplicaState}
use Rattle.ox_wire.specs.declared.event.Request.{Request}
use Rattle.ox_wire.specs.Events.{RunTurn as Turn, RunEvent as Event}
use Rattle.ox_wire.specs.Effects.{Effect}
use Rattle.ox_wire.specs.declared.event.Turn.TheVariants as turn
use Rattle.ox_wire.specs.declared.event.Event.TheVariants as event
use Rattle.ox_wire.specs.Effects.{Effect as effect}
use Rattle.ox_solo_safety.specs.declared.power.Power.{Power}
use Rattle.ox_solo_safety.specs.declared.power.Power.TheVariants as power
use Rattle.ox_wire.specs.declared.origin.Cause.{Cause}
use Rattle.ox_solo_safety.specs.World.{World, opening_world}
use Rattle.ox_solo_safety.specs.Run.{happens, world_after}

-- the list has the element
abbrev pub Has : {X : Type 0} → List X → X → Type 0
Has xs x = (i : ℕ) × (slice_get xs i ≡ Some x)

-- the first list begins the second
abbrev pub Begins : List Entry → List Entry → Type 0
Begins xs ys = (rest : List Entry) × (ys ≡ xs ++ rest)

-- the turn that an actor takes in an event, cut or not
abbrev pub turn_of : Event → Option Turn
turn_of (event.Takes t) = Some t
turn_of (event.Cut call image t) = Some t
turn_of (event.Stop n) = None
turn_of (event.Start n) = None
turn_of (event.Lose n) = None
turn_of (event.Fence n s t) = None
turn_of (event.Lead n s t) = None

-- the history of a shard
abbrev pub history_of : {S : Type 0} → World S → ℕ → List Entry
history_of w ℕ.zero = w.history
history_of w (ℕ.suc shard) = []

-- the replica of a node and a shard
abbrev pub replica_of : {S : Type 0} → World S → ℕ → ℕ → Option (ReplicaState S)
replica_of w ℕ.zero shard = None
replica_of w (ℕ.suc ℕ.zero) ℕ.zero = Some w.replica
replica_of w (ℕ.suc ℕ.zero) (ℕ.suc shard) = None
replica_of w (ℕ.suc (ℕ.suc node)) shard = None

module _ {S C R Q A : Type 0} (M : Meaning S C R Q A) (blocks : ℕ) (es : List Event) where
  -- before event k; behind the last event it stays
  unfoldable pub world_at : ℕ → World S
  world_at k = world_after M blocks (opening_world M) (take k es)

  abbrev pub history_at : ℕ → ℕ → List Entry
  history_at k shard = history_of (world_at k) shard

  abbrev pub power_at : ℕ → Power
  power_at k = (world_at k).power

  -- a replica of a node that is up, or of one that is down: then it is what a start would make of its disks
  abbrev pub replica_at : ℕ → ℕ → ℕ → Option (ReplicaState S)
  replica_at k node shard = replica_of (world_at k) node shard

  -- at moment k the node is up and leads the shard in term t
  pub record Leads (k node shard t : ℕ) (r : ReplicaState S) (l : Leading) : Type 0 where
    pub up : power_at k ≡ power.Up
    pub there : replica_at k node shard ≡ Some r
    pub leads : r.live.leading ≡ Some l
    pub term_is : r.disk.term ≡ t

  -- event k has x as its effect number j
  pub record Shows (k j : ℕ) (x : Effect) : Type 0 where
    pub event : Event
    pub here : slice_get es k ≡ Some event
    pub seen : slice_get (happens M blocks (world_at k) event).effects j ≡ Some x

  -- in event k, which may be cut, the request comes to the shard as this arrival, counted from 1: the node is up
  pub record ComesAs (k arrival shard : ℕ) (request : Request) : Type 0 where
    pub event : Event
    pub here : slice_get es k ≡ Some event
    pub node : ℕ
    pub asks : turn_of event ≡ Some (turn.Client node shard request)
    pub up : power_at k ≡ power.Up
    pub number : arrival ≡ (world_at k).arrivals + 1

  -- it came before moment k
  pub record CameBefore (k arrival shard : ℕ) (request : Request) : Type 0 where
    pub event : ℕ
    pub before : event + 1 ≤ k
    pub comes : ComesAs event arrival shard request

  -- event k acknowledges the arrival at the shard
  pub record Acks (k j arrival shard term offset : ℕ) (reply : List ℕ) : Type 0 where
    pub shown : Shows k j (effect.Answered arrival (outcome.Ack term offset reply))
    pub request : Request
    pub came : CameBefore (k + 1) arrival shard request

  -- event k answers the arrival, which is a read, from a told prefix
  pub record Reads (k j arrival shard term prefix : ℕ) (answer : List ℕ) : Type 0 where
    pub shown : Shows k j (effect.Answered arrival (outcome.Read term prefix answer))
    pub request : Request
    pub came : CameBefore (k + 1) arrival shard request

  -- the world has kept where the entry of the shard comes from
  abbrev pub IsFrom : ℕ → ℕ → Entry → Cause → Type 0
  IsFrom k shard e x = Has (world_at k).origins (record { shard = shard; term = e.term; offset = e.offset; cause = x })
