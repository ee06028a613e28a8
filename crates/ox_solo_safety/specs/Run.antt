-- One event of a run, and the run of a schedule.
use Rattle.std.specs.Prelude.{◌≡◌, ℕ, ◌+◌, ◌-◌, ◌==◌, nat_lt, Bool, true, false, List, [], ◌∷◌, ◌++◌, length, map, take, slice_get, Option, Some, None, if◌then◌else◌}
use Rattle.ox_types.specs.declared.log.Entry.{Entry}
use Rattle.ox_types.specs.declared.log.Head.{Head}
use Rattle.ox_types.specs.declared.durable.Action.{Action}
use Rattle.ox_types.specs.declared.durable.Action.TheVariants as action
use Rattle.ox_types.specs.declared.durable.KeptAs.{KeptAs}
use Rattle.ox_types.specs.declared.peer.Peer.{Peer}
use Rattle.ox_types.specs.declared.peer.Peer.TheVariants.{Node, Coordinator}
use Rattle.ox_types.specs.Durable.{DurableState, head_of}
use Rattle.ox_quorum.specs.declared.config.Config.TheVariants.{One}
use Rattle.ox_wire.specs.declared.body.Body.{Body}
use Rattle.ox_wire.specs.declared.body.Body.TheVariants.{NewTerm, BecomeLeader}
use Rattle.ox_machine.specs.Meaning.{Meaning}
use Rattle.ox_timer.specs.Timers.{due}
use Rattle.ox_solo_replica.specs.declared.input.Input.{Input}
use Rattle.ox_solo_replica.specs.declared.input.Input.TheVariants as input
use Rattle.ox_solo_replica.specs.declared.leading.Leading.{Leading}
use Rattle.ox_solo_replica.specs.declared.output.Outgoing.{Outgoing}
use Rattle.ox_solo_replica.specs.declared.output.Answered.{Answered}
use Rattle.ox_solo_replica.specs.Kept.{kept_as}
use Rattle.ox_solo_replica.specs.State.{ReplicaState}
use Rattle.ox_solo_replica.specs.Tick.{time_at}
use Rattle.ox_solo_replica.specs.Moving.{entries_from}
use Rattle.ox_solo_replica.specs.Step.{Stepped, replica_step}
use Rattle.ox_solo_replica.specs.Cutting.{calls_of, stands_at}
use Rattle.ox_wire.specs.declared.event.Request.{Request}
use Rattle.ox_wire.specs.declared.event.Image.{Image}
use Rattle.ox_wire.specs.Events.{RunTurn as Turn, RunEvent as Event, stands}
use Rattle.ox_wire.specs.Effects.{Effect, kept_effects}
use Rattle.ox_wire.specs.declared.event.Turn.TheVariants as turn
use Rattle.ox_wire.specs.declared.event.Event.TheVariants as event
use Rattle.ox_wire.specs.Effects.{Effect as effect}
use Rattle.ox_solo_safety.specs.declared.power.Power.{Power}
use Rattle.ox_solo_safety.specs.declared.power.Power.TheVariants as power
use Rattle.ox_wire.specs.declared.origin.Cause.{Cause}
use Rattle.ox_wire.specs.declared.origin.Cause.TheVariants as cause
use Rattle.ox_wire.specs.declared.origin.Origin.{Origin}
use Rattle.ox_solo_safety.specs.World.{Message, World, reopened, opening_world}

-- a world after an event, and what was seen
pub record Happened (S : Type 0) : Type 0 where
  pub world : World S
  pub effects : List Effect

-- an event, what was seen of it, and the world after it
pub record Moment (S : Type 0) : Type 0 where
  pub event : Event
  pub effects : List Effect
  pub after : World S

-- whether a step may be cut, and where
pub data Knife : Type 0 where
  Free : Knife
  At : (call : ℕ) → (image : Image) → Knife

-- ---- what is seen of a step

abbrev pub whole_effects : Knife → List Effect
whole_effects Free = []
whole_effects (At call image) = effect.Whole ∷ []

-- what node 1 sends at a shard, numbered from k on
abbrev pub sent_effects : ℕ → ℕ → List Outgoing → List Effect
sent_effects k s [] = []
sent_effects k s (o ∷ os) = effect.Sent k (Node 1) o.to s o.body ∷ sent_effects (k + 1) s os

abbrev pub messages_of : ℕ → List Outgoing → List Message
messages_of s os = map (λ (o : Outgoing). record { from = Node 1; to = o.to; shard = s; body = o.body }) os

abbrev pub answer_effects : List Answered → List Effect
answer_effects replies = map (λ (a : Answered). effect.Answered a.tag a.outcome) replies

-- ---- what is kept of a step

-- the entries that a batch appends
abbrev pub appended : List Action → List Entry
appended [] = []
appended (action.Append entries ∷ more) = entries ++ appended more
appended (action.Term t ∷ more) = appended more
appended (action.Attach count ∷ more) = appended more
appended (action.Lead ∷ more) = appended more
appended (action.Restore term seat head saved ∷ more) = appended more

abbrev pub origin_of : ℕ → Cause → Entry → Origin
origin_of s x e = record { shard = s; term = e.term; offset = e.offset; cause = x }

abbrev pub origins_of : ℕ → Cause → List Action → List Origin
origins_of s x acts = map (origin_of s x) (appended acts)

-- the timer that has run out at a leader, if one has, as a cause
abbrev pub expiry_cause : Option ℕ → Cause
expiry_cause None = cause.Opening
expiry_cause (Some id) = cause.Expiry id

abbrev pub tick_cause : {S : Type 0} → ReplicaState S → ℕ → Option Leading → Cause
tick_cause r ms None = cause.Opening
tick_cause r ms (Some l) = expiry_cause (due (time_at r.live ms).now l.timers)

-- where an entry comes from that a step on this input appends
abbrev pub cause_at : {S : Type 0} → ReplicaState S → Input → Cause
cause_at r (input.Peer from body) = cause.Opening
cause_at r (input.Client tag write body) = cause.Arrival tag
cause_at r (input.Tick ms) = tick_cause r ms r.live.leading

-- the history grows by what a leader has committed beyond it
abbrev pub grown_by : {S : Type 0} → List Entry → ReplicaState S → Option Leading → List Entry
grown_by h r None = h
grown_by h r (Some l) = h ++ take (r.live.commit - length h) (entries_from r.disk (length h))

abbrev pub grown : {S : Type 0} → List Entry → ReplicaState S → List Entry
grown h r = grown_by h r r.live.leading

-- ---- events

abbrev pub shown : {S : Type 0} → World S → Effect → Happened S
shown w e = record { world = w; effects = e ∷ [] }

abbrev pub silent : {S : Type 0} → World S → Happened S
silent w = record { world = w; effects = [] }

-- an actor that isn't up
abbrev pub if_up : {S : Type 0} → World S → Power → Happened S → Happened S
if_up w power.Up h = h
if_up w power.Down h = shown w effect.Down
if_up w power.Lost h = shown w effect.Down

-- the message with this number, counted from 1
abbrev pub message_at : List Message → ℕ → Option Message
message_at messages k = if k == 0 then None else slice_get messages (k - 1)

-- coordinator 0 sends, and nothing else happens
abbrev pub sends : {S : Type 0} → World S → ℕ → ℕ → Body → Happened S
sends w n s b = record {
  world = record w { messages = w.messages ++ record { from = Coordinator 0; to = Node n; shard = s; body = b } ∷ [] };
  effects = effect.Sent (length w.messages + 1) (Coordinator 0) (Node n) s b ∷ [];
}

-- the opening ensemble is node 1 alone, so no other node was fenced
abbrev pub lead_body : ℕ → Body
lead_body t = BecomeLeader t (One (1 ∷ [])) []

module _ {S C R Q A : Type 0} (M : Meaning S C R Q A) (blocks : ℕ) where
  -- ---- a step of the replica

  -- a step that is whole
  abbrev pub whole : World S → ℕ → Cause → Stepped S → World S
  whole w s x o = record {
    power = w.power;
    replica = o.state;
    messages = w.messages ++ messages_of s o.sends;
    arrivals = w.arrivals;
    origins = w.origins ++ origins_of s x o.kept;
    history = grown w.history o.state;
  }

  abbrev pub takes_whole : World S → ℕ → Knife → Cause → Stepped S → Happened S
  takes_whole w s k x o = record {
    world = whole w s x o;
    effects =
        kept_effects (map kept_as o.kept) (head_of o.state.disk) ++ whole_effects k ++ sent_effects (length w.messages + 1) s o.sends
        ++ answer_effects o.replies;
  }

  -- the node is down, and its disks stand for this state
  abbrev pub down : World S → DurableState → World S
  down w d = record w { power = power.Down; replica = reopened M d }

  -- the node goes down inside the step, with its batch or without
  abbrev pub cuts : World S → ℕ → Cause → Stepped S → Bool → Happened S
  cuts w s x o true = record {
    world = record (down w o.state.disk) { origins = w.origins ++ origins_of s x o.kept };
    effects = kept_effects (map kept_as o.kept) (head_of o.state.disk) ++ effect.WasCut ∷ [];
  }
  cuts w s x o false = record { world = down w w.replica.disk; effects = effect.WasCut ∷ [] }

  -- a step with fewer calls is whole
  abbrev pub under : World S → ℕ → Knife → Cause → Stepped S → Happened S
  under w s Free x o = takes_whole w s Free x o
  under w s (At call image) x o =
      if nat_lt (calls_of o.kept) call then takes_whole w s (At call image) x o else cuts w s x o (stands_at call (stands image))

  abbrev pub node_takes : World S → ℕ → Knife → Input → Happened S
  node_takes w s k i = under w s k (cause_at w.replica i) (replica_step M 1 blocks w.replica i)

  -- ---- what a step is made on

  abbrev pub after_effect : Effect → Happened S → Happened S
  after_effect e h = record { world = h.world; effects = e ∷ h.effects }

  abbrev pub arrives : World S → World S
  arrives w = record w { arrivals = w.arrivals + 1 }

  -- a request comes as the next arrival
  abbrev pub comes : World S → ℕ → Request → Knife → Happened S
  comes w s q k =
      after_effect (effect.Arrival (w.arrivals + 1)) (node_takes (arrives w) s k (input.Client (w.arrivals + 1) q.write q.body))

  abbrev pub delivers_to : World S → Knife → Peer → Peer → ℕ → Body → Happened S
  delivers_to w k from (Node n) s b = if_up w w.power (node_takes w s k (input.Peer from b))
  delivers_to w k from (Coordinator c) s b = shown w effect.Down

  abbrev pub delivers : World S → Knife → Option Message → Happened S
  delivers w k None = shown w effect.Unknown
  delivers w k (Some m) = delivers_to w k m.from m.to m.shard m.body

  abbrev pub takes : World S → Knife → Turn → Happened S
  takes w k (turn.Client n s q) = if_up w w.power (comes w s q k)
  takes w k (turn.Deliver number) = delivers w k (message_at w.messages number)
  takes w k (turn.Tick n s ms) = if_up w w.power (node_takes w s k (input.Tick ms))

  -- ---- stop, start and lose

  abbrev pub stops : World S → Power → Happened S
  stops w power.Up = silent (down w w.replica.disk)
  stops w power.Down = shown w effect.Ignored
  stops w power.Lost = shown w effect.Ignored

  abbrev pub starts : World S → Power → Happened S
  starts w power.Up = shown w effect.Ignored
  starts w power.Down = record {
    world = record w { power = power.Up };
    effects = effect.Opened 0 w.replica.disk.term w.replica.disk.seat (head_of w.replica.disk) ∷ [];
  }
  starts w power.Lost = shown w effect.Ignored

  abbrev pub lost : World S → World S
  lost w = record w { power = power.Lost; replica = reopened M w.replica.disk }

  abbrev pub loses : World S → Power → Happened S
  loses w power.Up = silent (lost w)
  loses w power.Down = silent (lost w)
  loses w power.Lost = shown w effect.Ignored

  -- the world after an event, and its effects
  unfoldable pub happens : World S → Event → Happened S
  happens w (event.Takes t) = takes w Free t
  happens w (event.Cut call image t) = takes w (At call image) t
  happens w (event.Stop n) = stops w w.power
  happens w (event.Start n) = starts w w.power
  happens w (event.Lose n) = loses w w.power
  happens w (event.Fence n s t) = sends w n s (NewTerm t)
  happens w (event.Lead n s t) = sends w n s (lead_body t)

  -- ---- runs

  -- the moments of a run from a world on
  abbrev pub run_from : World S → List Event → List (Moment S)
  run_from w [] = []
  run_from w (e ∷ es) = record { event = e; effects = (happens w e).effects; after = (happens w e).world } ∷ run_from (happens w e).world es

  -- the run of a schedule's events
  abbrev pub run_of : List Event → List (Moment S)
  run_of es = run_from (opening_world M) es

  -- the world behind events
  abbrev pub world_after : World S → List Event → World S
  world_after w [] = w
  world_after w (e ∷ es) = world_after (happens w e).world es

-- ---- the events of a schedule of one node

-- the only node and the only shard
abbrev pub IsThere : ℕ → ℕ → Type 0
IsThere n s = (n ≡ 1) × (s ≡ 0)

abbrev pub IsTurn : Turn → Type 0
IsTurn (turn.Client n s q) = IsThere n s
IsTurn (turn.Deliver number) = Unit {0}
IsTurn (turn.Tick n s ms) = IsThere n s

abbrev pub IsOfOneNode : Event → Type 0
IsOfOneNode (event.Takes t) = IsTurn t
IsOfOneNode (event.Cut call image t) = IsTurn t
IsOfOneNode (event.Stop n) = n ≡ 1
IsOfOneNode (event.Start n) = n ≡ 1
IsOfOneNode (event.Lose n) = n ≡ 1
IsOfOneNode (event.Fence n s t) = IsThere n s
IsOfOneNode (event.Lead n s t) = IsThere n s

-- each event names the only node and the only shard
abbrev pub AreOfOneNode : List Event → Type 0
AreOfOneNode es = (k : ℕ) (e : Event) → slice_get es k ≡ Some e → IsOfOneNode e
