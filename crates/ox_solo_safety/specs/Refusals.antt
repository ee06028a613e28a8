-- What holds of the replica at the step that refuses.
use Rattle.std.specs.Prelude.{◌≡◌, ℕ, ◌+◌, ◌<◌, ◌≤◌, Bool, true, false, List, length, Some, None, Err}
use Rattle.ox_types.specs.declared.bad.Bad.{Bad}
use Rattle.ox_types.specs.declared.bad.MachineFault.{MachineFault}
use Rattle.ox_types.specs.declared.refusal.Refusal.{Refusal}
use Rattle.ox_types.specs.declared.refusal.Refusal.TheVariants.{OldTerm, UnknownTerm, SeatTaken, NotLeader, Recovering, TooManyPending, LogSpent, LogFull, LeaderGone, BadRequest, NoSuchShard}
use Rattle.ox_types.specs.declared.peer.Peer.TheVariants.{Node}
use Rattle.ox_types.specs.Durable.{count_of}
use Rattle.ox_bytes.specs.LogForms.{entry_blocks}
use Rattle.ox_bytes.specs.Texts.{value_in}
use Rattle.ox_wire.specs.declared.body.Body.TheVariants as body
use Rattle.ox_wire.specs.declared.message.Outcome.TheVariants as outcome
use Rattle.ox_machine.specs.Meaning.{Meaning}
use Rattle.ox_solo_replica.specs.declared.leading.Leading.{Leading}
use Rattle.ox_solo_replica.specs.State.{ReplicaState, view_of, clock_limit}
use Rattle.ox_solo_replica.specs.Client.{fault_of, grammar, command_entry, room_of}
use Rattle.ox_wire.specs.declared.event.Request.{Request}
use Rattle.ox_wire.specs.Events.{RunTurn as Turn, RunEvent as Event}
use Rattle.ox_wire.specs.declared.event.Turn.TheVariants as turn
use Rattle.ox_wire.specs.declared.event.Event.TheVariants as event
use Rattle.ox_wire.specs.Effects.{Effect as effect}
use Rattle.ox_solo_safety.specs.World.{Message, World}
use Rattle.ox_solo_safety.specs.Run.{message_at}
use Rattle.ox_solo_safety.specs.Moments.{Has, world_at, Shows}

-- it leads, so that this holds
abbrev pub LeadsSo : {S : Type 0} → ReplicaState S → (Leading → Type 0) → Type 0
LeadsSo r P = (l : Leading) × (r.live.leading ≡ Some l) × P l

module _ {S C R Q A : Type 0} (M : Meaning S C R Q A) (blocks : ℕ) where
  -- a client is refused: the bytes aren't a query, or are at fault as a command
  abbrev pub IsBad : Request → Bad → Type 0
  IsBad q bad = if_write q.write
    where
      if_write : Bool → Type 0
      if_write true = fault_of M (value_in M.commands q.body) ≡ Some bad
      if_write false = (fault : MachineFault) × (value_in M.queries q.body ≡ Err fault) × (bad ≡ grammar)

  -- the refusal of a client's request is true of the replica
  abbrev pub ClientRefusal : ReplicaState S → Request → Refusal → Type 0
  ClientRefusal r q (NotLeader term hint) = (r.live.leading ≡ None) × (term ≡ r.disk.term) × (hint ≡ r.live.hint)
  ClientRefusal r q (Recovering term begin commit) = LeadsSo r (λ l. (term ≡ r.disk.term) × (begin ≡ l.begin) × (commit ≡ r.live.commit) × (commit < begin))
  ClientRefusal r q (TooManyPending limit) = LeadsSo r (λ l. (limit ≡ 1024) × (1024 ≤ length l.pending))
  ClientRefusal r q (LogSpent count) = (count ≡ count_of r.disk) × (count ≡ clock_limit)
  ClientRefusal r q (LogFull need free) = (need ≡ entry_blocks (command_entry (view_of blocks r) r.live q.body)) × (free ≡ room_of (view_of blocks r)) × (free < need)
  ClientRefusal r q (BadRequest bad) = IsBad q bad
  ClientRefusal r q (OldTerm asked has) = ⊥
  ClientRefusal r q (UnknownTerm asked has) = ⊥
  ClientRefusal r q (SeatTaken term seat) = ⊥
  ClientRefusal r q (LeaderGone term by) = ⊥
  ClientRefusal r q (NoSuchShard asked shards) = ⊥

  -- the refusal of what a coordinator asked in a term is true of the replica
  abbrev pub PeerRefusal : ReplicaState S → ℕ → Refusal → Type 0
  PeerRefusal r t (OldTerm asked has) = (asked ≡ t) × (has ≡ r.disk.term) × (asked < has)
  PeerRefusal r t (UnknownTerm asked has) = (asked ≡ t) × (has ≡ r.disk.term) × (has < asked)
  PeerRefusal r t (SeatTaken term seat) = (term ≡ r.disk.term) × (seat ≡ r.disk.seat)
  PeerRefusal r t (LogSpent count) = (count ≡ count_of r.disk) × (count ≡ clock_limit)
  PeerRefusal r t (LogFull need free) = (need ≡ 1) × (free ≡ (view_of blocks r).free) × (free < need)
  PeerRefusal r t (NotLeader term hint) = ⊥
  PeerRefusal r t (Recovering term begin commit) = ⊥
  PeerRefusal r t (TooManyPending limit) = ⊥
  PeerRefusal r t (LeaderGone term by) = ⊥
  PeerRefusal r t (BadRequest bad) = ⊥
  PeerRefusal r t (NoSuchShard asked shards) = ⊥

  -- the write of the arrival was pending at the replica, whose term ended
  abbrev pub IsGone : ReplicaState S → ℕ → ℕ → ℕ → Type 0
  IsGone r arrival term by =
      LeadsSo r (λ l. (offset : ℕ) × Has l.pending (record { tag = arrival; offset = offset })) × (term ≡ r.disk.term) × (term < by)

  -- the message that is delivered begins a term, and the write was pending
  pub record EndsTerm (w : World S) (number arrival term by : ℕ) : Type 0 where
    pub message : Message
    pub sent : message_at w.messages number ≡ Some message
    pub to_is : message.to ≡ Node 1
    pub begins : message.body ≡ body.NewTerm by
    pub gone : IsGone w.replica arrival term by

  abbrev pub GoneTruly : World S → ℕ → ℕ → Refusal → Type 0
  GoneTruly w number arrival (LeaderGone term by) = EndsTerm w number arrival term by
  GoneTruly w number arrival (NotLeader term hint) = ⊥
  GoneTruly w number arrival (Recovering term begin commit) = ⊥
  GoneTruly w number arrival (TooManyPending limit) = ⊥
  GoneTruly w number arrival (LogSpent count) = ⊥
  GoneTruly w number arrival (LogFull need free) = ⊥
  GoneTruly w number arrival (BadRequest bad) = ⊥
  GoneTruly w number arrival (OldTerm asked has) = ⊥
  GoneTruly w number arrival (UnknownTerm asked has) = ⊥
  GoneTruly w number arrival (SeatTaken term seat) = ⊥
  GoneTruly w number arrival (NoSuchShard asked shards) = ⊥

  -- what a turn answers an arrival by a refusal is true
  abbrev pub TurnTruly : World S → ℕ → Refusal → Turn → Type 0
  TurnTruly w arrival x (turn.Client n s q) = (arrival ≡ w.arrivals + 1) × ClientRefusal w.replica q x
  TurnTruly w arrival x (turn.Deliver number) = GoneTruly w number arrival x
  TurnTruly w arrival x (turn.Tick n s ms) = ⊥

  abbrev pub AnswersTruly : World S → ℕ → Refusal → Event → Type 0
  AnswersTruly w arrival x (event.Takes t) = TurnTruly w arrival x t
  AnswersTruly w arrival x (event.Cut call image t) = TurnTruly w arrival x t
  AnswersTruly w arrival x (event.Stop n) = ⊥
  AnswersTruly w arrival x (event.Start n) = ⊥
  AnswersTruly w arrival x (event.Lose n) = ⊥
  AnswersTruly w arrival x (event.Fence n s t) = ⊥
  AnswersTruly w arrival x (event.Lead n s t) = ⊥

  -- each refusal, in an answer or in a message, is true of the replica before the event
  pub record RefusalsAreTrue (es : List Event) : Type 0 where
    pub answered : (k j a : ℕ) (x : Refusal) (h : Shows M blocks es k j (effect.Answered a (outcome.Refused x))) → AnswersTruly (world_at M blocks es k) a x h.event
    pub sent :
        (k j number n s t : ℕ) (to : _) (asked : _) (x : Refusal) → Shows M blocks es k j (effect.Sent number (Node n) to s (body.Refused asked t x)) →
        (n ≡ 1) × PeerRefusal (world_at M blocks es k).replica t x
