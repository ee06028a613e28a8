-- What one event does to the world of a node that is alone.
use Rattle.std.proofs.Common.{◌≡◌, ◌∙◌, ℕ, zero, suc, ◌+◌, ◌-◌, ◌≤◌, Bool, true, false, cond, eqb, List, [], ◌∷◌, ◌++◌, length, map, slice_get, Option, Some, None, refl, sym, ap, arith, append_assoc, inl, inr}
use Rattle.std.specs.Prelude.{nat_lt}
use Rattle.std.proofs.lemmas.Bool.{cond_both}
use Rattle.ox_types.specs.declared.log.Head.{Head}
use Rattle.ox_types.specs.declared.durable.KeptAs.{KeptAs}
use Rattle.ox_types.specs.declared.peer.Peer.{Peer}
use Rattle.ox_types.specs.declared.peer.Peer.TheVariants as peer
use Rattle.ox_types.specs.Durable.{head_of}
use Rattle.ox_wire.specs.declared.body.Body.{Body}
use Rattle.ox_machine.specs.Meaning.{Meaning}
use Rattle.ox_solo_replica.specs.declared.input.Input.{Input}
use Rattle.ox_solo_replica.specs.declared.input.Input.TheVariants as input
use Rattle.ox_solo_replica.specs.declared.output.Outgoing.{Outgoing}
use Rattle.ox_solo_replica.specs.Cutting.{calls_of, stands_at}
use Rattle.ox_solo_replica.specs.Kept.{kept_as}
use Rattle.ox_solo_replica.specs.Step.{Stepped, replica_step}
use Rattle.ox_solo_safety.specs.declared.power.Power.{Power}
use Rattle.ox_solo_safety.specs.declared.power.Power.TheVariants as power
use Rattle.ox_wire.specs.declared.event.Request.{Request}
use Rattle.ox_wire.specs.Events.{RunTurn as Turn, RunEvent as Event, stands}
use Rattle.ox_wire.specs.Effects.{Effect}
use Rattle.ox_wire.specs.declared.event.Turn.TheVariants as turn
use Rattle.ox_wire.specs.declared.event.Event.TheVariants as event
use Rattle.ox_wire.specs.Effects.{Effect as effect}
use Rattle.ox_solo_safety.specs.World.{Message, World, reopened}
use Rattle.ox_wire.specs.Effects.{kept_effects}
use Rattle.ox_solo_safety.specs.Run.{Happened, Knife, whole_effects, sent_effects, messages_of, answer_effects, origins_of, cause_at, shown, if_up, message_at, sends, whole, takes_whole, down, cuts, under, comes, delivers_to, delivers, takes, stops, starts, loses, happens, IsTurn, IsOfOneNode}
use Rattle.ox_solo_safety.specs.Run.{Knife as knife}
use Rattle.ox_solo_safety.specs.Moments.{turn_of}
use Rattle.ox_solo_safety.proofs.ListLemmas.{get_either}

-- nobody is answered, and no node sends
abbrev pub IsNoNode : Peer → Type 0
IsNoNode (peer.Node n) = ⊥
IsNoNode (peer.Coordinator c) = Unit {0}

abbrev pub IsMute : Effect → Type 0
IsMute (effect.Answered a x) = ⊥
IsMute (effect.Sent k from to s b) = IsNoNode from
IsMute _ = Unit {0}

abbrev pub AreMute : List Effect → Type 0
AreMute [] = Unit {0}
AreMute (e ∷ es) = IsMute e × AreMute es

mute-append : (xs ys : List Effect) → AreMute xs → AreMute ys → AreMute (xs ++ ys)
mute-append [] ys h k = k
mute-append (x ∷ xs) ys h k = (h.0, mute-append xs ys h.1 k)

mute_kept : (acts : List KeptAs) (head : Head) → AreMute (kept_effects acts head)
mute_kept [] head = tt
mute_kept (a ∷ acts) head = (tt, tt)

mute_whole : (k : Knife) → AreMute (whole_effects k)
mute_whole knife.Free = tt
mute_whole (knife.At call image) = (tt, tt)

-- messages are all of the only shard
abbrev pub AreOfShard : List Message → Type 0
AreOfShard messages = (k : ℕ) (m : Message) → slice_get messages k ≡ Some m → m.shard ≡ 0

sent_of_shard : (os : List Outgoing) → AreOfShard (messages_of 0 os)
sent_of_shard [] k m h = absurd cc
sent_of_shard (o ∷ os) zero m h = let is : record { from = peer.Node 1; to = o.to; shard = 0; body = o.body } ≡ m = cc in sym (ap (λ (x : Message). x.shard) is)
sent_of_shard (o ∷ os) (suc k) m h = sent_of_shard os k m h

more_of_shard : (xs ys : List Message) → AreOfShard xs → AreOfShard ys → AreOfShard (xs ++ ys)
more_of_shard xs ys h g k m is = elim (get_either xs ys k m is) [ inl a ↦ h k m a | inr b ↦ g b.0 m b.2 ]

one_of_shard : (m : Message) → m.shard ≡ 0 → AreOfShard (m ∷ [])
one_of_shard m h zero n is = let same : m ≡ n = cc in sym (ap (λ (x : Message). x.shard) same) ∙ h
one_of_shard m h (suc k) n is = absurd cc

module _ {S C R Q A : Type 0} (M : Meaning S C R Q A) (blocks : ℕ) where
  -- the step on an input
  abbrev pub step_at : World S → Input → Stepped S
  step_at w i = replica_step M 1 blocks w.replica i

  -- The event gives the replica this input, and so many requests have come then.
  pub data Gives (w : World S) (e : Event) (i : Input) (n : ℕ) : Type 0 where
    request : (node : ℕ) → (q : Request) → turn_of e ≡ Some (turn.Client node 0 q) → i ≡ input.Client (w.arrivals + 1) q.write q.body → n ≡ w.arrivals + 1 → Gives w e i n
    message : (number : ℕ) → (m : Message) → turn_of e ≡ Some (turn.Deliver number) → message_at w.messages number ≡ Some m → i ≡ input.Peer m.from m.body → n ≡ w.arrivals → Gives w e i n
    tick : (node ms : ℕ) → turn_of e ≡ Some (turn.Tick node 0 ms) → i ≡ input.Tick ms → n ≡ w.arrivals → Gives w e i n

  -- the step is whole
  pub record IsWhole (w : World S) (e : Event) (h : Happened S) : Type 0 where
    pub input : Input
    pub count : ℕ
    pub gives : Gives w e input count
    pub up : w.power ≡ power.Up
    pub world : h.world ≡ whole M blocks (record w { arrivals = count }) 0 (cause_at w.replica input) (step_at w input)
    pub front : List Effect
    pub mute : AreMute front
    pub effects : h.effects ≡ front ++ (sent_effects (length w.messages + 1) 0 (step_at w input).sends ++ answer_effects (step_at w input).replies)

  -- the node goes down behind the batch
  pub record IsCutBehind (w : World S) (e : Event) (h : Happened S) : Type 0 where
    pub input : Input
    pub count : ℕ
    pub gives : Gives w e input count
    pub up : w.power ≡ power.Up
    pub world : h.world ≡ record (down M blocks (record w { arrivals = count }) (step_at w input).state.disk) { origins = w.origins ++ origins_of 0 (cause_at w.replica input) (step_at w input).kept }
    pub mute : AreMute h.effects

  -- the node goes down before the batch, or without a step
  pub record IsFall (w : World S) (h : Happened S) : Type 0 where
    pub replica : h.world.replica ≡ reopened M w.replica.disk
    pub messages : h.world.messages ≡ w.messages
    pub origins : h.world.origins ≡ w.origins
    pub history : h.world.history ≡ w.history
    pub arrivals : (w.arrivals ≤ h.world.arrivals) × (h.world.arrivals ≤ w.arrivals + 1)
    pub mute : AreMute h.effects

  -- the replica stays
  pub record IsIdle (w : World S) (h : Happened S) : Type 0 where
    pub replica : h.world.replica ≡ w.replica
    pub messages : AreOfShard w.messages → AreOfShard h.world.messages
    pub origins : h.world.origins ≡ w.origins
    pub history : h.world.history ≡ w.history
    pub arrivals : h.world.arrivals ≡ w.arrivals
    pub up : w.power ≡ power.Up → h.world.power ≡ power.Up
    pub mute : AreMute h.effects

  -- What an event does.
  pub data Happens (w : World S) (e : Event) (h : Happened S) : Type 0 where
    steps : IsWhole w e h → Happens w e h
    cut_behind : IsCutBehind w e h → Happens w e h
    falls : IsFall w h → Happens w e h
    idles : IsIdle w h → Happens w e h

  module _ (w : World S) (e : Event) where
    idle : (x : Effect) → IsMute x → Happens w e (shown w x)
    idle x mute = idles (record { replica = refl; messages = λ h. h; origins = refl; history = refl; arrivals = refl; up = λ h. h; mute = (mute, tt) })

    -- with what is seen before
    abbrev behind : List Effect → Happened S → Happened S
    behind before h = record { world = h.world; effects = before ++ h.effects }

    module _ (i : Input) (n : ℕ) (gives : Gives w e i n) (low : w.arrivals ≤ n) (high : n ≤ w.arrivals + 1) (up : w.power ≡ power.Up) (before : List Effect) (mute : AreMute before) where
      abbrev arrived : World S
      arrived = record w { arrivals = n }

      abbrev o : Stepped S
      o = step_at w i

      whole_is : (k : Knife) → Happens w e (behind before (takes_whole M blocks arrived 0 k (cause_at w.replica i) o))
      whole_is k =
          let kept : List Effect = kept_effects (map kept_as o.kept) (head_of o.state.disk) in
          let sent : List Effect = sent_effects (length w.messages + 1) 0 o.sends in
          let told : List Effect = answer_effects o.replies in
          steps (record {
            input = i;
            count = n;
            gives = gives;
            up = up;
            world = refl;
            front = before ++ (kept ++ whole_effects k);
            mute = mute-append before (kept ++ whole_effects k) mute (mute-append kept (whole_effects k) (mute_kept (map kept_as o.kept) (head_of o.state.disk)) (mute_whole k));
            effects = ap (λ t. before ++ t) (append_assoc (kept ++ whole_effects k) sent told) ∙ sym (append_assoc before (kept ++ whole_effects k) (sent ++ told));
          })

      cut_is : (test : Bool) → Happens w e (behind before (cuts M blocks arrived 0 (cause_at w.replica i) o test))
      cut_is true = cut_behind (record {
        input = i;
        count = n;
        gives = gives;
        up = up;
        world = refl;
        mute = mute-append before _ mute (mute-append (kept_effects (map kept_as o.kept) (head_of o.state.disk)) (effect.WasCut ∷ []) (mute_kept (map kept_as o.kept) (head_of o.state.disk)) (tt, tt));
      })
      cut_is false = falls (record { replica = refl; messages = refl; origins = refl; history = refl; arrivals = (low, high); mute = mute-append before (effect.WasCut ∷ []) mute (tt, tt) })

      under_is : (k : Knife) → Happens w e (behind before (under M blocks arrived 0 k (cause_at w.replica i) o))
      under_is knife.Free = whole_is knife.Free
      under_is (knife.At call image) =
          cond_both (nat_lt (calls_of o.kept) call) (takes_whole M blocks arrived 0 (knife.At call image) (cause_at w.replica i) o) (cuts M blocks arrived 0 (cause_at w.replica i) o (stands_at call (stands image))) (λ h. Happens w e (behind before h))
          (λ _. whole_is (knife.At call image)) (λ _. cut_is (stands_at call (stands image)))

    client_is : (node : ℕ) (q : Request) (k : Knife) → turn_of e ≡ Some (turn.Client node 0 q) → (p : Power) → w.power ≡ p → Happens w e (if_up w p (comes M blocks w 0 q k))
    client_is node q k is power.Up up =
        under_is (input.Client (w.arrivals + 1) q.write q.body) (w.arrivals + 1) (request node q is refl refl) (omega arith) (omega arith) up (effect.Arrival (w.arrivals + 1) ∷ []) (tt, tt) k
    client_is node q k is power.Down up = idle effect.Down tt
    client_is node q k is power.Lost up = idle effect.Down tt

    message_is : (number : ℕ) (m : Message) (k : Knife) → turn_of e ≡ Some (turn.Deliver number) → message_at w.messages number ≡ Some m → (p : Power) → w.power ≡ p
        → Happens w e (if_up w p (under M blocks w 0 k (cause_at w.replica (input.Peer m.from m.body)) (step_at w (input.Peer m.from m.body))))
    message_is number m k is there power.Up up = under_is (input.Peer m.from m.body) w.arrivals (message number m is there refl refl) (omega arith) (omega arith) up [] tt k
    message_is number m k is there power.Down up = idle effect.Down tt
    message_is number m k is there power.Lost up = idle effect.Down tt

    tick_is : (node ms : ℕ) (k : Knife) → turn_of e ≡ Some (turn.Tick node 0 ms) → (p : Power) → w.power ≡ p → Happens w e (if_up w p (under M blocks w 0 k (cause_at w.replica (input.Tick ms)) (step_at w (input.Tick ms))))
    tick_is node ms k is power.Up up = under_is (input.Tick ms) w.arrivals (tick node ms is refl refl) (omega arith) (omega arith) up [] tt k
    tick_is node ms k is power.Down up = idle effect.Down tt
    tick_is node ms k is power.Lost up = idle effect.Down tt

    delivers_to_is : (number : ℕ) (m : Message) (k : Knife) → turn_of e ≡ Some (turn.Deliver number) → message_at w.messages number ≡ Some m → m.shard ≡ 0 → (to : Peer) → Happens w e (delivers_to M blocks w k m.from to m.shard m.body)
    delivers_to_is number m k is there shard (peer.Coordinator c) = idle effect.Down tt
    delivers_to_is number m k is there shard (peer.Node n) = rw shard (message_is number m k is there w.power refl)

    message_of_shard : AreOfShard w.messages → (number : ℕ) (m : Message) → message_at w.messages number ≡ Some m → m.shard ≡ 0
    message_of_shard shards number m h = by_test (eqb number 0) h
      where
        by_test : (test : Bool) → cond test None (slice_get w.messages (number - 1)) ≡ Some m → m.shard ≡ 0
        by_test true g = absurd cc
        by_test false g = shards (number - 1) m g

    delivers_is : (number : ℕ) (k : Knife) → AreOfShard w.messages → turn_of e ≡ Some (turn.Deliver number) → (found : Option Message) → message_at w.messages number ≡ found → Happens w e (delivers M blocks w k found)
    delivers_is number k shards is None there = idle effect.Unknown tt
    delivers_is number k shards is (Some m) there = delivers_to_is number m k is there (message_of_shard shards number m there) m.to

    takes_is : (k : Knife) (t : Turn) → turn_of e ≡ Some t → IsTurn t → AreOfShard w.messages → Happens w e (takes M blocks w k t)
    takes_is k (turn.Client n s q) is one shards = (let shard = one.1 in let there = rw shard at is in rw shard (client_is n q k there w.power refl))
    takes_is k (turn.Deliver number) is one shards = delivers_is number k shards is (message_at w.messages number) refl
    takes_is k (turn.Tick n s ms) is one shards = (let shard = one.1 in let there = rw shard at is in rw shard (tick_is n ms k there w.power refl))

    stops_is : (p : Power) → Happens w e (stops M blocks w p)
    stops_is power.Up = falls (record { replica = refl; messages = refl; origins = refl; history = refl; arrivals = (omega arith, omega arith); mute = tt })
    stops_is power.Down = idle effect.Ignored tt
    stops_is power.Lost = idle effect.Ignored tt

    starts_is : (p : Power) → Happens w e (starts M blocks w p)
    starts_is power.Up = idle effect.Ignored tt
    starts_is power.Down = idles (record { replica = refl; messages = λ h. h; origins = refl; history = refl; arrivals = refl; up = λ h. refl; mute = (tt, tt) })
    starts_is power.Lost = idle effect.Ignored tt

    loses_is : (p : Power) → Happens w e (loses M blocks w p)
    loses_is power.Up = falls (record { replica = refl; messages = refl; origins = refl; history = refl; arrivals = (omega arith, omega arith); mute = tt })
    loses_is power.Down = falls (record { replica = refl; messages = refl; origins = refl; history = refl; arrivals = (omega arith, omega arith); mute = tt })
    loses_is power.Lost = idle effect.Ignored tt

    sends_is : (n s : ℕ) (b : Body) → s ≡ 0 → Happens w e (sends w n s b)
    sends_is n s b shard = idles (record {
      replica = refl;
      messages = λ h. more_of_shard w.messages _ h (one_of_shard (record { from = peer.Coordinator 0; to = peer.Node n; shard = s; body = b }) shard);
      origins = refl;
      history = refl;
      arrivals = refl;
      up = λ h. h;
      mute = (tt, tt);
    })

  -- what an event does
  pub happens_is : (w : World S) (e : Event) → IsOfOneNode e → AreOfShard w.messages → Happens w e (happens M blocks w e)
  unfolding happens
  happens_is w (event.Takes t) one shards = takes_is w (event.Takes t) knife.Free t refl one shards
  happens_is w (event.Cut call image t) one shards = takes_is w (event.Cut call image t) (knife.At call image) t refl one shards
  happens_is w (event.Stop n) one shards = stops_is w (event.Stop n) w.power
  happens_is w (event.Start n) one shards = starts_is w (event.Start n) w.power
  happens_is w (event.Lose n) one shards = loses_is w (event.Lose n) w.power
  happens_is w (event.Fence n s t) one shards = sends_is w (event.Fence n s t) n s _ one.1
  happens_is w (event.Lead n s t) one shards = sends_is w (event.Lead n s t) n s _ one.1

  -- messages stay of the only shard
  pub shards_next : (w : World S) (e : Event) (h : Happened S) → Happens w e h → AreOfShard w.messages → AreOfShard h.world.messages
  shards_next w e h (steps step) shards = rw step.world (more_of_shard w.messages _ shards (sent_of_shard (step_at w step.input).sends))
  shards_next w e h (cut_behind step) shards = rw step.world shards
  shards_next w e h (falls step) shards = rw step.messages shards
  shards_next w e h (idles step) shards = step.messages shards
