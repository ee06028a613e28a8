-- What an answer says of the world before its event.
use Rattle.std.proofs.Common.{◌≡◌, ◌∙◌, ℕ, zero, suc, ◌+◌, Bool, true, false, List, [], ◌∷◌, ◌++◌, length, slice_get, Option, Some, None, inl, inr, refl, sym, ap, subst, arith, length-append}
use Rattle.ox_types.specs.declared.peer.Peer.{Peer}
use Rattle.ox_types.specs.declared.peer.Peer.TheVariants as peer
use Rattle.ox_types.specs.declared.refusal.Refusal.{Refusal}
use Rattle.ox_wire.specs.declared.body.Body.{Body}
use Rattle.ox_wire.specs.declared.body.Body.TheVariants as body
use Rattle.ox_wire.specs.declared.body.Asked.{Asked}
use Rattle.ox_wire.specs.declared.message.Outcome.{Outcome}
use Rattle.ox_wire.specs.declared.message.Outcome.TheVariants as outcome
use Rattle.ox_machine.specs.Meaning.{Meaning}
use Rattle.ox_machine.specs.Store.{reply_to}
use Rattle.ox_solo_replica.specs.declared.input.Input.{Input}
use Rattle.ox_solo_replica.specs.declared.input.Input.TheVariants as input
use Rattle.ox_solo_replica.specs.declared.output.Outgoing.{Outgoing}
use Rattle.ox_solo_replica.specs.declared.output.Answered.{Answered}
use Rattle.ox_solo_replica.specs.Advance.{ack_of}
use Rattle.ox_solo_replica.specs.State.{ReplicaState}
use Rattle.ox_solo_replica.specs.Step.{Stepped}
use Rattle.ox_solo_safety.specs.declared.power.Power.TheVariants as power
use Rattle.ox_wire.specs.declared.event.Request.{Request}
use Rattle.ox_wire.specs.Events.{RunEvent as Event}
use Rattle.ox_wire.specs.Effects.{Effect}
use Rattle.ox_wire.specs.declared.event.Turn.TheVariants as turn
use Rattle.ox_wire.specs.Effects.{Effect as effect}
use Rattle.ox_solo_safety.specs.World.{World}
use Rattle.ox_solo_safety.specs.Run.{Happened, sent_effects, answer_effects}
use Rattle.ox_solo_safety.specs.Moments.{turn_of}
use Rattle.ox_solo_safety.specs.Refusals.{ClientRefusal, PeerRefusal}
use Rattle.ox_solo_safety.proofs.ListLemmas.{get_either}
use Rattle.ox_solo_safety.proofs.StepLemmas.{IsLone, IsWriting, IsReading, AreTrue, IsTrueBody, Steps, step_is}
use Rattle.ox_solo_safety.proofs.StepLemmas.Tells.{nobody, client}
use Rattle.ox_solo_safety.proofs.StepLemmas.Steps.{rests, reads, writes, expiring, fencing, beginning}
use Rattle.ox_solo_safety.proofs.EventLemmas.{IsMute, AreMute, step_at, Gives, IsWhole, Happens}
use Rattle.ox_solo_safety.proofs.EventLemmas.Gives.{request, message, tick}
use Rattle.ox_solo_safety.proofs.EventLemmas.Happens.{steps, cut_behind, falls, idles}

-- ---- effects by their place

pub mute_get : (es : List Effect) (j : ℕ) (x : Effect) → AreMute es → slice_get es j ≡ Some x → IsMute x
mute_get [] j x h is = absurd cc
mute_get (e ∷ es) zero x h is = let same : e ≡ x = cc in subst IsMute same h.0
mute_get (e ∷ es) (suc j) x h is = mute_get es j x h.1 is

no_answer : (k : ℕ) (os : List Outgoing) (j a : ℕ) (x : Outcome) → slice_get (sent_effects k 0 os) j ≡ Some (effect.Answered a x) → ⊥
no_answer k [] j a x is = absurd cc
no_answer k (o ∷ os) zero a x is = absurd cc
no_answer k (o ∷ os) (suc j) a x is = no_answer (k + 1) os j a x is

reply_get : (replies : List Answered) (j a : ℕ) (x : Outcome) → slice_get (answer_effects replies) j ≡ Some (effect.Answered a x) → slice_get replies j ≡ Some (record { tag = a; outcome = x })
reply_get [] j a x is = absurd cc
reply_get (r ∷ replies) zero a x is =
    let same : effect.Answered r.tag r.outcome ≡ effect.Answered a x = cc in
    let parts = parts_are r.tag a r.outcome x same in
    ap (λ (t : ℕ). Some (record { tag = t; outcome = r.outcome })) parts.0 ∙ ap (λ (o : Outcome). Some (record { tag = a; outcome = o })) parts.1
  where
    parts_are : (t a : ℕ) (o x : Outcome) → effect.Answered t o ≡ effect.Answered a x → (t ≡ a) × (o ≡ x)
    parts_are t a o x e = (cc, cc)
reply_get (r ∷ replies) (suc j) a x is = reply_get replies j a x is

length_told : (replies : List Answered) → length (answer_effects replies) ≡ length replies
length_told [] = refl
length_told (r ∷ replies) = ap suc (length_told replies)

no_sent : (replies : List Answered) (j k s : ℕ) (from to : Peer) (b : Body) → slice_get (answer_effects replies) j ≡ Some (effect.Sent k from to s b) → ⊥
no_sent [] j k s from to b is = absurd cc
no_sent (r ∷ replies) zero k s from to b is = absurd cc
no_sent (r ∷ replies) (suc j) k s from to b is = no_sent replies j k s from to b is

-- a message that is shown was sent, by node 1
record IsSent (sends : List Outgoing) (from to : Peer) (b : Body) : Type 0 where
  from_is : peer.Node 1 ≡ from
  place : ℕ
  there : slice_get sends place ≡ Some (record { to = to; body = b })

sent_get : (first : ℕ) (sends : List Outgoing) (j k s : ℕ) (from to : Peer) (b : Body) → slice_get (sent_effects first 0 sends) j ≡ Some (effect.Sent k from to s b) → IsSent sends from to b
sent_get first [] j k s from to b is = absurd cc
sent_get first (o ∷ sends) zero k s from to b is =
    let same : effect.Sent first (peer.Node 1) o.to 0 o.body ≡ effect.Sent k from to s b = cc in
    let parts = parts_are first k 0 s (peer.Node 1) from o.to to o.body b same in
    record {
      from_is = parts.0;
      place = 0;
      there = ap (λ (t : Peer). Some (record { to = t; body = o.body })) parts.1 ∙ ap (λ (c : Body). Some (record { to = to; body = c })) parts.2;
    }
  where
    parts_are : (k l s z : ℕ) (f g t u : Peer) (b c : Body) → effect.Sent k f t s b ≡ effect.Sent l g u z c → (f ≡ g) × (t ≡ u) × (b ≡ c)
    parts_are k l s z f g t u b c e = (cc, cc, cc)
sent_get first (o ∷ sends) (suc j) k s from to b is =
    let more = sent_get (first + 1) sends j k s from to b is in
    record { from_is = more.from_is; place = suc more.place; there = more.there }

pub only_reply : (one x : Answered) (replies : List Answered) (j : ℕ) → replies ≡ one ∷ [] → slice_get replies j ≡ Some x → (j ≡ 0) × (one ≡ x)
only_reply one x replies j is h = at_place j (rw is at h)
  where
    at_place : (j : ℕ) → slice_get (one ∷ []) j ≡ Some x → (j ≡ 0) × (one ≡ x)
    at_place zero g = (refl, cc)
    at_place (suc j) g = absurd cc

pub no_reply : (x : Answered) (replies : List Answered) (j : ℕ) → replies ≡ [] → slice_get replies j ≡ Some x → ⊥
no_reply x replies j is h = let there = rw is at h in cc there

abbrev pub reply_with : ℕ → Outcome → Answered
reply_with t o = record { tag = t; outcome = o }

pub reply_parts : (t a : ℕ) (o x : Outcome) → reply_with t o ≡ reply_with a x → (t ≡ a) × (o ≡ x)
reply_parts t a o x e = (ap (λ (r : Answered). r.tag) e, ap (λ (r : Answered). r.outcome) e)

module _ {S C R Q A : Type 0} (M : Meaning S C R Q A) (blocks : ℕ) where
  -- ---- the answers of a step

  -- an acknowledgement, and the reply of the machine
  record IsAcked (r : ReplicaState S) (i : Input) (o : Stepped S) : Type 0 where
    step : IsWriting M r i o
    reply : R
    is : reply_to M r.live.machine step.entry ≡ Some reply
    replies : o.replies ≡ record { tag = step.tag; outcome = outcome.Ack r.disk.term step.entry.offset (M.replies.text reply) } ∷ []

  record IsRefused (r : ReplicaState S) (i : Input) (o : Stepped S) : Type 0 where
    tag : ℕ
    write : Bool
    bytes : List ℕ
    refusal : Refusal
    is : i ≡ input.Client tag write bytes
    truly : ClientRefusal M blocks r (record { write = write; body = bytes }) refusal
    replies : o.replies ≡ record { tag = tag; outcome = outcome.Refused refusal } ∷ []

  -- at most one client is told, by one of these
  data Told (r : ReplicaState S) (i : Input) (o : Stepped S) : Type 0 where
    none : o.replies ≡ [] → Told r i o
    acked : IsAcked r i o → Told r i o
    read : IsReading M r i o → Told r i o
    refused : IsRefused r i o → Told r i o

  told_is : (r : ReplicaState S) (i : Input) (o : Stepped S) → Steps M blocks r i o → Told r i o
  told_is r i o (rests still sends (nobody is)) = none is
  told_is r i o (rests still sends (client tag write bytes x is truly replies)) = refused (record { tag = tag; write = write; bytes = bytes; refusal = x; is = is; truly = truly; replies = replies })
  told_is r i o (reads step) = read step
  told_is r i o (writes step) = by_reply (reply_to M r.live.machine step.entry) refl
    where
      by_reply : (x : Option R) → reply_to M r.live.machine step.entry ≡ x → Told r i o
      by_reply None is = none (step.replies ∙ ap (ack_of M r.disk.term step.entry.offset (Some step.tag)) is)
      by_reply (Some reply) is = acked (record { step = step; reply = reply; is = is; replies = step.replies ∙ ap (ack_of M r.disk.term step.entry.offset (Some step.tag)) is })
  told_is r i o (expiring step) = none step.replies
  told_is r i o (fencing step) = none step.replies
  told_is r i o (beginning step) = none step.replies

  all_true : (r : ReplicaState S) (sends : List Outgoing) → sends ≡ [] → AreTrue M blocks r sends
  all_true r sends is = rw is tt

  sends_true : (r : ReplicaState S) (i : Input) (o : Stepped S) → Steps M blocks r i o → AreTrue M blocks r o.sends
  sends_true r i o (rests still sends tells) = sends
  sends_true r i o (reads step) = all_true r o.sends step.sends
  sends_true r i o (writes step) = all_true r o.sends step.appends.sends
  sends_true r i o (expiring step) = all_true r o.sends step.appends.sends
  sends_true r i o (fencing step) = step.sends
  sends_true r i o (beginning step) = step.sends

  true_get : (r : ReplicaState S) (sends : List Outgoing) (j : ℕ) (to : Peer) (b : Body) → AreTrue M blocks r sends → slice_get sends j ≡ Some (record { to = to; body = b }) → IsTrueBody M blocks r b
  true_get r [] j to b h is = absurd cc
  true_get r (o ∷ sends) zero to b h is =
      let same : o ≡ record { to = to; body = b } = cc in
      subst (IsTrueBody M blocks r) (ap (λ (x : Outgoing). x.body) same) h.0
  true_get r (o ∷ sends) (suc j) to b h is = true_get r sends j to b h.1 is

  -- ---- the answers of an event

  module _ (w : World S) (e : Event) (h : Happened S) where
    -- the place of an answer among those of a whole step
    pub record IsReply (step : IsWhole M blocks w e h) (j a : ℕ) (x : Outcome) : Type 0 where
      pub place : ℕ
      pub reply : slice_get (step_at M blocks w step.input).replies place ≡ Some (reply_with a x)
      pub last : j + length (step_at M blocks w step.input).replies ≡ length h.effects + place

    pub reply_is : (step : IsWhole M blocks w e h) (j a : ℕ) (x : Outcome) → slice_get h.effects j ≡ Some (effect.Answered a x) → IsReply step j a x
    reply_is step j a x is =
        let o : Stepped S = step_at M blocks w step.input in
        let sent : List Effect = sent_effects (length w.messages + 1) 0 o.sends in
        let told : List Effect = answer_effects o.replies in
        let there : slice_get (step.front ++ (sent ++ told)) j ≡ Some (effect.Answered a x) = (let effects = step.effects in rw effects at is) in
        elim (get_either step.front (sent ++ told) j (effect.Answered a x) there) [
          | inl p ↦ absurd (mute_get step.front j (effect.Answered a x) step.mute p)
          | inr p ↦ elim (get_either sent told p.0 (effect.Answered a x) p.2) [
            | inl q ↦ absurd (no_answer (length w.messages + 1) o.sends p.0 a x q)
            | inr q ↦ record {
              place = q.0;
              reply = reply_get o.replies q.0 a x q.2;
              last = omega (arith, p.1, q.1, ap length step.effects, length-append step.front (sent ++ told), length-append sent told, length_told o.replies);
            }
          ]
        ]

    -- the event answers the arrival: its step is whole
    pub record IsAnswered (j a : ℕ) (x : Outcome) : Type 0 where
      pub step : IsWhole M blocks w e h
      pub told : IsReply step j a x

    pub answered_is : (j a : ℕ) (x : Outcome) → Happens M blocks w e h → slice_get h.effects j ≡ Some (effect.Answered a x) → IsAnswered j a x
    answered_is j a x (cut_behind step) is = absurd (mute_get h.effects j (effect.Answered a x) step.mute is)
    answered_is j a x (falls step) is = absurd (mute_get h.effects j (effect.Answered a x) step.mute is)
    answered_is j a x (idles step) is = absurd (mute_get h.effects j (effect.Answered a x) step.mute is)
    answered_is j a x (steps step) is = record { step = step; told = reply_is step j a x is }

    -- a node sends: it is node 1, and what it says is true of the replica
    pub sent_is : (lone : IsLone M w.replica) (j k n s : ℕ) (to : Peer) (asked : Asked) (t : ℕ) (x : Refusal) → Happens M blocks w e h → slice_get h.effects j ≡ Some (effect.Sent k (peer.Node n) to s (body.Refused asked t x))
        → (n ≡ 1) × PeerRefusal M blocks w.replica t x
    sent_is lone j k n s to asked t x (cut_behind step) is = absurd (mute_get h.effects j _ step.mute is)
    sent_is lone j k n s to asked t x (falls step) is = absurd (mute_get h.effects j _ step.mute is)
    sent_is lone j k n s to asked t x (idles step) is = absurd (mute_get h.effects j _ step.mute is)
    sent_is lone j k n s to asked t x (steps step) is =
        let o : Stepped S = step_at M blocks w step.input in
        let b : Body = body.Refused asked t x in
        let sent : List Effect = sent_effects (length w.messages + 1) 0 o.sends in
        let told : List Effect = answer_effects o.replies in
        let there : slice_get (step.front ++ (sent ++ told)) j ≡ Some (effect.Sent k (peer.Node n) to s b) = (let effects = step.effects in rw effects at is) in
        elim (get_either step.front (sent ++ told) j (effect.Sent k (peer.Node n) to s b) there) [
          | inl p ↦ absurd (mute_get step.front j (effect.Sent k (peer.Node n) to s b) step.mute p)
          | inr p ↦ elim (get_either sent told p.0 (effect.Sent k (peer.Node n) to s b) p.2) [
            | inl q ↦
                let one = sent_get (length w.messages + 1) o.sends p.0 k s (peer.Node n) to b q in
                (node_is n one.from_is, true_get w.replica o.sends one.place to b (sends_true w.replica step.input o (step_is M blocks w.replica lone step.input)) one.there)
            | inr q ↦ absurd (no_sent o.replies q.0 k s (peer.Node n) to b q.2)
          ]
        ]
      where
        node_is : (n : ℕ) → peer.Node 1 ≡ peer.Node n → n ≡ 1
        node_is n e = cc

    -- ---- what the answers say

    client_is : (tag tag' : ℕ) (write write' : Bool) (bytes bytes' : List ℕ) → input.Client tag write bytes ≡ input.Client tag' write' bytes' → (tag ≡ tag') × (write ≡ write') × (bytes ≡ bytes')
    client_is tag tag' write write' bytes bytes' e = (cc, cc, cc)

    -- the request that a client's input was made of
    pub record IsAsked (i : Input) (n tag : ℕ) (write : Bool) (bytes : List ℕ) : Type 0 where
      pub node : ℕ
      pub asks : turn_of e ≡ Some (turn.Client node 0 (record { write = write; body = bytes }))
      pub tag_is : tag ≡ w.arrivals + 1
      pub count_is : n ≡ w.arrivals + 1

    pub asked_is : (i : Input) (n tag : ℕ) (write : Bool) (bytes : List ℕ) → Gives M blocks w e i n → i ≡ input.Client tag write bytes → IsAsked i n tag write bytes
    asked_is i n tag write bytes (request node q is i_is n_is) client_input =
        let parts = client_is (w.arrivals + 1) tag q.write write q.body bytes (sym i_is ∙ client_input) in
        record {
          node = node;
          asks = is ∙ ap (λ b. Some (turn.Client node 0 (record { write = b; body = q.body }))) parts.1 ∙ ap (λ b. Some (turn.Client node 0 (record { write = write; body = b }))) parts.2;
          tag_is = sym parts.0;
          count_is = n_is;
        }
    asked_is i n tag write bytes (message number m is there i_is n_is) client_input = absurd (differ m.from m.body (sym i_is ∙ client_input))
      where
        differ : (from : Peer) (b : Body) → input.Peer from b ≡ input.Client tag write bytes → ⊥
        differ from b e = cc
    asked_is i n tag write bytes (tick node ms is i_is n_is) client_input = absurd (differ ms (sym i_is ∙ client_input))
      where
        differ : (ms : ℕ) → input.Tick ms ≡ input.Client tag write bytes → ⊥
        differ ms e = cc

    -- an acknowledgement is that of a write
    pub record AckIs (j a t offset : ℕ) (reply : List ℕ) : Type 0 where
      pub step : IsWhole M blocks w e h
      pub write : IsWriting M w.replica step.input (step_at M blocks w step.input)
      pub asked : IsAsked step.input step.count write.tag true write.bytes
      pub arrival : a ≡ write.tag
      pub term : t ≡ w.replica.disk.term
      pub offset_is : offset ≡ write.entry.offset
      pub value : R
      pub reply_is : reply_to M w.replica.live.machine write.entry ≡ Some value
      pub text : reply ≡ M.replies.text value
      pub last : j + 1 ≡ length h.effects

    ack_parts : (t o t' o' : ℕ) (r r' : List ℕ) → outcome.Ack t o r ≡ outcome.Ack t' o' r' → (t ≡ t') × (o ≡ o') × (r ≡ r')
    ack_parts t o t' o' r r' e = (cc, cc, cc)

    module _ (lone : IsLone M w.replica) (happens : Happens M blocks w e h) where
      told_at : (i : Input) → Told w.replica i (step_at M blocks w i)
      told_at i = told_is w.replica i (step_at M blocks w i) (step_is M blocks w.replica lone i)

      pub ack_is : (j a t offset : ℕ) (reply : List ℕ) → slice_get h.effects j ≡ Some (effect.Answered a (outcome.Ack t offset reply)) → AckIs j a t offset reply
      ack_is j a t offset reply seen = by_told (told_at answer.step.input)
        where
          answer : IsAnswered j a (outcome.Ack t offset reply)
          answer = answered_is j a (outcome.Ack t offset reply) happens seen

          by_told : Told w.replica answer.step.input (step_at M blocks w answer.step.input) → AckIs j a t offset reply
          by_told (none is) = absurd (no_reply _ _ answer.told.place is answer.told.reply)
          by_told (read step) =
              let parts = only_reply _ _ _ answer.told.place step.replies answer.told.reply in
              let differs = (reply_parts _ _ _ _ parts.1).1 in
              absurd (differ _ _ _ differs)
            where
              differ : (t' p : ℕ) (text : List ℕ) → outcome.Read t' p text ≡ outcome.Ack t offset reply → ⊥
              differ t' p text e = cc
          by_told (refused step) =
              let parts = only_reply _ _ _ answer.told.place step.replies answer.told.reply in
              let differs = (reply_parts _ _ _ _ parts.1).1 in
              absurd (differ _ differs)
            where
              differ : (x : Refusal) → outcome.Refused x ≡ outcome.Ack t offset reply → ⊥
              differ x e = cc
          by_told (acked ack) =
              let parts = only_reply _ _ _ answer.told.place ack.replies answer.told.reply in
              let both = reply_parts _ _ _ _ parts.1 in
              let three = ack_parts _ _ _ _ _ _ both.1 in
              record {
                step = answer.step;
                write = ack.step;
                asked = asked_is answer.step.input answer.step.count ack.step.tag true ack.step.bytes answer.step.gives ack.step.is;
                arrival = sym both.0;
                term = sym three.0;
                offset_is = sym three.1;
                value = ack.reply;
                reply_is = ack.is;
                text = sym three.2;
                last = omega (arith, answer.told.last, parts.0, ap length ack.replies);
              }

    -- an answer to a read is that of a query
    pub record ReadIs (j a t prefix : ℕ) (told : List ℕ) : Type 0 where
      pub step : IsWhole M blocks w e h
      pub query : IsReading M w.replica step.input (step_at M blocks w step.input)
      pub asked : IsAsked step.input step.count query.tag false query.bytes
      pub arrival : a ≡ query.tag
      pub term : t ≡ w.replica.disk.term
      pub prefix_is : prefix ≡ w.replica.live.commit
      pub text : told ≡ M.answers.text (M.answer w.replica.live.machine query.query)

    read_parts : (t o t' o' : ℕ) (r r' : List ℕ) → outcome.Read t o r ≡ outcome.Read t' o' r' → (t ≡ t') × (o ≡ o') × (r ≡ r')
    read_parts t o t' o' r r' e = (cc, cc, cc)

    module _ (lone : IsLone M w.replica) (happens : Happens M blocks w e h) where
      pub read_is : (j a t prefix : ℕ) (told : List ℕ) → slice_get h.effects j ≡ Some (effect.Answered a (outcome.Read t prefix told)) → ReadIs j a t prefix told
      read_is j a t prefix told seen = by_told (told_at lone happens answer.step.input)
        where
          answer : IsAnswered j a (outcome.Read t prefix told)
          answer = answered_is j a (outcome.Read t prefix told) happens seen

          by_told : Told w.replica answer.step.input (step_at M blocks w answer.step.input) → ReadIs j a t prefix told
          by_told (none is) = absurd (no_reply _ _ answer.told.place is answer.told.reply)
          by_told (acked step) =
              let parts = only_reply _ _ _ answer.told.place step.replies answer.told.reply in
              let differs = (reply_parts _ _ _ _ parts.1).1 in
              absurd (differ _ _ _ differs)
            where
              differ : (t' p : ℕ) (text : List ℕ) → outcome.Ack t' p text ≡ outcome.Read t prefix told → ⊥
              differ t' p text e = cc
          by_told (refused step) =
              let parts = only_reply _ _ _ answer.told.place step.replies answer.told.reply in
              let differs = (reply_parts _ _ _ _ parts.1).1 in
              absurd (differ _ differs)
            where
              differ : (x : Refusal) → outcome.Refused x ≡ outcome.Read t prefix told → ⊥
              differ x e = cc
          by_told (read step) =
              let parts = only_reply _ _ _ answer.told.place step.replies answer.told.reply in
              let both = reply_parts _ _ _ _ parts.1 in
              let three = read_parts _ _ _ _ _ _ both.1 in
              record {
                step = answer.step;
                query = step;
                asked = asked_is answer.step.input answer.step.count step.tag false step.bytes answer.step.gives step.is;
                arrival = sym both.0;
                term = sym three.0;
                prefix_is = sym three.1;
                text = sym three.2;
              }

    -- a refusal of an arrival is that of a client's request, and true
    pub record RefusalIs (a : ℕ) (x : Refusal) : Type 0 where
      pub node : ℕ
      pub asked : Request
      pub asks : turn_of e ≡ Some (turn.Client node 0 asked)
      pub arrival : a ≡ w.arrivals + 1
      pub up : w.power ≡ power.Up
      pub truly : ClientRefusal M blocks w.replica asked x

    module _ (lone : IsLone M w.replica) (happens : Happens M blocks w e h) where
      pub refusal_is : (j a : ℕ) (x : Refusal) → slice_get h.effects j ≡ Some (effect.Answered a (outcome.Refused x)) → RefusalIs a x
      refusal_is j a x seen = by_told (told_at lone happens answer.step.input)
        where
          answer : IsAnswered j a (outcome.Refused x)
          answer = answered_is j a (outcome.Refused x) happens seen

          by_told : Told w.replica answer.step.input (step_at M blocks w answer.step.input) → RefusalIs a x
          by_told (none is) = absurd (no_reply _ _ answer.told.place is answer.told.reply)
          by_told (acked step) =
              let parts = only_reply _ _ _ answer.told.place step.replies answer.told.reply in
              let differs = (reply_parts _ _ _ _ parts.1).1 in
              absurd (differ _ _ _ differs)
            where
              differ : (t' p : ℕ) (text : List ℕ) → outcome.Ack t' p text ≡ outcome.Refused x → ⊥
              differ t' p text e = cc
          by_told (read step) =
              let parts = only_reply _ _ _ answer.told.place step.replies answer.told.reply in
              let differs = (reply_parts _ _ _ _ parts.1).1 in
              absurd (differ _ _ _ differs)
            where
              differ : (t' p : ℕ) (text : List ℕ) → outcome.Read t' p text ≡ outcome.Refused x → ⊥
              differ t' p text e = cc
          by_told (refused step) =
              let parts = only_reply _ _ _ answer.told.place step.replies answer.told.reply in
              let both = reply_parts _ _ _ _ parts.1 in
              let same : step.refusal ≡ x = refusal_same step.refusal both.1 in
              let asked = asked_is answer.step.input answer.step.count step.tag step.write step.bytes answer.step.gives step.is in
              record {
                node = asked.node;
                asked = record { write = step.write; body = step.bytes };
                asks = asked.asks;
                arrival = sym both.0 ∙ asked.tag_is;
                up = answer.step.up;
                truly = subst (ClientRefusal M blocks w.replica (record { write = step.write; body = step.bytes })) same step.truly;
              }
            where
              refusal_same : (y : Refusal) → outcome.Refused y ≡ outcome.Refused x → y ≡ x
              refusal_same y e = cc
