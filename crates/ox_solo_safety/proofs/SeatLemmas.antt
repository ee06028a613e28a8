-- What the steps of a run of a node that is alone give of its seat and of its timers.
use Rattle.std.proofs.Common.{◌≡◌, ◌∙◌, ℕ, zero, suc, ◌+◌, ◌≤◌, false, List, [], ◌∷◌, slice_get, Option, Some, None, Result, Ok, ◌⊎◌, inl, inr, refl, sym, ap, subst, arith}
use Rattle.ox_types.specs.declared.bad.MachineFault.{MachineFault}
use Rattle.ox_types.specs.declared.log.Seat.TheVariants as seat
use Rattle.ox_types.specs.declared.refusal.Refusal.{Refusal}
use Rattle.ox_types.specs.declared.timer.Timer.{Timer}
use Rattle.ox_types.specs.Durable.{DurableState}
use Rattle.ox_bytes.specs.Texts.{value_in}
use Rattle.ox_wire.specs.declared.message.Outcome.TheVariants as outcome
use Rattle.ox_machine.specs.Meaning.{Meaning}
use Rattle.ox_machine.specs.Store.{after, reply_to}
use Rattle.ox_timer.specs.declared.running.Running.{Running}
use Rattle.ox_timer.specs.Timers.{started, starts, retimed, heard, noted}
use Rattle.ox_solo_replica.specs.declared.input.Input.{Input}
use Rattle.ox_solo_replica.specs.declared.leading.Leading.{Leading}
use Rattle.ox_solo_replica.specs.Advance.{ack_of}
use Rattle.ox_solo_replica.specs.State.{ReplicaState}
use Rattle.ox_solo_replica.specs.Step.{Stepped}
use Rattle.ox_wire.specs.declared.event.Request.{Request}
use Rattle.ox_wire.specs.Events.{RunEvent as Event}
use Rattle.ox_wire.specs.Effects.{Effect as effect}
use Rattle.ox_solo_safety.specs.World.{World, opening_leading}
use Rattle.ox_solo_safety.specs.Run.{happens, AreOfOneNode}
use Rattle.ox_solo_safety.specs.Moments.{Has, world_at, CameBefore}
use Rattle.ox_solo_safety.specs.Expiry.{Keeps}
use Rattle.ox_solo_safety.proofs.ListLemmas.{some_is}
use Rattle.ox_solo_safety.proofs.RunningLemmas.{retimed_from, heard_from, noted_from}
use Rattle.ox_solo_safety.proofs.StepLemmas.{hears_with, unchanged, WasLeading, IsAppending, IsWriting, IsReading, Tells, Steps, step_is}
use Rattle.ox_solo_safety.proofs.StepLemmas.Tells.{nobody, client}
use Rattle.ox_solo_safety.proofs.StepLemmas.Steps.{rests, reads, writes, expiring, fencing, beginning}
use Rattle.ox_solo_safety.proofs.EventLemmas.{step_at, IsWhole, Happens}
use Rattle.ox_solo_safety.proofs.EventLemmas.Happens.{steps, cut_behind, falls, idles}
use Rattle.ox_solo_safety.proofs.SoundLemmas.{IsSound}
use Rattle.ox_solo_safety.proofs.MomentLemmas.{at_next, at_end, at_first, sound_at, happens_at, next, one_request}
use Rattle.ox_solo_safety.proofs.AnswerLemmas.{mute_get, only_reply, no_reply, reply_with, reply_parts, reply_is, asked_is}
use Rattle.ox_solo_safety.proofs.LegalLemmas.{read_leads}
use Rattle.ox_solo_safety.proofs.TimerLemmas.{LeadsAt, IsAlone, GoesOn, KeepsSeat, TimerFacts}

-- a timer that was just started
started_now : (now : ℕ) (ts : List Timer) (i : ℕ) (r : Running) → slice_get (started now ts) i ≡ Some r → r.since ≡ now
started_now now [] i r h = absurd cc
started_now now (t ∷ ts) zero r h = let is : starts now t ≡ r = cc in sym (ap (λ (x : Running). x.since) is)
started_now now (t ∷ ts) (suc i) r h = started_now now ts i r h

seats_differ : seat.Fenced ≡ seat.Led → ⊥
seats_differ e = cc

no_leader : (l : Leading) → None ≡ Some l → ⊥
no_leader l e = cc

module _ {S C R Q A : Type 0} (M : Meaning S C R Q A) (blocks : ℕ) where
  -- ---- one step

  module _ (r : ReplicaState S) (i : Input) (o : Stepped S) where
    same_seat : (d : DurableState) → o.state.disk ≡ d → d.seat ≡ r.disk.seat → r.disk.seat ≡ seat.Led → o.state.disk.seat ≡ seat.Led
    same_seat d is same led = ap (λ (x : DurableState). x.seat) is ∙ same ∙ led

    -- in its term it keeps the seat
    seat_stays : Steps M blocks r i o → r.disk.term ≡ o.state.disk.term → r.disk.seat ≡ seat.Led → o.state.disk.seat ≡ seat.Led
    seat_stays (rests still sends tells) same led = same_seat r.disk still.disk refl led
    seat_stays (reads step) same led = same_seat r.disk step.still.disk refl led
    seat_stays (writes step) same led = same_seat _ step.appends.disk refl led
    seat_stays (expiring step) same led = same_seat _ step.appends.disk refl led
    seat_stays (fencing step) same led = absurd (omega (arith, same, step.above, ap (λ (x : DurableState). x.term) step.disk))
    seat_stays (beginning step) same led = ap (λ (x : DurableState). x.seat) step.disk

    -- one that leads behind the step led before, or had no seat
    led_before : Steps M blocks r i o → r.disk.seat ≡ seat.Led → (l : Leading) → o.state.live.leading ≡ Some l → ((old : Leading) × (r.live.leading ≡ Some old)) × (r.live.now ≤ o.state.live.now)
    led_before (rests still sends tells) led l is = let back = still.back l is in ((back.old, back.was), still.later)
    led_before (reads step) led l is = ((step.leading, step.was), step.still.later)
    led_before (writes step) led l is = ((step.leading, step.appends.was), step.appends.later)
    led_before (expiring step) led l is = ((step.leading, step.appends.was), step.appends.later)
    led_before (fencing step) led l is = absurd (no_leader l (sym step.leads ∙ is))
    led_before (beginning step) led l is = absurd (seats_differ (sym step.seat_was ∙ led))

    -- no read is answered
    abbrev NoRead : Type 0
    NoRead = (place a t p : ℕ) (told : List ℕ) → slice_get o.replies place ≡ Some (reply_with a (outcome.Read t p told)) → ⊥

    none_read : o.replies ≡ [] → NoRead
    none_read none place a t p told is = no_reply _ o.replies place none is

    refused_is : (x : Refusal) (t p : ℕ) (told : List ℕ) → outcome.Refused x ≡ outcome.Read t p told → ⊥
    refused_is x t p told e = cc

    acked_is : (u q : ℕ) (text : List ℕ) (t p : ℕ) (told : List ℕ) → outcome.Ack u q text ≡ outcome.Read t p told → ⊥
    acked_is u q text t p told e = cc

    tells_no_read : Tells M blocks r i o.replies → NoRead
    tells_no_read (nobody none) = none_read none
    tells_no_read (client tag write bytes x asked truly one) = λ place a t p told is.
        let parts = only_reply _ _ o.replies place one is in
        refused_is x t p told (reply_parts _ _ _ _ parts.1).1

    writes_no_read : IsWriting M r i o → NoRead
    writes_no_read step = by_reply (reply_to M r.live.machine step.entry) refl
      where
        by_reply : (x : Option R) → reply_to M r.live.machine step.entry ≡ x → NoRead
        by_reply None is = none_read (step.replies ∙ ap (ack_of M r.disk.term step.entry.offset (Some step.tag)) is)
        by_reply (Some reply) is = λ place a t p told there.
            let parts = only_reply _ _ o.replies place (step.replies ∙ ap (ack_of M r.disk.term step.entry.offset (Some step.tag)) is) there in
            acked_is _ _ _ t p told (reply_parts _ _ _ _ parts.1).1

  module _ (es : List Event) (only : AreOfOneNode es) where
    abbrev w : ℕ → World S
    w k = world_at M blocks es k

    sound : (k : ℕ) → IsSound M (w k)
    sound k = sound_at M blocks es only k

    -- ---- the leader is alone

    alone : (k : ℕ) (l : Leading) → LeadsAt M blocks es k l → IsAlone M blocks es k l
    alone k l leads =
        let lead = (sound k).lone.leader l leads in
        record {
          up = (sound k).up l leads;
          seat = lead.seat_is;
          timed = lead.timed;
          place = lead.pass.place;
          pass = lead.pass.entry;
          stands = lead.pass.stands;
          committed = lead.pass.committed;
          pass_term = lead.pass.term_is;
          is_pass = lead.pass.is_pass;
        }

    -- ---- its seat

    module _ (k : ℕ) where
      abbrev r : ReplicaState S
      r = (w k).replica

      abbrev new : ReplicaState S
      new = (w (suc k)).replica

      keeps_same : new ≡ r → KeepsSeat M blocks es k
      keeps_same same = record {
        rises = (next M blocks es only k).term;
        seat = λ _ led. ap (λ (x : ReplicaState S). x.disk.seat) same ∙ led;
        goes_on = λ l _ _ is. ((l, sym (ap (λ (x : ReplicaState S). x.live.leading) same) ∙ is), omega (arith, ap (λ (x : ReplicaState S). x.live.now) same));
      }

      keeps_step : (i : Input) → new ≡ (step_at M blocks (w k) i).state → Steps M blocks r i (step_at M blocks (w k) i) → KeepsSeat M blocks es k
      keeps_step i is step =
          let o : Stepped S = step_at M blocks (w k) i in
          record {
            rises = (next M blocks es only k).term;
            seat = λ same led. ap (λ (x : ReplicaState S). x.disk.seat) is ∙ seat_stays r i o step (same ∙ ap (λ (x : ReplicaState S). x.disk.term) is) led;
            goes_on = λ l same led leads.
                let before = led_before r i o step led l (sym (ap (λ (x : ReplicaState S). x.live.leading) is) ∙ leads) in
                (before.0, omega (arith, before.1, ap (λ (x : ReplicaState S). x.live.now) is));
          }

      keeps_down : (d : DurableState) → new.disk ≡ d → new.live.leading ≡ None → (r.disk.term ≡ d.term → r.disk.seat ≡ seat.Led → d.seat ≡ seat.Led) → KeepsSeat M blocks es k
      keeps_down d is none stays = record {
        rises = (next M blocks es only k).term;
        seat = λ same led. ap (λ (x : DurableState). x.seat) is ∙ stays (same ∙ ap (λ (x : DurableState). x.term) is) led;
        goes_on = λ l _ _ leads. absurd (no_leader l (sym none ∙ leads));
      }

      keeps_event : (e : Event) → slice_get es k ≡ Some e → Happens M blocks (w k) e (happens M blocks (w k) e) → KeepsSeat M blocks es k
      keeps_event e here (steps step) =
          keeps_step step.input (ap (λ (v : World S). v.replica) (at_next M blocks es k e here ∙ step.world)) (step_is M blocks r (sound k).lone step.input)
      keeps_event e here (cut_behind step) =
          let is : new ≡ _ = ap (λ (v : World S). v.replica) (at_next M blocks es k e here ∙ step.world) in
          keeps_down (step_at M blocks (w k) step.input).state.disk (ap (λ (x : ReplicaState S). x.disk) is) (ap (λ (x : ReplicaState S). x.live.leading) is)
          (seat_stays r step.input (step_at M blocks (w k) step.input) (step_is M blocks r (sound k).lone step.input))
      keeps_event e here (falls fall) =
          let is : new ≡ _ = ap (λ (v : World S). v.replica) (at_next M blocks es k e here) ∙ fall.replica in
          keeps_down r.disk (ap (λ (x : ReplicaState S). x.disk) is) (ap (λ (x : ReplicaState S). x.live.leading) is) (λ _ led. led)
      keeps_event e here (idles idle) = keeps_same (ap (λ (v : World S). v.replica) (at_next M blocks es k e here) ∙ idle.replica)

      keeps_by : (found : Option Event) → slice_get es k ≡ found → KeepsSeat M blocks es k
      keeps_by None is = keeps_same (ap (λ (v : World S). v.replica) (at_end M blocks es k is))
      keeps_by (Some e) is = keeps_event e is (happens_at M blocks es only k e is)

      -- ---- its timers

      abbrev StartsOrGoesOn : Running → Type 0
      StartsOrGoesOn t = (t.since ≡ new.live.now) ⊎ GoesOn M blocks es k t

      -- no sign of life of this session is answered in event k
      abbrev Unkept : ℕ → Type 0
      Unkept id = (t : ℕ) → ¬ (Keeps M blocks es k 1 0 t id)

      goes_on : (l : Leading) → r.live.leading ≡ Some l → r.disk.term ≡ new.disk.term → (t old : Running) → Has l.timers old → old.id ≡ t.id → old.since ≡ t.since → Unkept t.id → GoesOn M blocks es k t
      goes_on l was same t old has id since unkept = record { leading = l; leads = was; same_term = same; old = old; has = has; id_is = id; since_is = since; unkept = unkept }

      timers_same : new ≡ r → ((id : ℕ) → Unkept id) → (l : Leading) → new.live.leading ≡ Some l → (t : Running) → Has l.timers t → StartsOrGoesOn t
      timers_same same unkept l leads t has =
          inr (goes_on l (sym (ap (λ (x : ReplicaState S). x.live.leading) same) ∙ leads) (sym (ap (λ (x : ReplicaState S). x.disk.term) same)) t t has refl refl (unkept t.id))

      module _ (e : Event) (here : slice_get es k ≡ Some e) where
        -- the answer of a sign of life is seen in this event
        seen_here : (t id : ℕ) (keeps : Keeps M blocks es k 1 0 t id) → slice_get (happens M blocks (w k) e).effects keeps.effect ≡ Some (effect.Answered keeps.arrival (outcome.Read t keeps.prefix keeps.answer))
        seen_here t id keeps =
            let same = some_is keeps.answered.shown.event e (sym keeps.answered.shown.here ∙ here) in
            subst (λ d. slice_get (happens M blocks (w k) d).effects keeps.effect ≡ Some (effect.Answered keeps.arrival (outcome.Read t keeps.prefix keeps.answer))) same keeps.answered.shown.seen

        module _ (step : IsWhole M blocks (w k) e (happens M blocks (w k) e)) where
          abbrev o : Stepped S
          o = step_at M blocks (w k) step.input

          abbrev i : Input
          i = step.input

          behind : new ≡ o.state
          behind = ap (λ (v : World S). v.replica) (at_next M blocks es k e here ∙ step.world)

          unread : NoRead r i o → (id : ℕ) → Unkept id
          unread none id t keeps =
              let told = reply_is M blocks (w k) e (happens M blocks (w k) e) step keeps.effect keeps.arrival (outcome.Read t keeps.prefix keeps.answer) (seen_here t id keeps) in
              none told.place keeps.arrival t keeps.prefix keeps.answer told.reply

          term_same : (d : DurableState) → o.state.disk ≡ d → r.disk.term ≡ d.term → r.disk.term ≡ new.disk.term
          term_same d is same = same ∙ sym (ap (λ (x : DurableState). x.term) is) ∙ sym (ap (λ (x : ReplicaState S). x.disk.term) behind)

          has_same : (xs ys : List Running) (t : Running) → xs ≡ ys → Has xs t → Has ys t
          has_same xs ys t is has = subst (λ zs. Has zs t) is has

          -- the session whose sign of life is answered is the one that the query names
          named : (query : IsReading M r i o) (t id : ℕ) → Keeps M blocks es k 1 0 t id → M.heard query.query ≡ Some id
          named query t id keeps =
              let told = reply_is M blocks (w k) e (happens M blocks (w k) e) step keeps.effect keeps.arrival (outcome.Read t keeps.prefix keeps.answer) (seen_here t id keeps) in
              let parts = only_reply _ _ o.replies told.place query.replies told.reply in
              let tag : query.tag ≡ keeps.arrival = (reply_parts _ _ _ _ parts.1).0 in
              let asked = asked_is M blocks (w k) e (happens M blocks (w k) e) i step.count query.tag false query.bytes step.gives query.is in
              let came : CameBefore M blocks es (k + 1) keeps.arrival 0 (record { write = false; body = query.bytes }) = record {
                event = k;
                before = omega arith;
                comes = record { event = e; here = here; node = asked.node; asks = asked.asks; up = step.up; number = sym tag ∙ asked.tag_is };
              } in
              let same = one_request M blocks es only (k + 1) keeps.arrival 0 0 (request_of keeps.bytes) (request_of query.bytes) keeps.came came in
              let bytes : keeps.bytes ≡ query.bytes = ap (λ (q : Request). q.body) same in
              let queries : read_as keeps.query ≡ read_as query.query = sym keeps.asks ∙ ap (value_in M.queries) bytes ∙ query.asks in
              ap M.heard (sym (ok_is keeps.query query.query queries)) ∙ keeps.session
            where
              request_of : List ℕ → Request
              request_of b = record { write = false; body = b }

              read_as : Q → Result Q MachineFault
              read_as q = Ok q

              ok_is : (x y : Q) → read_as x ≡ read_as y → x ≡ y
              ok_is x y h = cc

          timers_read : (query : IsReading M r i o) (l : Leading) → o.state.live.leading ≡ Some l → (t : Running) → Has l.timers t → StartsOrGoesOn t
          timers_read query l is t has = by_heard (M.heard query.query) refl
            where
              back : WasLeading r (hears_with r.live.now (M.heard query.query)) l
              back = query.still.back l is

              same_term : r.disk.term ≡ new.disk.term
              same_term = term_same r.disk query.still.disk refl

              now_same : r.live.now ≡ new.live.now
              now_same = sym query.now_is ∙ sym (ap (λ (x : ReplicaState S). x.live.now) behind)

              none_some : (id : ℕ) → None ≡ Some id → ⊥
              none_some id e = cc

              by_heard : (x : Option ℕ) → M.heard query.query ≡ x → StartsOrGoesOn t
              by_heard None heard_is =
                  let old : Has back.old.timers t = has_same l.timers back.old.timers t (back.timers ∙ ap (λ x. hears_with r.live.now x back.old.timers) heard_is) has in
                  inr (goes_on back.old back.was same_term t t old refl refl (λ u keeps. none_some t.id (sym heard_is ∙ named query u t.id keeps)))
              by_heard (Some id) heard_is =
                  let now : Has (heard id r.live.now back.old.timers) t = has_same l.timers (heard id r.live.now back.old.timers) t (back.timers ∙ ap (λ x. hears_with r.live.now x back.old.timers) heard_is) has in
                  elim (heard_from id r.live.now back.old.timers t now) [
                    | inl since ↦ inl (since ∙ now_same)
                    | inr x ↦ inr (goes_on back.old back.was same_term t x.0 x.1 x.2 x.3 (λ u keeps. x.4 (some_is t.id id (sym (named query u t.id keeps) ∙ heard_is))))
                  ]

          -- the timers that a leader sets anew behind an entry
          timers_appended : (e : _) (lead : Leading) (f : List Running → List Running) → IsAppending M r o e lead f → NoRead r i o → ((u : Running) → Has (f lead.timers) u → (old : Running) × Has lead.timers old × (old.id ≡ u.id) × (old.since ≡ u.since))
              → (l : Leading) → o.state.live.leading ≡ Some l → (t : Running) → Has l.timers t → StartsOrGoesOn t
          timers_appended e lead f appends none from l is t has =
              let same = some_is _ l (sym appends.leads ∙ is) in
              let now : Has (retimed o.state.live.now (M.timers (after M r.live.machine e)) (f lead.timers)) t = has_same l.timers _ t (ap (λ (x : Leading). x.timers) (sym same)) has in
              elim (retimed_from o.state.live.now (M.timers (after M r.live.machine e)) (f lead.timers) t now) [
                | inl since ↦ inl (since ∙ sym (ap (λ (x : ReplicaState S). x.live.now) behind))
                | inr x ↦
                    let old = from x.0 x.1 in
                    inr (goes_on lead appends.was (term_same _ appends.disk refl) t old.0 old.1 (old.2 ∙ x.2) (old.3 ∙ x.3) (unread none t.id))
              ]

          timers_step : Steps M blocks r i o → (l : Leading) → o.state.live.leading ≡ Some l → (t : Running) → Has l.timers t → StartsOrGoesOn t
          timers_step (rests still sends tells) l is t has =
              let back = still.back l is in
              inr (goes_on back.old back.was (term_same r.disk still.disk refl) t t (has_same l.timers back.old.timers t back.timers has) refl refl (unread (tells_no_read r i o tells) t.id))
          timers_step (reads query) l is t has = timers_read query l is t has
          timers_step (writes write) l is t has = timers_appended write.entry write.leading unchanged write.appends (writes_no_read r i o write) (λ u there. (u, there, refl, refl)) l is t has
          timers_step (expiring expiry) l is t has =
              timers_appended expiry.entry expiry.leading (noted expiry.id) expiry.appends (none_read r i o expiry.replies) (λ u there. noted_from expiry.id expiry.leading.timers u there) l is t has
          timers_step (fencing fence) l is t has = absurd (no_leader l (sym fence.leads ∙ is))
          timers_step (beginning lead) l is t has =
              let same = some_is lead.leading l (sym lead.leads ∙ is) in
              let now : Has (started o.state.live.now (M.timers o.state.live.machine)) t = has_same l.timers _ t (ap (λ (x : Leading). x.timers) (sym same) ∙ lead.timers) has in
              inl (started_now o.state.live.now (M.timers o.state.live.machine) now.0 t now.1 ∙ sym (ap (λ (x : ReplicaState S). x.live.now) behind))

        timers_event : Happens M blocks (w k) e (happens M blocks (w k) e) → (l : Leading) → new.live.leading ≡ Some l → (t : Running) → Has l.timers t → StartsOrGoesOn t
        timers_event (steps step) l leads t has =
            timers_step step (step_is M blocks r (sound k).lone step.input) l (sym (ap (λ (x : ReplicaState S). x.live.leading) (behind step)) ∙ leads) t has
        timers_event (cut_behind step) l leads t has =
            absurd (no_leader l (sym (ap (λ (v : World S). v.replica.live.leading) (at_next M blocks es k e here ∙ step.world)) ∙ leads))
        timers_event (falls fall) l leads t has =
            absurd (no_leader l (sym (ap (λ (v : World S). v.replica.live.leading) (at_next M blocks es k e here) ∙ ap (λ (x : ReplicaState S). x.live.leading) fall.replica) ∙ leads))
        timers_event (idles idle) l leads t has =
            timers_same (ap (λ (v : World S). v.replica) (at_next M blocks es k e here) ∙ idle.replica) (λ id u keeps. mute_get (happens M blocks (w k) e).effects keeps.effect _ idle.mute (seen_here u id keeps)) l leads t has

      timers_by : (found : Option Event) → slice_get es k ≡ found → (l : Leading) → new.live.leading ≡ Some l → (t : Running) → Has l.timers t → StartsOrGoesOn t
      timers_by None is l leads t has = timers_same (ap (λ (v : World S). v.replica) (at_end M blocks es k is)) (λ id u keeps. no_event keeps.answered.shown.event (sym is ∙ keeps.answered.shown.here)) l leads t has
        where
          no_event : (e : Event) → None ≡ Some e → ⊥
          no_event e h = cc
      timers_by (Some e) is l leads t has = timers_event e is (happens_at M blocks es only k e is) l leads t has

    first : (l : Leading) → LeadsAt M blocks es 0 l → (t : Running) → Has l.timers t → t.since ≡ (w 0).replica.live.now
    first l leads t has =
        let at = at_first M blocks es in
        let same = some_is (opening_leading M) l (sym (ap (λ (v : World S). v.replica.live.leading) at) ∙ leads) in
        let now : Has (started 0 (M.timers M.opening)) t = subst (λ ts. Has ts t) (ap (λ (x : Leading). x.timers) (sym same)) has in
        started_now 0 (M.timers M.opening) now.0 t now.1 ∙ sym (ap (λ (v : World S). v.replica.live.now) at)

    -- what the timers of a run stand on
    pub timer_facts : TimerFacts M blocks es
    timer_facts = record {
      first = first;
      alone = alone;
      seats = λ k. keeps_by k (slice_get es k) refl;
      timers = λ k. timers_by k (slice_get es k) refl;
      answers = λ k j a s t p told h. read_leads M blocks es only k j a s t p told h;
    }
