-- The log of a run of a node that is alone stays within its limits, and each of its entries can be applied.
use Rattle.std.proofs.Common.{◌≡◌, ◌∙◌, ℕ, zero, suc, ◌<◌, ◌≤◌, ◌^◌, List, [], ◌∷◌, ◌++◌, length, map, slice_get, Option, Some, None, inl, inr, refl, sym, ap, subst, arith}
use Rattle.ox_types.specs.declared.log.Entry.{Entry}
use Rattle.ox_types.specs.declared.log.EntryBody.TheVariants as body
use Rattle.ox_types.specs.Durable.{DurableState}
use Rattle.ox_machine.specs.Meaning.{Meaning}
use Rattle.ox_machine.specs.Laws.{IsMachine}
use Rattle.ox_timer.specs.declared.running.Running.{Running}
use Rattle.ox_solo_replica.specs.declared.input.Input.{Input}
use Rattle.ox_solo_replica.specs.declared.input.Input.TheVariants as input
use Rattle.ox_solo_replica.specs.State.{ReplicaState}
use Rattle.ox_solo_replica.specs.Step.{Stepped}
use Rattle.ox_solo_replica.specs.Tick.{time_at}
use Rattle.ox_timer.specs.Timers.{due}
use Rattle.ox_wire.specs.declared.event.Request.{Request}
use Rattle.ox_wire.specs.Events.{RunEvent as Event}
use Rattle.ox_wire.specs.declared.event.Turn.TheVariants as turn
use Rattle.ox_solo_safety.specs.World.{World, reopened, opening_pass, opening_world}
use Rattle.ox_solo_safety.specs.Run.{Happened, happens, AreOfOneNode}
use Rattle.ox_solo_safety.specs.Moments.{Has, turn_of, world_at}
use Rattle.ox_solo_safety.specs.Asked.{IsLawful, AskLawfully}
use Rattle.ox_solo_safety.proofs.ListLemmas.{get_more, longer_by_one}
use Rattle.ox_solo_safety.proofs.RunningLemmas.{timer_in, has_made, due_ran_out}
use Rattle.ox_solo_safety.proofs.StepLemmas.{IsStill, Steps, step_is}
use Rattle.ox_solo_safety.proofs.StepLemmas.Steps.{rests, reads, writes, expiring, fencing, beginning}
use Rattle.ox_solo_safety.proofs.EventLemmas.{step_at, Gives, Happens}
use Rattle.ox_solo_safety.proofs.EventLemmas.Gives.{request, message, tick}
use Rattle.ox_solo_safety.proofs.EventLemmas.Happens.{steps, cut_behind, falls, idles}
use Rattle.ox_solo_safety.proofs.SoundLemmas.{IsSound}
use Rattle.ox_solo_safety.proofs.MomentLemmas.{at_next, at_end, at_first, sound_at, happens_at}
use Rattle.ox_solo_safety.proofs.FitLemmas.{IdsAreSmall, IsFitting, pass_lawful, request_lawful, expiry_lawful, front_fits}

module _ {S C R Q A : Type 0} (M : Meaning S C R Q A) where
  -- the entries of a log, each of which can be applied
  abbrev pub AreApplicable : List Entry → Type 0
  AreApplicable es = (i : ℕ) (e : Entry) → slice_get es i ≡ Some e → IsFitting M e

  -- the clock and the log are within their limits
  pub record IsBounded (r : ReplicaState S) : Type 0 where
    pub now : r.live.now ≤ 9007199254740992
    pub few : length r.disk.entries ≤ 9007199254740992
    pub entries : AreApplicable r.disk.entries

  more_applicable : (es : List Entry) (new : Entry) → AreApplicable es → IsFitting M new → AreApplicable (es ++ new ∷ [])
  more_applicable es new all fitting i e g = elim (get_more es new e i g) [
    | inl k ↦ all i e k
    | inr p ↦ subst (IsFitting M) p.1 fitting
  ]

  -- a write that is asked is lawful
  abbrev AsksLawfully : Input → Type 0
  AsksLawfully (input.Client tag write bytes) = IsLawful M (record { write = write; body = bytes })
  AsksLawfully _ = Unit {0}

  module _ (laws : IsMachine M) (ids : IdsAreSmall M) where
    -- what is applied fits what is committed
    pub machine_fits : (w : World S) → IsSound M w → IsBounded w.replica → M.fits w.replica.live.commit w.replica.live.machine
    machine_fits w sound bounded =
        subst (M.fits w.replica.live.commit) (sym sound.lone.value)
        (front_fits M laws w.replica.disk.entries w.replica.live.commit (λ i e g. (let here = sound.logged.steps.entry i e g in omega (arith, here), bounded.entries i e g)) sound.lone.within bounded.few)

    module _ (blocks : ℕ) (w : World S) (sound : IsSound M w) (bounded : IsBounded w.replica) where
      abbrev r : ReplicaState S
      r = w.replica

      still_bounded : (o : Stepped S) (f : List Running → List Running) → IsStill r o f → IsBounded o.state
      still_bounded o f still = record {
        now = still.bounded bounded.now;
        few = omega (arith, ap (λ (d : DurableState). length d.entries) still.disk, bounded.few);
        entries = subst AreApplicable (sym (ap (λ (d : DurableState). d.entries) still.disk)) bounded.entries;
      }

      -- with an entry more
      longer_bounded : (o : Stepped S) (e : Entry) → o.state.disk.entries ≡ r.disk.entries ++ e ∷ [] → length r.disk.entries < 9007199254740992 → o.state.live.now ≤ 9007199254740992 → IsFitting M e → IsBounded o.state
      longer_bounded o e more below now fitting = record {
        now = now;
        few = omega (arith, ap length more, longer_by_one r.disk.entries e, below);
        entries = subst AreApplicable (sym more) (more_applicable r.disk.entries e bounded.entries fitting);
      }

      -- a timer that is due is one of the machine's
      due_small : (now id : ℕ) (running : List Running) → map timer_in running ≡ M.timers r.live.machine → due now running ≡ Some id → id < 2 ^ 64
      due_small now id running timed is =
          let found = due_ran_out now id running is in
          let here : Has (M.timers r.live.machine) (timer_in found.0) = (found.1.0, ap (λ ts. slice_get ts found.1.0) (sym timed) ∙ has_made timer_in running found.1.0 found.0 found.1.1) in
          let small = ids r.live.commit r.live.machine (timer_in found.0) (omega (arith, sound.lone.within, bounded.few)) (machine_fits w sound bounded) here in
          subst (λ (n : ℕ). n < 2 ^ 64) found.2 small

      step_bounded : (i : Input) (o : Stepped S) → AsksLawfully i → Steps M blocks r i o → IsBounded o.state
      step_bounded i o asks (rests still sends tells) = still_bounded o _ still
      step_bounded i o asks (reads step) = still_bounded o _ step.still
      step_bounded i o asks (writes step) =
          let now = step.appends.bounded bounded.now in
          longer_bounded o step.entry (ap (λ (d : DurableState). d.entries) step.appends.disk) (step.appends.room bounded.few) now (record {
            time = omega (arith, step.appends.time_is, now);
            lawful = request_lawful M step.entry.body step.bytes step.body_is (subst AsksLawfully step.is asks);
          })
      step_bounded i o asks (expiring step) =
          let now = step.appends.bounded bounded.now in
          let lead = sound.lone.leader step.leading step.appends.was in
          longer_bounded o step.entry (ap (λ (d : DurableState). d.entries) step.appends.disk) (step.appends.room bounded.few) now (record {
            time = omega (arith, step.appends.time_is, now);
            lawful = expiry_lawful M laws step.entry.body step.id (due_small (time_at r.live step.ms).now step.id step.leading.timers lead.timed step.due_is) step.body_is;
          })
      step_bounded i o asks (fencing step) = record {
        now = step.bounded bounded.now;
        few = omega (arith, ap (λ (d : DurableState). length d.entries) step.disk, bounded.few);
        entries = subst AreApplicable (sym (ap (λ (d : DurableState). d.entries) step.disk)) bounded.entries;
      }
      step_bounded i o asks (beginning step) =
          let now = step.bounded bounded.now in
          longer_bounded o step.pass (ap (λ (d : DurableState). d.entries) step.disk) (step.room bounded.few) now (record {
            time = omega (arith, step.time_is, now);
            lawful = pass_lawful M step.pass.body step.is_pass;
          })

      -- ---- events

      module _ (e : Event) (lawful : (q : Request) (node : ℕ) → turn_of e ≡ Some (turn.Client node 0 q) → IsLawful M q) where
        asks_lawfully : (i : Input) (n : ℕ) → Gives M blocks w e i n → AsksLawfully i
        asks_lawfully i n (request node q is i_is n_is) = subst AsksLawfully (sym i_is) (lawful q node is)
        asks_lawfully i n (message number m is there i_is n_is) = subst AsksLawfully (sym i_is) tt
        asks_lawfully i n (tick node ms is i_is n_is) = subst AsksLawfully (sym i_is) tt

        stepped_bounded : (i : Input) (n : ℕ) → Gives M blocks w e i n → IsBounded (step_at M blocks w i).state
        stepped_bounded i n gives = step_bounded i (step_at M blocks w i) (asks_lawfully i n gives) (step_is M blocks w.replica sound.lone i)

        fallen_bounded : (d : DurableState) → length d.entries ≤ 9007199254740992 → AreApplicable d.entries → IsBounded (reopened M d)
        fallen_bounded d few all = record { now = omega arith; few = few; entries = all }

        next_bounded : (h : Happened S) → Happens M blocks w e h → IsBounded h.world.replica
        next_bounded h (steps step) = rw step.world (stepped_bounded step.input step.count step.gives)
        next_bounded h (cut_behind step) =
            let behind = stepped_bounded step.input step.count step.gives in
            rw step.world (fallen_bounded (step_at M blocks w step.input).state.disk behind.few behind.entries)
        next_bounded h (falls fall) = subst IsBounded (sym fall.replica) (fallen_bounded w.replica.disk bounded.few bounded.entries)
        next_bounded h (idles idle) = subst IsBounded (sym idle.replica) bounded

    -- ---- moments

    module _ (blocks : ℕ) (es : List Event) (only : AreOfOneNode es) (lawful : AskLawfully M es) where
      opening_bounded : IsBounded (opening_world M).replica
      opening_bounded = record { now = omega arith; few = omega arith; entries = first }
        where
          first : AreApplicable (opening_pass ∷ [])
          first zero e g = let is : opening_pass ≡ e = cc in subst (IsFitting M) is (record { time = omega arith; lawful = pass_lawful M body.Pass refl })
          first (suc i) e g = absurd cc

      bounded_next : (k : ℕ) → IsBounded (world_at M blocks es k).replica → (found : Option Event) → slice_get es k ≡ found → IsBounded (world_at M blocks es (suc k)).replica
      bounded_next k bounded None is = subst (λ (w : World S). IsBounded w.replica) (sym (at_end M blocks es k is)) bounded
      bounded_next k bounded (Some e) is =
          subst (λ (w : World S). IsBounded w.replica) (sym (at_next M blocks es k e is))
          (next_bounded blocks (world_at M blocks es k) (sound_at M blocks es only k) bounded e (λ q node asks. lawful k node 0 e q is asks) (happens M blocks (world_at M blocks es k) e) (happens_at M blocks es only k e is))

      pub bounded_at : (k : ℕ) → IsBounded (world_at M blocks es k).replica
      bounded_at zero = subst (λ (w : World S). IsBounded w.replica) (sym (at_first M blocks es)) opening_bounded
      bounded_at (suc k) = bounded_next k (bounded_at k) (slice_get es k) refl

      -- what the replica has applied fits what it has committed
      pub fits_at : (k : ℕ) → M.fits (world_at M blocks es k).replica.live.commit (world_at M blocks es k).replica.live.machine
      fits_at k = machine_fits (world_at M blocks es k) (sound_at M blocks es only k) (bounded_at k)
