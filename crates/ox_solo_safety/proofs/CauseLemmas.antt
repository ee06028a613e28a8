-- Every entry of a log has its cause.
use Rattle.std.proofs.Common.{◌≡◌, ◌∙◌, ℕ, zero, suc, ◌+◌, true, List, [], ◌∷◌, ◌++◌, length, slice_get, Option, Some, None, inl, inr, refl, sym, ap, subst, arith, append-nil}
use Rattle.ox_types.specs.declared.log.Entry.{Entry}
use Rattle.ox_types.specs.Durable.{DurableState}
use Rattle.ox_machine.specs.Meaning.{Meaning}
use Rattle.ox_solo_replica.specs.declared.input.Input.{Input}
use Rattle.ox_solo_replica.specs.State.{ReplicaState}
use Rattle.ox_solo_replica.specs.Step.{Stepped}
use Rattle.ox_timer.specs.Timers.{due}
use Rattle.ox_solo_safety.specs.declared.power.Power.TheVariants as power
use Rattle.ox_wire.specs.declared.origin.Cause.{Cause}
use Rattle.ox_wire.specs.declared.origin.Cause.TheVariants as cause
use Rattle.ox_wire.specs.declared.origin.Origin.{Origin}
use Rattle.ox_wire.specs.Events.{RunEvent as Event}
use Rattle.ox_solo_safety.specs.World.{World, opening_pass}
use Rattle.ox_solo_safety.specs.Run.{origin_of, origins_of, appended, expiry_cause, tick_cause, cause_at, happens, AreOfOneNode}
use Rattle.ox_wire.specs.Origins.{AreInStep}
use Rattle.ox_solo_safety.specs.Moments.{world_at, history_at, IsFrom}
use Rattle.ox_solo_safety.specs.Legal.{IsCaused, EntriesHaveCauses}
use Rattle.ox_solo_safety.proofs.ListLemmas.{get_more, get_last, get_front, get_some, get_within}
use Rattle.ox_solo_safety.proofs.StepLemmas.{Steps, IsExpiring, step_is}
use Rattle.ox_solo_safety.proofs.StepLemmas.Steps.{rests, reads, writes, expiring, fencing, beginning}
use Rattle.ox_solo_safety.proofs.EventLemmas.{step_at, Gives, Happens}
use Rattle.ox_solo_safety.proofs.EventLemmas.Happens.{steps, cut_behind, falls, idles}
use Rattle.ox_solo_safety.proofs.SoundLemmas.{IsSound}
use Rattle.ox_solo_safety.proofs.MomentLemmas.{at_next, at_end, at_first, sound_at, happens_at, starts_longer}
use Rattle.ox_solo_safety.proofs.AnswerLemmas.{asked_is}
use Rattle.ox_solo_safety.proofs.TimerLemmas.{TimerFacts, Expires, expiry_is}

module _ {S C R Q A : Type 0} (M : Meaning S C R Q A) (blocks : ℕ) (es : List Event) (only : AreOfOneNode es) where
  abbrev w : ℕ → World S
  w k = world_at M blocks es k

  sound : (k : ℕ) → IsSound M (w k)
  sound k = sound_at M blocks es only k

  -- what has a cause at one moment has it at the next
  earlier : (k : ℕ) (e : Entry) (x : Cause) → IsCaused M blocks es k 0 e x → IsCaused M blocks es (suc k) 0 e x
  earlier k e cause.Opening h = h
  earlier k e (cause.Arrival a) h = record {
    bytes = h.bytes;
    came = record { event = h.came.event; before = omega (arith, h.came.before); comes = h.came.comes };
    faultless = h.faultless;
    same = h.same;
  }
  earlier k e (cause.Expiry id) h = record {
    command = h.command;
    kept = h.kept;
    before = omega (arith, h.before);
    new = h.new;
    node = h.node;
    leader = h.leader;
    leading = h.leading;
    leads = h.leads;
    timer = h.timer;
    runs = h.runs;
    id_is = h.id_is;
    ran_out = h.ran_out;
  }

  abbrev AllCaused : ℕ → List Entry → List Origin → Type 0
  AllCaused k entries origins = (i : ℕ) (e : Entry) (x : Origin) → slice_get entries i ≡ Some e → slice_get origins i ≡ Some x → IsCaused M blocks es k 0 e x.cause

  caused_same : (k : ℕ) (entries more : List Entry) (origins others : List Origin) → more ≡ entries → others ≡ origins → AllCaused k entries origins → AllCaused (suc k) more others
  caused_same k entries more origins others a b known = rw (a, b) (λ i e x g f. earlier k e x.cause (known i e x g f))

  -- an entry more, which has its cause
  caused_more : (k : ℕ) (entries more : List Entry) (origins others : List Origin) (y : Cause) (new : Entry) → length origins ≡ length entries → more ≡ entries ++ new ∷ [] → others ≡ origins ++ origin_of 0 y new ∷ []
      → IsCaused M blocks es (suc k) 0 new y → AllCaused k entries origins → AllCaused (suc k) more others
  caused_more k entries more origins others y new long a b here known = rw (a, b) (λ i e x g f. elim (get_more entries new e i g) [
    | inl m ↦ elim (get_more origins (origin_of 0 y new) x i f) [
      | inl l ↦ earlier k e x.cause (known i e x m l)
      | inr q ↦ absurd (omega (arith, q.0, long, get_within entries e i m))
    ]
    | inr p ↦ elim (get_more origins (origin_of 0 y new) x i f) [
      | inl l ↦ absurd (omega (arith, p.0, long, get_within origins x i l))
      | inr q ↦ rw (← p.1, ← q.1) here
    ]
  ])

  module _ (facts : TimerFacts M blocks es) where
    -- ---- the batch of event k stands behind it

    module _ (k : ℕ) (e : Event) (here : slice_get es k ≡ Some e) (i : Input) (n : ℕ) (gives : Gives M blocks (w k) e i n) (up : (w k).power ≡ power.Up)
        (disk : (w (suc k)).replica.disk ≡ (step_at M blocks (w k) i).state.disk) (origins : (w (suc k)).origins ≡ (w k).origins ++ origins_of 0 (cause_at (w k).replica i) (step_at M blocks (w k) i).kept)
        (known : AllCaused k (w k).replica.disk.entries (w k).origins) where
      abbrev o : Stepped S
      o = step_at M blocks (w k) i

      abbrev Next : Type 0
      Next = AllCaused (suc k) (w (suc k)).replica.disk.entries (w (suc k)).origins

      nothing : o.kept ≡ [] → o.state.disk ≡ (w k).replica.disk → Next
      nothing kept same =
          caused_same k (w k).replica.disk.entries _ (w k).origins _ (ap (λ (d : DurableState). d.entries) (disk ∙ same))
          (origins ∙ ap (λ acts. (w k).origins ++ origins_of 0 (cause_at (w k).replica i) acts) kept ∙ append-nil (w k).origins) known

      new_origins : (new : Entry) → appended o.kept ≡ new ∷ [] → (y : Cause) → cause_at (w k).replica i ≡ y → (w (suc k)).origins ≡ (w k).origins ++ origin_of 0 y new ∷ []
      new_origins new only_one y is = origins ∙ rw (only_one, is) refl

      entry : (new : Entry) → appended o.kept ≡ new ∷ [] → o.state.disk.entries ≡ (w k).replica.disk.entries ++ new ∷ [] → (y : Cause) → cause_at (w k).replica i ≡ y → IsCaused M blocks es (suc k) 0 new y → Next
      entry new only_one more y is h =
          caused_more k (w k).replica.disk.entries _ (w k).origins _ y new (sound k).logged.long (ap (λ (d : DurableState). d.entries) disk ∙ more)
          (new_origins new only_one y is) h known

      -- an expiry
      abbrev r : ReplicaState S
      r = (w k).replica

      no_origin : (new : Entry) (x : Cause) → new.offset ≡ length r.disk.entries → ¬ (IsFrom M blocks es k 0 new x)
      no_origin new x at_end has =
          let place = (sound k).logged.steps.origin has.0 _ has.1 in
          omega (arith, place.1, at_end, (sound k).logged.long, get_within (w k).origins _ has.0 has.1)

      expires : (step : IsExpiring M r i o) → Expires M blocks es facts k step.id step.entry
      expires step = record {
        leading = step.leading;
        leads = step.appends.was;
        due_is = ap (λ now. due now step.leading.timers) step.time_is ∙ step.due_is;
        term_is = step.appends.term_is;
        body_is = step.body_is;
        new = (no_origin step.entry (cause.Expiry step.id) step.appends.offset_is, (length (w k).origins, found));
      }
        where
          cause_is : cause_at r i ≡ cause.Expiry step.id
          cause_is = ap (cause_at r) step.is ∙ ap (tick_cause r step.ms) step.appends.was ∙ ap expiry_cause step.due_is

          found : slice_get (w (k + 1)).origins (length (w k).origins) ≡ Some (origin_of 0 (cause.Expiry step.id) step.entry)
          found =
              ap (λ m. slice_get (w m).origins (length (w k).origins)) (omega arith)
              ∙ ap (λ xs. slice_get xs (length (w k).origins)) (new_origins step.entry (ap appended step.appends.kept) (cause.Expiry step.id) cause_is)
              ∙ get_last (w k).origins (origin_of 0 (cause.Expiry step.id) step.entry)

      caused_step : Steps M blocks r i o → Next
      caused_step (rests still sends tells) = nothing still.kept still.disk
      caused_step (reads step) = nothing step.still.kept step.still.disk
      caused_step (fencing step) = caused_same k r.disk.entries _ (w k).origins _ (ap (λ (d : DurableState). d.entries) (disk ∙ step.disk))
          (origins ∙ ap (λ acts. (w k).origins ++ origins_of 0 (cause_at r i) acts) step.kept ∙ append-nil (w k).origins) known
      caused_step (writes step) =
          let asked = asked_is M blocks (w k) e (happens M blocks (w k) e) i n step.tag true step.bytes gives step.is in
          entry step.entry (ap appended step.appends.kept) (ap (λ (d : DurableState). d.entries) step.appends.disk) (cause.Arrival step.tag) (ap (cause_at r) step.is) (record {
            bytes = step.bytes;
            came = record {
              event = k;
              before = omega arith;
              comes = record { event = e; here = here; node = asked.node; asks = asked.asks; up = up; number = asked.tag_is };
            };
            faultless = step.faultless;
            same = step.body_is;
          })
      caused_step (expiring step) =
          entry step.entry (ap appended step.appends.kept) (ap (λ (d : DurableState). d.entries) step.appends.disk) (cause.Expiry step.id)
          (ap (cause_at r) step.is ∙ ap (tick_cause r step.ms) step.appends.was ∙ ap expiry_cause step.due_is)
          (expiry_is M blocks es facts k (suc k) step.id step.entry (omega arith) (expires step))
      caused_step (beginning step) =
          entry step.pass (ap appended step.kept) (ap (λ (d : DurableState). d.entries) step.disk) cause.Opening (ap (cause_at r) step.is) step.is_pass

    -- ---- all moments

    abbrev CausedAt : ℕ → Type 0
    CausedAt k = AllCaused k (w k).replica.disk.entries (w k).origins

    caused_first : CausedAt 0
    caused_first = subst (λ (v : World S). AllCaused 0 v.replica.disk.entries v.origins) (sym (at_first M blocks es)) first
      where
        first : (i : ℕ) (e : Entry) (x : Origin) → slice_get (opening_pass ∷ []) i ≡ Some e → slice_get (origin_of 0 cause.Opening opening_pass ∷ []) i ≡ Some x → IsCaused M blocks es 0 0 e x.cause
        first zero e x g f =
            let a : opening_pass ≡ e = cc in
            let b : origin_of 0 cause.Opening opening_pass ≡ x = cc in
            rw (← a, ← b) refl
        first (suc i) e x g f = absurd cc

    caused_event : (k : ℕ) (e : Event) → slice_get es k ≡ Some e → Happens M blocks (w k) e (happens M blocks (w k) e) → CausedAt k → CausedAt (suc k)
    caused_event k e here (steps step) known =
        let next = at_next M blocks es k e here ∙ step.world in
        caused_step k e here step.input step.count step.gives step.up (ap (λ (v : World S). v.replica.disk) next) (ap (λ (v : World S). v.origins) next) known
        (step_is M blocks (w k).replica (sound k).lone step.input)
    caused_event k e here (cut_behind step) known =
        let next = at_next M blocks es k e here ∙ step.world in
        caused_step k e here step.input step.count step.gives step.up (ap (λ (v : World S). v.replica.disk) next) (ap (λ (v : World S). v.origins) next) known
        (step_is M blocks (w k).replica (sound k).lone step.input)
    caused_event k e here (falls fall) known =
        let next = at_next M blocks es k e here in
        caused_same k (w k).replica.disk.entries _ (w k).origins _ (ap (λ (v : World S). v.replica.disk.entries) next ∙ ap (λ r. r.disk.entries) fall.replica)
        (ap (λ (v : World S). v.origins) next ∙ fall.origins) known
    caused_event k e here (idles idle) known =
        let next = at_next M blocks es k e here in
        caused_same k (w k).replica.disk.entries _ (w k).origins _ (ap (λ (v : World S). v.replica.disk.entries) next ∙ ap (λ r. r.disk.entries) idle.replica)
        (ap (λ (v : World S). v.origins) next ∙ idle.origins) known

    caused_next : (k : ℕ) (found : Option Event) → slice_get es k ≡ found → CausedAt k → CausedAt (suc k)
    caused_next k None is known =
        let next = at_end M blocks es k is in
        caused_same k (w k).replica.disk.entries _ (w k).origins _ (ap (λ (v : World S). v.replica.disk.entries) next) (ap (λ (v : World S). v.origins) next) known
    caused_next k (Some e) is known = caused_event k e is (happens_at M blocks es only k e is) known

    caused_at : (k : ℕ) → CausedAt k
    caused_at zero = caused_first
    caused_at (suc k) = caused_next k (slice_get es k) refl (caused_at k)

    -- ---- the entries of the history

    -- an entry of the history is one of the log
    in_log : (k i : ℕ) (e : Entry) → slice_get (w k).history i ≡ Some e → slice_get (w k).replica.disk.entries i ≡ Some e
    in_log k i e h =
        let b = (sound k).begins in
        ap (λ xs. slice_get xs i) b.1 ∙ get_front (w k).history b.0 i e h

    origin_same : (e : Entry) (x : Origin) (i : ℕ) → e.offset ≡ i → (x.shard ≡ 0) × (x.offset ≡ i) → x.term ≡ e.term → x ≡ record { shard = 0; term = e.term; offset = e.offset; cause = x.cause }
    origin_same e x i place b term =
        let offset : x.offset ≡ e.offset = b.1 ∙ sym place in
        let f : ℕ → ℕ → ℕ → Origin = λ s t o. record { shard = s; term = t; offset = o; cause = x.cause } in
        ap (λ s. f s x.term x.offset) b.0 ∙ ap (λ t. f 0 t x.offset) term ∙ ap (λ o. f 0 e.term o) offset

    caused : (k s o : ℕ) (e : Entry) → slice_get (history_at M blocks es k s) o ≡ Some e → (x : Cause) × IsFrom M blocks es k s e x × IsCaused M blocks es k s e x
    caused k zero o e h =
        let logged = (sound k).logged in
        let log = in_log k o e h in
        let x = get_some (w k).origins o (omega (arith, logged.long, get_within (w k).replica.disk.entries e o log)) in
        let same = origin_same e x.0 o (logged.steps.entry o e log) (logged.steps.origin o x.0 x.1) (logged.steps.term o e x.0 log x.1) in
        (x.0.cause, (o, x.1 ∙ ap (λ (y : Origin). Some y) same), caused_at k o e x.0 log x.1)
    caused k (suc s) o e h = absurd cc

    -- an entry from an arrival has its origin at its own place
    from_place : (k o a : ℕ) (e : Entry) → slice_get (history_at M blocks es k 0) o ≡ Some e → (f : IsFrom M blocks es k 0 e (cause.Arrival a)) → f.0 ≡ o
    from_place k o a e h f =
        let logged = (sound k).logged in
        let at = logged.steps.origin f.0 _ f.1 in
        sym at.1 ∙ logged.steps.entry o e (in_log k o e h)

    arrivals_once : (k s o p a : ℕ) (e f : Entry) → slice_get (history_at M blocks es k s) o ≡ Some e → slice_get (history_at M blocks es k s) p ≡ Some f → IsFrom M blocks es k s e (cause.Arrival a) → IsFrom M blocks es k s f (cause.Arrival a) → o ≡ p
    arrivals_once k zero o p a e f g h x y =
        let same : x.0 ≡ y.0 = (sound k).logged.once x.0 y.0 a _ _ x.1 y.1 refl refl in
        sym (from_place k o a e g x) ∙ same ∙ from_place k p a f h y
    arrivals_once k (suc s) o p a e f g h x y = absurd cc

    in_place : (k s o : ℕ) (e : Entry) → slice_get (history_at M blocks es k s) o ≡ Some e → e.offset ≡ o
    in_place k zero o e h = (sound k).logged.steps.entry o e (in_log k o e h)
    in_place k (suc s) o e h = absurd cc

    pub entries_have_causes : EntriesHaveCauses M blocks es
    entries_have_causes = record { caused = caused; once = arrivals_once; in_place = in_place }

  -- the origins stand in the order of the history
  pub history_in_step : (k : ℕ) → AreInStep (w k).history (w k).origins
  history_in_step k =
      let logged = (sound k).logged in
      let b = (sound k).begins in
      let front : (i : ℕ) (e : Entry) → slice_get (w k).history i ≡ Some e → slice_get (w k).replica.disk.entries i ≡ Some e = λ i e h. ap (λ xs. slice_get xs i) b.1 ∙ get_front (w k).history b.0 i e h in
      record {
        enough = omega (arith, logged.long, starts_longer (w k).history (w k).replica.disk.entries b);
        entry = λ i e h. logged.steps.entry i e (front i e h);
        origin = logged.steps.origin;
        term = λ i e x h g. logged.steps.term i e x (front i e h) g;
      }
