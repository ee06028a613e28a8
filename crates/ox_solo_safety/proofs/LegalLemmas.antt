-- Acknowledgements, reads, refusals and replicas of a run of a node that is alone.
use Rattle.std.proofs.Common.{◌≡◌, ◌≢◌, ◌∙◌, ℕ, zero, suc, ◌+◌, ◌<◌, ◌≤◌, Bool, true, false, List, [], ◌∷◌, ◌++◌, length, take, drop, slice_get, Some, ◌⊎◌, inl, inr, refl, sym, ap, subst, arith}
use Rattle.std.proofs.Math.Seq.{take-append_seam, take-append-le, take-length}
use Rattle.std.proofs.lemmas.Grind.{common_steps}
use Rattle.ox_types.specs.declared.log.Entry.{Entry}
use Rattle.ox_types.specs.declared.refusal.Refusal.{Refusal}
use Rattle.ox_types.specs.Durable.{DurableState}
use Rattle.ox_wire.specs.declared.message.Outcome.TheVariants as outcome
use Rattle.ox_machine.specs.Meaning.{Meaning}
use Rattle.ox_machine.specs.Laws.{IsMachine}
use Rattle.ox_machine.specs.Store.{state_after, reply_to, reply_at, answer_after}
use Rattle.ox_solo_replica.specs.declared.leading.Leading.{Leading}
use Rattle.ox_solo_replica.specs.State.{ReplicaState}
use Rattle.ox_solo_replica.specs.Step.{Stepped}
use Rattle.ox_solo_safety.specs.declared.power.Power.TheVariants as power
use Rattle.ox_wire.specs.declared.origin.Cause.TheVariants as cause
use Rattle.ox_wire.specs.declared.event.Request.{Request}
use Rattle.ox_wire.specs.Events.{RunEvent as Event}
use Rattle.ox_wire.specs.declared.event.Turn.TheVariants as turn
use Rattle.ox_wire.specs.declared.event.Event.TheVariants as event
use Rattle.ox_solo_safety.specs.World.{World}
use Rattle.ox_solo_safety.specs.Run.{origin_of, origins_of, cause_at, whole, happens, AreOfOneNode}
use Rattle.ox_solo_safety.specs.Moments.{Begins, turn_of, world_at, history_at, replica_at, CameBefore, Acks, Reads}
use Rattle.ox_solo_safety.specs.Refusals.{TurnTruly, AnswersTruly, RefusalsAreTrue}
use Rattle.ox_solo_safety.specs.Asked.{AskLawfully}
use Rattle.ox_solo_safety.specs.Says.{Says}
use Rattle.ox_solo_safety.specs.Legal.{Suits, AnswersHaveRequests, StandsInHistory, IsAcknowledgedInPlace, IsReply, RepliesMatch, IsRead, ReadsMatch, IsDurable, Agrees, ReplicasAgree}
use Rattle.ox_solo_safety.proofs.ListLemmas.{get_last, longer_by_one, some_is}
use Rattle.ox_solo_safety.proofs.EventLemmas.{step_at, IsWhole}
use Rattle.ox_solo_safety.proofs.SoundLemmas.{SoundTo, IsSound, history_whole}
use Rattle.ox_solo_safety.proofs.MomentLemmas.{starts_longer, at_next, sound_at, happens_at, later, came_to_shard}
use Rattle.ox_solo_safety.proofs.FitLemmas.{IdsAreSmall, reply_says, answer_says}
use Rattle.ox_solo_safety.proofs.BoundLemmas.{bounded_at, fits_at}
use Rattle.ox_solo_safety.proofs.AnswerLemmas.{AckIs, ack_is, ReadIs, read_is, refusal_is, sent_is}

one_more : (k : ℕ) → k + 1 ≡ suc k
one_more k = omega arith

module _ {S C R Q A : Type 0} (M : Meaning S C R Q A) where
  -- the reply to the last entry of a history
  reply_last : (xs : List Entry) (e : Entry) → reply_at M (xs ++ e ∷ []) (length xs) ≡ reply_to M (state_after M xs) e
  reply_last xs e = rw (take-append_seam xs (e ∷ []), get_last xs e) refl

  module _ (blocks : ℕ) (es : List Event) (only : AreOfOneNode es) where
    abbrev w : ℕ → World S
    w k = world_at M blocks es k

    sound : (k : ℕ) → IsSound M (w k)
    sound k = sound_at M blocks es only k

    -- ---- behind a whole step

    module _ (k : ℕ) (e : Event) (here : slice_get es k ≡ Some e) (step : IsWhole M blocks (w k) e (happens M blocks (w k) e)) where
      abbrev o : Stepped S
      o = step_at M blocks (w k) step.input

      pub whole_next : w (suc k) ≡ whole M blocks (record (w k) { arrivals = step.count }) 0 (cause_at (w k).replica step.input) o
      whole_next = at_next M blocks es k e here ∙ step.world

      pub disk_next : (w (suc k)).replica.disk ≡ o.state.disk
      disk_next = ap (λ (v : World S). v.replica.disk) whole_next

      -- one that leads then has all of its log in the history
      pub history_next : (l : Leading) → o.state.live.leading ≡ Some l → (w (suc k)).history ≡ o.state.disk.entries
      history_next l leads =
          let is : (w (suc k)).replica.live.leading ≡ Some l = ap (λ (v : World S). v.replica.live.leading) whole_next ∙ leads in
          history_whole M (w (suc k)) (w (suc k)).arrivals (sound (suc k)) ((sound (suc k)).lone.leader l is).all ∙ ap (λ (d : DurableState). d.entries) disk_next

    -- ---- acknowledgements

    -- event k acknowledges a write
    record AckAt (k j a s t offset : ℕ) (reply : List ℕ) : Type 0 where
      event : Event
      here : slice_get es k ≡ Some event
      ack : AckIs M blocks (w k) event (happens M blocks (w k) event) j a t offset reply
      shard : s ≡ 0

    ack_at : (k j a s t offset : ℕ) (reply : List ℕ) → Acks M blocks es k j a s t offset reply → AckAt k j a s t offset reply
    ack_at k j a s t offset reply h = record {
      event = h.shown.event;
      here = h.shown.here;
      ack = ack_is M blocks (w k) h.shown.event (happens M blocks (w k) h.shown.event) (sound k).lone (happens_at M blocks es only k h.shown.event h.shown.here) j a t offset reply h.shown.seen;
      shard = came_to_shard M blocks es only (k + 1) a s h.request h.came;
    }

    module _ (k j a s t offset : ℕ) (reply : List ℕ) (x : AckAt k j a s t offset reply) where
      abbrev written : Entry
      written = x.ack.write.entry

      abbrev log : List Entry
      log = (w k).replica.disk.entries

      number : a ≡ (w k).arrivals + 1
      number = x.ack.arrival ∙ x.ack.asked.tag_is

      place : offset ≡ length log
      place = x.ack.offset_is ∙ x.ack.write.appends.offset_is

      log_next : (w (suc k)).replica.disk.entries ≡ log ++ written ∷ []
      log_next = ap (λ (d : DurableState). d.entries) (disk_next k x.event x.here x.ack.step ∙ x.ack.write.appends.disk)

      history_is : (w (k + 1)).history ≡ log ++ written ∷ []
      history_is =
          ap (λ n. (w n).history) (one_more k) ∙ history_next k x.event x.here x.ack.step _ x.ack.write.appends.leads
          ∙ ap (λ (d : DurableState). d.entries) x.ack.write.appends.disk

      cause_is : cause_at (w k).replica x.ack.step.input ≡ cause.Arrival a
      cause_is = ap (cause_at (w k).replica) x.ack.write.is ∙ ap cause.Arrival (sym x.ack.arrival)

      origins_are : (w (k + 1)).origins ≡ (w k).origins ++ origin_of 0 (cause.Arrival a) written ∷ []
      origins_are =
          ap (λ n. (w n).origins) (one_more k) ∙ ap (λ (v : World S). v.origins) (whole_next k x.event x.here x.ack.step)
          ∙ ap (λ acts. (w k).origins ++ origins_of 0 (cause_at (w k).replica x.ack.step.input) acts) x.ack.write.appends.kept
          ∙ ap (λ y. (w k).origins ++ origin_of 0 y written ∷ []) cause_is

      counted : (w (suc k)).arrivals ≡ (w k).arrivals + 1
      counted = ap (λ (v : World S). v.arrivals) (whole_next k x.event x.here x.ack.step) ∙ x.ack.asked.count_is

      came : CameBefore M blocks es (k + 1) a 0 (record { write = true; body = x.ack.write.bytes })
      came = record { event = k; before = omega arith; comes = record { event = x.event; here = x.here; node = x.ack.asked.node; asks = x.ack.asked.asks; up = x.ack.step.up; number = number } }

      stands_first : StandsInHistory M blocks es k a 0 t offset
      stands_first = record {
        entry = written;
        stands = ap (λ xs. slice_get xs offset) history_is ∙ ap (slice_get (log ++ written ∷ [])) place ∙ get_last log written;
        term_is = x.ack.write.appends.term_is ∙ sym x.ack.term;
        from = (length (w k).origins, ap (λ xs. slice_get xs (length (w k).origins)) origins_are ∙ get_last (w k).origins (origin_of 0 (cause.Arrival a) written));
        bytes = x.ack.write.bytes;
        came = came;
        same = x.ack.write.body_is;
      }

      stands_so : StandsInHistory M blocks es k a s t offset
      stands_so = subst (λ z. StandsInHistory M blocks es k a z t offset) (sym x.shard) stands_first

      log_all : (w k).replica.live.commit ≡ length log
      log_all = ((sound k).lone.leader x.ack.write.leading x.ack.write.appends.was).all

      state_is : (w k).replica.live.machine ≡ state_after M log
      state_is =
          (sound k).lone.value ∙ ap (λ n. state_after M (take n log)) log_all ∙ ap (state_after M) (take-length log)

      -- its reply can be written
      told_reply : IsMachine M → IdsAreSmall M → AskLawfully M es → Says M.replies reply x.ack.value
      told_reply laws ids lawful =
          let offset_is = x.ack.write.appends.offset_is in
          reply_says M laws (w k).replica.live.machine written x.ack.value reply
          ((bounded_at M laws ids blocks es only lawful (suc k)).entries (length log) written (ap (λ xs. slice_get xs (length log)) log_next ∙ get_last log written))
          (omega (arith, offset_is, x.ack.write.appends.room (bounded_at M laws ids blocks es only lawful k).few))
          (subst (λ n. M.fits n (w k).replica.live.machine) (log_all ∙ sym offset_is) (fits_at M laws ids blocks es only lawful k)) x.ack.reply_is x.ack.text

      reply_first : Says M.replies reply x.ack.value → IsReply M blocks es k 0 offset reply
      reply_first says = record {
        reply = x.ack.value;
        is = ap (λ h. reply_at M h offset) history_is ∙ ap (reply_at M (log ++ written ∷ [])) place ∙ reply_last log written ∙ ap (λ v. reply_to M v written) (sym state_is) ∙ x.ack.reply_is;
        says = says;
      }

      reply_so : Says M.replies reply x.ack.value → IsReply M blocks es k s offset reply
      reply_so says = subst (λ z. IsReply M blocks es k z offset reply) (sym x.shard) (reply_first says)

      -- it ends below the log of the next moment
      below_next : offset + 1 ≡ length (w (suc k)).replica.disk.entries
      below_next = omega (arith, place, ap length log_next, longer_by_one log written)

      -- and of any later one
      below_later : (m : ℕ) → suc k ≤ m → offset < length (w m).replica.disk.entries
      below_later m le = omega (arith, below_next, starts_longer _ _ (later M blocks es only (suc k) m le).entries)

      number_later : (m : ℕ) → suc k ≤ m → a ≤ (w m).arrivals
      number_later m le = omega (arith, number, counted, (later M blocks es only (suc k) m le).arrivals)

    -- two acknowledgements at one event are one
    same_place : (k j a s t o j' a' s' t' o' : ℕ) (reply reply' : List ℕ) → AckAt k j a s t o reply → AckAt k j' a' s' t' o' reply' → j ≡ j'
    same_place k j a s t o j' a' s' t' o' reply reply' x y =
        let same = some_is x.event y.event (sym x.here ∙ y.here) in
        omega (arith, x.ack.last, y.ack.last, ap (λ e. length (happens M blocks (w k) e).effects) same)

    apart : (k j a s t o k' j' a' s' t' o' : ℕ) (reply reply' : List ℕ) → suc k ≤ k' → AckAt k j a s t o reply → AckAt k' j' a' s' t' o' reply' → (a < a') × (o < o')
    apart k j a s t o k' j' a' s' t' o' reply reply' le x y = (
      omega (arith, number_later k j a s t o reply x k' le, number k' j' a' s' t' o' reply' y),
      omega (arith, below_later k j a s t o reply x k' le, place k' j' a' s' t' o' reply' y),
    )

    order : (m n : ℕ) → (m ≡ n) ⊎ ((suc m ≤ n) ⊎ (suc n ≤ m))
    order m n = grind (arith, common_steps)

    differ_below : (m n : ℕ) → m < n → m ≢ n
    differ_below m n less same = omega (arith, less, same)

    differ_above : (m n : ℕ) → n < m → m ≢ n
    differ_above m n less same = omega (arith, less, same)

    once_so : (k j a s t o k' j' a' s' t' o' : ℕ) (reply reply' : List ℕ) → AckAt k j a s t o reply → AckAt k' j' a' s' t' o' reply' → ((k ≡ k') × (j ≡ j')) ⊎ ((a ≢ a') × (s ≡ s' → o ≢ o'))
    once_so k j a s t o k' j' a' s' t' o' reply reply' x y = elim (order k k') [
      | inl same ↦ inl (same, same_place k j a s t o j' a' s' t' o' reply reply' x (subst (λ n. AckAt n j' a' s' t' o' reply') (sym same) y))
      | inr other ↦ elim other [
        | inl less ↦
            let both = apart k j a s t o k' j' a' s' t' o' reply reply' less x y in
            inr (differ_below a a' both.0, λ _. differ_below o o' both.1)
        | inr more ↦
            let both = apart k' j' a' s' t' o' k j a s t o reply' reply more y x in
            inr (differ_above a a' both.0, λ _. differ_above o o' both.1)
      ]
    ]

    pub acknowledged : IsAcknowledgedInPlace M blocks es
    acknowledged = record {
      stands = λ k j a s t o reply h. stands_so k j a s t o reply (ack_at k j a s t o reply h);
      once = λ k j a s t o k' j' a' s' t' o' reply reply' h g. once_so k j a s t o k' j' a' s' t' o' reply reply' (ack_at k j a s t o reply h) (ack_at k' j' a' s' t' o' reply' g);
    }

    pub replies_match : IsMachine M → IdsAreSmall M → AskLawfully M es → RepliesMatch M blocks es
    replies_match laws ids lawful k j a s t o reply h =
        let x = ack_at k j a s t o reply h in
        reply_so k j a s t o reply x (told_reply k j a s t o reply x laws ids lawful)

    -- ---- reads

    record ReadAt (k j a s t p : ℕ) (told : List ℕ) : Type 0 where
      event : Event
      here : slice_get es k ≡ Some event
      read : ReadIs M blocks (w k) event (happens M blocks (w k) event) j a t p told
      shard : s ≡ 0

    read_at : (k j a s t p : ℕ) (told : List ℕ) → Reads M blocks es k j a s t p told → ReadAt k j a s t p told
    read_at k j a s t p told h = record {
      event = h.shown.event;
      here = h.shown.here;
      read = read_is M blocks (w k) h.shown.event (happens M blocks (w k) h.shown.event) (sound k).lone (happens_at M blocks es only k h.shown.event h.shown.here) j a t p told h.shown.seen;
      shard = came_to_shard M blocks es only (k + 1) a s h.request h.came;
    }

    -- an answer leads: it is told by a leader, which leads on
    pub read_leads : (k j a s t p : ℕ) (told : List ℕ) → Reads M blocks es k j a s t p told → (l : Leading) × ((w (suc k)).replica.live.leading ≡ Some l) × ((w (suc k)).replica.disk.term ≡ t)
    read_leads k j a s t p told h =
        let x = read_at k j a s t p told h in
        let next = whole_next k x.event x.here x.read.step in (
          _,
          ap (λ (v : World S). v.replica.live.leading) next ∙ x.read.query.leads,
          ap (λ (v : World S). v.replica.disk.term) next ∙ ap (λ (d : DurableState). d.term) x.read.query.still.disk ∙ sym x.read.term,
        )

    module _ (k j a s t p : ℕ) (told : List ℕ) (x : ReadAt k j a s t p told) where
      abbrev kept : List Entry
      kept = (w k).replica.disk.entries

      all : p ≡ length kept
      all = x.read.prefix_is ∙ ((sound k).lone.leader x.read.query.leading x.read.query.was).all

      read_history : (w (k + 1)).history ≡ kept
      read_history =
          ap (λ n. (w n).history) (one_more k) ∙ history_next k x.event x.here x.read.step _ x.read.query.leads
          ∙ ap (λ (d : DurableState). d.entries) x.read.query.still.disk

      answered_by : (w k).replica.live.machine ≡ state_after M (take p (history_at M blocks es (k + 1) 0))
      answered_by = (sound k).lone.value ∙ ap (λ n. state_after M (take n kept)) (sym x.read.prefix_is) ∙ ap (λ xs. state_after M (take p xs)) (sym read_history)

      -- its answer can be written
      told_answer : IsMachine M → IdsAreSmall M → AskLawfully M es → Says M.answers told (answer_after M (history_at M blocks es (k + 1) 0) p x.read.query.query)
      told_answer laws ids lawful =
          let bounded = bounded_at M laws ids blocks es only lawful k in
          let says = answer_says M laws (w k).replica.live.commit (w k).replica.live.machine x.read.query.query told (omega (arith, (sound k).lone.within, bounded.few)) (fits_at M laws ids blocks es only lawful k)
          (lawful k x.read.asked.node 0 x.event (record { write = false; body = x.read.query.bytes }) x.here x.read.asked.asks x.read.query.query x.read.query.asks) x.read.text in
          subst (λ v. Says M.answers told (M.answer v x.read.query.query)) answered_by says

    lower_first : (k k' : ℕ) → (w k').replica.disk.term < (w k).replica.disk.term → suc k' ≤ k
    lower_first k k' below = elim (order k k') [
      | inl same ↦ absurd (omega (arith, below, ap (λ n. (w n).replica.disk.term) same))
      | inr other ↦ elim other [
        | inl less ↦ absurd (omega (arith, below, (later M blocks es only k k' (omega (arith, less))).term))
        | inr more ↦ more
      ]
    ]

    read_later : (k j a s t p m : ℕ) (told : List ℕ) → k ≤ m → ReadAt k j a s t p told → p ≤ length (w m).replica.disk.entries
    read_later k j a s t p m told le x = omega (arith, all k j a s t p told x, starts_longer _ _ (later M blocks es only k m le).entries)

    read_first :
        (k j a t p : ℕ) (told : List ℕ) (x : ReadAt k j a 0 t p told) → Says M.answers told (answer_after M (history_at M blocks es (k + 1) 0) p x.read.query.query) → IsRead M blocks es k a 0 t p told
    read_first k j a t p told x says =
        let reached : p ≡ length (w k).replica.disk.entries = all k j a 0 t p told x in
        record {
          bytes = x.read.query.bytes;
          came = record {
            event = k;
            before = omega arith;
            comes = record { event = x.event; here = x.here; node = x.read.asked.node; asks = x.read.asked.asks; up = x.read.step.up; number = x.read.arrival ∙ x.read.asked.tag_is };
          };
          query = x.read.query.query;
          asks = x.read.query.asks;
          within = omega (arith, reached, ap length (read_history k j a 0 t p told x));
          says = says;
          above_lower = λ k' j' b u o reply g lt.
              let y = ack_at k' j' b 0 u o reply g in
              omega (arith, reached, below_later k' j' b 0 u o reply y k (lower_first k k' (omega (arith, lt, y.ack.term, x.read.term))));
          above_earlier = λ k' j' b o reply lt g.
              let y = ack_at k' j' b 0 t o reply g in
              omega (arith, reached, below_later k' j' b 0 t o reply y k (omega (arith, lt)));
          reaches_lower = λ k' j' b u q other g lt.
              let y = read_at k' j' b 0 u q other g in
              let first : suc k' ≤ k = lower_first k k' (omega (arith, lt, y.read.term, x.read.term)) in
              omega (arith, reached, read_later k' j' b 0 u q k other (omega (arith, first)) y);
          reaches_earlier = λ k' j' b q other lt g.
              let y = read_at k' j' b 0 t q other g in
              omega (arith, reached, read_later k' j' b 0 t q k other (omega (arith, lt)) y);
        }

    pub reads_match : IsMachine M → IdsAreSmall M → AskLawfully M es → ReadsMatch M blocks es
    reads_match laws ids lawful k j a s t p told h =
        let x = read_at k j a s t p told h in
        let y : ReadAt k j a 0 t p told = record { event = x.event; here = x.here; read = x.read; shard = refl } in
        subst (λ z. IsRead M blocks es k a z t p told) (sym x.shard) (read_first k j a t p told y (told_answer k j a 0 t p told y laws ids lawful))

    -- ---- whoever is answered has asked

    came_now : (k a node : ℕ) (e : Event) (q : Request) → slice_get es k ≡ Some e → turn_of e ≡ Some (turn.Client node 0 q) → (w k).power ≡ power.Up → a ≡ (w k).arrivals + 1 → CameBefore M blocks es (k + 1) a 0 q
    came_now k a node e q here asks up number = record { event = k; before = omega arith; comes = record { event = e; here = here; node = node; asks = asks; up = up; number = number } }

    pub answers_have_requests : AnswersHaveRequests M blocks es
    answers_have_requests k j a (outcome.Ack t o reply) h =
        let y = ack_is M blocks (w k) h.event (happens M blocks (w k) h.event) (sound k).lone (happens_at M blocks es only k h.event h.here) j a t o reply h.seen in
        record { shard = 0; request = _; came = came_now k a y.asked.node h.event _ h.here y.asked.asks y.step.up (y.arrival ∙ y.asked.tag_is); kind = tt }
    answers_have_requests k j a (outcome.Read t p told) h =
        let y = read_is M blocks (w k) h.event (happens M blocks (w k) h.event) (sound k).lone (happens_at M blocks es only k h.event h.here) j a t p told h.seen in
        record { shard = 0; request = _; came = came_now k a y.asked.node h.event _ h.here y.asked.asks y.step.up (y.arrival ∙ y.asked.tag_is); kind = tt }
    answers_have_requests k j a (outcome.Refused x) h =
        let y = refusal_is M blocks (w k) h.event (happens M blocks (w k) h.event) (sound k).lone (happens_at M blocks es only k h.event h.here) j a x h.seen in
        record { shard = 0; request = y.asked; came = came_now k a y.node h.event y.asked h.here y.asks y.up y.arrival; kind = either y.asked.write }
      where
        either : (write : Bool) → Suits write (outcome.Refused x)
        either true = tt
        either false = tt

    -- ---- refusals

    event_truly : (v : World S) (a node : ℕ) (q : Request) (x : Refusal) (e : Event) → turn_of e ≡ Some (turn.Client node 0 q) → TurnTruly M blocks v a x (turn.Client node 0 q) → AnswersTruly M blocks v a x e
    event_truly v a node q x (event.Takes t) is h = subst (TurnTruly M blocks v a x) (sym (some_is t _ is)) h
    event_truly v a node q x (event.Cut call image t) is h = subst (TurnTruly M blocks v a x) (sym (some_is t _ is)) h
    event_truly v a node q x (event.Stop m) is h = absurd cc
    event_truly v a node q x (event.Start m) is h = absurd cc
    event_truly v a node q x (event.Lose m) is h = absurd cc
    event_truly v a node q x (event.Fence m z t) is h = absurd cc
    event_truly v a node q x (event.Lead m z t) is h = absurd cc

    pub refusals_are_true : RefusalsAreTrue M blocks es
    refusals_are_true = record {
      answered = λ k j a x h.
          let y = refusal_is M blocks (w k) h.event (happens M blocks (w k) h.event) (sound k).lone (happens_at M blocks es only k h.event h.here) j a x h.seen in
          event_truly (w k) a y.node y.asked x h.event y.asks (y.arrival, y.truly);
      sent = λ k j number n s t to asked x h.
          sent_is M blocks (w k) h.event (happens M blocks (w k) h.event) (sound k).lone j number n s to asked t x (happens_at M blocks es only k h.event h.here) h.seen;
    }

    -- ---- replicas

    is_durable : (v : World S) (n : ℕ) → SoundTo M n v → IsDurable M blocks es v.replica.disk v.history
    is_durable v n h =
        let bare = h.lone.unsaved.count in
        let saved = h.lone.unsaved.saved in
        record { within = omega (arith, bare); saved = rw saved bare }

    drop_none : (n : ℕ) (xs : List Entry) → n ≡ 0 → drop n xs ≡ xs
    drop_none n xs is = rw is (drop_zero xs)
      where
        drop_zero : (ys : List Entry) → drop 0 ys ≡ ys
        drop_zero [] = refl
        drop_zero (y ∷ ys) = refl

    agrees : (v : World S) (n : ℕ) → SoundTo M n v → Agrees M blocks es v.replica v.history
    agrees v n h =
        let bare = h.lone.unsaved.count in
        let first : take v.replica.live.commit v.replica.disk.entries ≡ take v.replica.live.commit v.history = ap (take v.replica.live.commit) h.begins.1 ∙ take-append-le v.replica.live.commit v.history h.begins.0 h.within in
        record {
          within = h.within;
          same = ap (λ m. take m v.replica.disk.entries) (omega (arith, bare)) ∙ first ∙ sym (drop_none v.replica.disk.base.count (take v.replica.live.commit v.history) bare);
          value = h.lone.value ∙ ap (state_after M) first;
        }

    durable_so : (k n s : ℕ) (r : ReplicaState S) → replica_at M blocks es k n s ≡ Some r → IsDurable M blocks es r.disk (history_at M blocks es k s)
    durable_so k zero s r h = absurd cc
    durable_so k (suc zero) (suc s) r h = absurd cc
    durable_so k (suc (suc n)) s r h = absurd cc
    durable_so k (suc zero) zero r h = let is : (w k).replica ≡ r = cc in rw (← is) (is_durable (w k) (w k).arrivals (sound k))

    agree_so : (k n s : ℕ) (r : ReplicaState S) → replica_at M blocks es k n s ≡ Some r → Agrees M blocks es r (history_at M blocks es k s)
    agree_so k zero s r h = absurd cc
    agree_so k (suc zero) (suc s) r h = absurd cc
    agree_so k (suc (suc n)) s r h = absurd cc
    agree_so k (suc zero) zero r h = let is : (w k).replica ≡ r = cc in rw (← is) (agrees (w k) (w k).arrivals (sound k))

    begins_so : (j k s : ℕ) → j ≤ k → Begins (history_at M blocks es j s) (history_at M blocks es k s)
    begins_so j k zero le = (later M blocks es only j k le).history
    begins_so j k (suc s) le = ([], refl)

    pub replicas_agree : ReplicasAgree M blocks es
    replicas_agree = record {
      durable = λ k n s r kept there. durable_so k n s r there;
      agree = λ k n s r up there. agree_so k n s r there;
      grows = begins_so;
    }
