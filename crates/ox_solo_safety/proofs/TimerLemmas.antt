-- A timer that runs out at a leader started anew long enough before.
use Rattle.std.proofs.Common.{◌≡◌, ◌∙◌, ℕ, zero, suc, ◌+◌, ◌<◌, ◌≤◌, List, map, slice_get, Some, ◌⊎◌, inl, inr, refl, sym, ap, subst, arith}
use Rattle.ox_types.specs.declared.log.Entry.{Entry}
use Rattle.ox_types.specs.declared.log.EntryBody.TheVariants as body
use Rattle.ox_types.specs.declared.log.Seat.TheVariants.{Led}
use Rattle.ox_timer.specs.declared.running.Running.{Running}
use Rattle.ox_timer.specs.Timers.{due}
use Rattle.ox_machine.specs.Meaning.{Meaning}
use Rattle.ox_solo_replica.specs.declared.leading.Leading.{Leading}
use Rattle.ox_solo_replica.specs.State.{ReplicaState}
use Rattle.ox_solo_safety.specs.declared.power.Power.TheVariants as power
use Rattle.ox_wire.specs.declared.origin.Cause.TheVariants as cause
use Rattle.ox_wire.specs.Events.{RunEvent as Event}
use Rattle.ox_solo_safety.specs.Moments.{Has, world_at, power_at, Leads, Reads, IsFrom}
use Rattle.ox_solo_safety.specs.Expiry.{HasPass, IsOpen, Keeps, Restarts, IsExpiry}
use Rattle.ox_solo_safety.specs.Expiry.Restarts.{by_pass, by_open, by_keep}
use Rattle.ox_solo_safety.proofs.RunningLemmas.{timer_in, has_made, due_ran_out}

module _ {S C R Q A : Type 0} (M : Meaning S C R Q A) (blocks : ℕ) (es : List Event) where
  abbrev replica : ℕ → ReplicaState S
  replica k = (world_at M blocks es k).replica

  -- the only replica leads, as this leader
  abbrev pub LeadsAt : ℕ → Leading → Type 0
  LeadsAt k l = (replica k).live.leading ≡ Some l

  -- ---- what the steps of a run give

  -- what holds while it leads: it is up and has the seat, the timers that run are the machine's, and its term's Pass is committed
  pub record IsAlone (k : ℕ) (l : Leading) : Type 0 where
    pub up : power_at M blocks es k ≡ power.Up
    pub seat : (replica k).disk.seat ≡ Led
    pub timed : map timer_in l.timers ≡ M.timers (replica k).live.machine
    pub place : ℕ
    pub pass : Entry
    pub stands : slice_get (replica k).disk.entries place ≡ Some pass
    pub committed : pass.offset < (replica k).live.commit
    pub pass_term : pass.term ≡ (replica k).disk.term
    pub is_pass : pass.body ≡ body.Pass

  -- it led before event k in this term, and the timer ran so; no sign of life of it came
  pub record GoesOn (k : ℕ) (r : Running) : Type 0 where
    pub leading : Leading
    pub leads : LeadsAt k leading
    pub same_term : (replica k).disk.term ≡ (replica (suc k)).disk.term
    pub old : Running
    pub has : Has leading.timers old
    pub id_is : old.id ≡ r.id
    pub since_is : old.since ≡ r.since
    pub unkept : (t : ℕ) → ¬ (Keeps M blocks es k 1 0 t r.id)

  -- in a term that it leads or led, it goes on leading or never leads again, and its time goes on
  pub record KeepsSeat (k : ℕ) : Type 0 where
    pub rises : (replica k).disk.term ≤ (replica (suc k)).disk.term
    pub seat : (replica k).disk.term ≡ (replica (suc k)).disk.term → (replica k).disk.seat ≡ Led → (replica (suc k)).disk.seat ≡ Led
    pub goes_on :
        (l : Leading) → (replica k).disk.term ≡ (replica (suc k)).disk.term → (replica k).disk.seat ≡ Led → LeadsAt (suc k) l →
        ((o : Leading) × LeadsAt k o) × ((replica k).live.now ≤ (replica (suc k)).live.now)

  pub record TimerFacts : Type 0 where
    pub first : (l : Leading) → LeadsAt 0 l → (r : Running) → Has l.timers r → r.since ≡ (replica 0).live.now
    pub alone : (k : ℕ) (l : Leading) → LeadsAt k l → IsAlone k l
    pub seats : (k : ℕ) → KeepsSeat k
    pub timers : (k : ℕ) (l : Leading) → LeadsAt (suc k) l → (r : Running) → Has l.timers r → (r.since ≡ (replica (suc k)).live.now) ⊎ GoesOn k r
    -- a read is answered by a leader, which goes on
    pub answers : (k j a s t p : ℕ) (told : List ℕ) → Reads M blocks es k j a s t p told → (l : Leading) × LeadsAt (suc k) l × ((replica (suc k)).disk.term ≡ t)

  module _ (facts : TimerFacts) where
    pub split : (j k : ℕ) → j ≤ suc k → (j ≤ k) ⊎ (j ≡ suc k)
    split j k h = by_lt j k h
      where
        by_lt : (j k : ℕ) → j ≤ suc k → (j ≤ k) ⊎ (j ≡ suc k)
        by_lt zero k h = inl (omega arith)
        by_lt (suc j) zero h = inr (omega (arith, h))
        by_lt (suc j) (suc k) h = elim (by_lt j k (omega (arith, h))) [ inl x ↦ inl (omega (arith, x)) | inr x ↦ inr (ap suc x) ]

    -- since moment m, at which it led: its term is over, or it has the seat, and its time goes on while it leads
    record Stays (m k : ℕ) : Type 0 where
      rises : (replica m).disk.term ≤ (replica k).disk.term
      seat : (replica m).disk.term ≡ (replica k).disk.term → (replica k).disk.seat ≡ Led
      time : (l : Leading) → (replica m).disk.term ≡ (replica k).disk.term → LeadsAt k l → (replica m).live.now ≤ (replica k).live.now

    stays_first : (m : ℕ) (l : Leading) → LeadsAt m l → Stays m m
    stays_first m l leads = record {
      rises = omega arith;
      seat = λ _. (facts.alone m l leads).seat;
      time = λ _ _ _. omega arith;
    }

    stays_next : (m k : ℕ) → Stays m k → Stays m (suc k)
    stays_next m k stays = record {
      rises = omega (arith, stays.rises, (facts.seats k).rises);
      seat = λ same.
          let now = same_now same in
          (facts.seats k).seat now (stays.seat (same ∙ sym now));
      time = λ l same leads.
          let now = same_now same in
          let on = (facts.seats k).goes_on l now (stays.seat (same ∙ sym now)) leads in
          omega (arith, stays.time on.0.0 (same ∙ sym now) on.0.1, on.1);
    }
      where
        same_now : (replica m).disk.term ≡ (replica (suc k)).disk.term → (replica k).disk.term ≡ (replica (suc k)).disk.term
        same_now same = omega (arith, same, stays.rises, (facts.seats k).rises)

    stays_at : (m k : ℕ) (l : Leading) → LeadsAt m l → m ≤ k → Stays m k
    stays_at m zero l leads h = let is : m ≡ 0 = omega (arith, h) in subst (λ n. Stays m n) is (stays_first m l leads)
    stays_at m (suc k) l leads h = elim (split m k h) [
      | inl lower ↦ stays_next m k (stays_at m k l leads lower)
      | inr same ↦ subst (λ n. Stays m n) same (stays_first m l leads)
    ]

    -- a moment at which a timer starts anew is one at which the node leads that term
    record LedThen (m t : ℕ) : Type 0 where
      leading : Leading
      leads : LeadsAt m leading
      term : (replica m).disk.term ≡ t

    led_so : (m n s t : ℕ) (r : ReplicaState S) (l : Leading) → Leads M blocks es m 1 0 t r l → LedThen m t
    led_so m n s t r l h =
        let is : replica m ≡ r = (let e = h.there in cc) in
        record { leading = l; leads = ap (λ (x : ReplicaState S). x.live.leading) is ∙ h.leads; term = ap (λ (x : ReplicaState S). x.disk.term) is ∙ h.term_is }

    led_then : (m t id : ℕ) → Restarts M blocks es m 1 0 t id → LedThen m t
    led_then m t id (by_pass has first) = led_so m 1 0 t has.replica has.leading has.leads
    led_then m t id (by_open j r l behind leads closed opened) = led_so m 1 0 t r l leads
    led_then m t id (by_keep k behind keeps) =
        let on = facts.answers k keeps.effect keeps.arrival 0 t keeps.prefix keeps.answer keeps.answered in
        let is : m ≡ suc k = omega (arith, behind) in
        subst (λ n. LedThen n t) (sym is) (record { leading = on.0; leads = on.1; term = on.2 })

    -- it led then and leads now, in one term: its time went on
    time_goes_on : (m k t id : ℕ) (l : Leading) → m ≤ k → LeadsAt k l → (replica k).disk.term ≡ t → Restarts M blocks es m 1 0 t id → (replica m).live.now ≤ (replica k).live.now
    time_goes_on m k t id l le leads term restart =
        let then = led_then m t id restart in
        (stays_at m k then.leading then.leads le).time l (then.term ∙ sym term) leads

    -- ---- a timer that goes on started anew no later

    abbrev pub AreSince : ℕ → Type 0
    AreSince k =
        (l : Leading) → LeadsAt k l → (r : Running) → Has l.timers r → (m : ℕ) → m ≤ k → Restarts M blocks es m 1 0 (replica k).disk.term r.id →
        (replica m).live.now ≤ r.since

    has_pass : (k t : ℕ) (l : Leading) → LeadsAt k l → (replica k).disk.term ≡ t → HasPass M blocks es k 1 0 t
    has_pass k t l leads term =
        let alone = facts.alone k l leads in
        record {
          replica = replica k;
          leading = l;
          leads = record { up = alone.up; there = refl; leads = leads; term_is = term };
          place = alone.place;
          entry = alone.pass;
          stands = alone.stands;
          committed = alone.committed;
          entry_term = alone.pass_term ∙ term;
          pass = alone.is_pass;
        }

    runs_open : (k : ℕ) (l : Leading) → LeadsAt k l → (r : Running) → Has l.timers r → IsOpen M blocks es k 1 0 r.id
    runs_open k l leads r h = record {
      replica = replica k;
      there = refl;
      timer = timer_in r;
      runs = (h.0, sym (ap (λ ts. slice_get ts h.0) (facts.alone k l leads).timed) ∙ has_made timer_in l.timers h.0 r h.1);
      id_is = refl;
    }

    -- just behind event k nothing starts the timer anew that went on
    no_restart : (k m t : ℕ) (r : Running) (on : GoesOn k r) → m ≡ suc k → (replica k).disk.term ≡ t → Restarts M blocks es m 1 0 t r.id → ⊥
    no_restart k m t r on is term (by_pass has first) = first k (omega (arith, is)) (has_pass k t on.leading on.leads term)
    no_restart k m t r on is term (by_open j x l behind leads closed opened) =
        let same : j ≡ k = omega (arith, is, behind) in
        closed (rw same (subst (λ id. IsOpen M blocks es k 1 0 id) on.id_is (runs_open k on.leading on.leads on.old on.has)))
    no_restart k m t r on is term (by_keep j behind keeps) =
        let same : j ≡ k = omega (arith, is, behind) in
        on.unkept t (let there = rw same at keeps in there)

    since_next : (k : ℕ) → AreSince k → AreSince (suc k)
    since_next k since l leads r h m le restart = elim (facts.timers k l leads r h) [
      | inl now ↦ omega (arith, now, time_goes_on m (suc k) (replica (suc k)).disk.term r.id l le leads refl restart)
      | inr on ↦ elim (split m k le) [
        | inl lower ↦
            let back : Restarts M blocks es m 1 0 (replica k).disk.term on.old.id = (let x = restart in rw (on.same_term, on.id_is) x) in
            omega (arith, on.since_is, since on.leading on.leads on.old on.has m lower back)
        | inr same ↦ absurd (no_restart k m (replica (suc k)).disk.term r on same on.same_term restart)
      ]
    ]

    since_first : AreSince 0
    since_first l leads r h m le restart =
        let is : m ≡ 0 = omega (arith, le) in
        rw is (omega (arith, facts.first l leads r h))

    pub since_at : (k : ℕ) → AreSince k
    since_at zero = since_first
    since_at (suc k) = since_next k (since_at k)

    -- ---- the expiry of a session

    -- in event k the leader kept the entry as the expiry of the timer that was due at this time
    pub record Expires (k id : ℕ) (e : Entry) : Type 0 where
      pub leading : Leading
      pub leads : LeadsAt k leading
      pub due_is : due e.time leading.timers ≡ Some id
      pub term_is : e.term ≡ (replica k).disk.term
      pub body_is : e.body ≡ body.Command (M.commands.text (M.expiry id))
      pub new : ¬ (IsFrom M blocks es k 0 e (cause.Expiry id)) × IsFrom M blocks es (k + 1) 0 e (cause.Expiry id)

    pub expiry_is : (k j id : ℕ) (e : Entry) → k + 1 ≤ j → Expires k id e → IsExpiry M blocks es j 0 e id
    expiry_is k j id e le x =
        let alone = facts.alone k x.leading x.leads in
        let one = due_ran_out e.time id x.leading.timers x.due_is in
        record {
          command = x.body_is;
          kept = k;
          before = le;
          new = x.new;
          node = 1;
          leader = replica k;
          leading = x.leading;
          leads = record { up = alone.up; there = refl; leads = x.leads; term_is = sym x.term_is };
          timer = timer_in one.0;
          runs = (one.1.0, sym (ap (λ ts. slice_get ts one.1.0) alone.timed) ∙ has_made timer_in x.leading.timers one.1.0 one.0 one.1.1);
          id_is = one.2;
          ran_out = λ m then le' restart there.
              let is : replica m ≡ then = (let e = there in cc) in
              let back : Restarts M blocks es m 1 0 (replica k).disk.term one.0.id = (let y = restart in rw (sym x.term_is, one.2) y) in
              let since = since_at k x.leading x.leads one.0 one.1 m le' back in
              omega (arith, since, one.3, ap (λ (y : ReplicaState S). y.live.now) is);
        }
