-- What holds of each world of a run of a node that is alone.
use Rattle.std.proofs.Common.{◌≡◌, ◌∙◌, ℕ, ◌+◌, ◌-◌, ◌≤◌, List, [], ◌∷◌, ◌++◌, length, take, drop, slice_get, Option, Some, None, refl, sym, ap, subst, arith, append-nil, append_assoc, length-append, inl, inr}
use Rattle.std.proofs.Math.Seq.{take_all}
use Rattle.ox_types.specs.declared.log.Entry.{Entry}
use Rattle.ox_types.specs.declared.durable.Action.{Action}
use Rattle.ox_machine.specs.Meaning.{Meaning}
use Rattle.ox_solo_replica.specs.declared.input.Input.{Input}
use Rattle.ox_solo_replica.specs.declared.leading.Leading.{Leading}
use Rattle.ox_solo_replica.specs.State.{ReplicaState}
use Rattle.ox_solo_replica.specs.Step.{Stepped}
use Rattle.ox_solo_replica.specs.Tick.{time_at}
use Rattle.ox_timer.specs.Timers.{due}
use Rattle.ox_solo_safety.specs.declared.power.Power.TheVariants as power
use Rattle.ox_wire.specs.declared.origin.Cause.{Cause}
use Rattle.ox_wire.specs.declared.origin.Cause.TheVariants as cause
use Rattle.ox_wire.specs.declared.origin.Origin.{Origin}
use Rattle.ox_wire.specs.Events.{RunEvent as Event}
use Rattle.ox_solo_safety.specs.World.{World, reopened}
use Rattle.ox_solo_safety.specs.Run.{Happened, appended, origin_of, origins_of, expiry_cause, tick_cause, cause_at, grown_by, whole}
use Rattle.ox_wire.specs.Origins.{AreInStep}
use Rattle.ox_solo_safety.specs.Moments.{Begins}
use Rattle.ox_solo_safety.proofs.ListLemmas.{get_more, get_within, drop_last, longer_by_one}
use Rattle.ox_solo_safety.proofs.StepLemmas.{IsLone, step_is}
use Rattle.ox_solo_safety.proofs.LoneLemmas.{Appends, StaysLone, stays_lone, reopened_lone}
use Rattle.ox_solo_safety.proofs.LoneLemmas.Appends.{none, one}
use Rattle.ox_solo_safety.proofs.EventLemmas.{step_at, Gives, IsFall, IsIdle, Happens}
use Rattle.ox_solo_safety.proofs.EventLemmas.Gives.{request, message, tick}
use Rattle.ox_solo_safety.proofs.EventLemmas.Happens.{steps, cut_behind, falls, idles}

-- ---- a log and the origins of its entries

-- The origins are those of the entries, one by one; so many requests have come, and none stands there twice.
pub record IsLogged (entries : List Entry) (origins : List Origin) (arrivals : ℕ) : Type 0 where
  pub long : length origins ≡ length entries
  pub steps : AreInStep entries origins
  pub bound : (i a : ℕ) (x : Origin) → slice_get origins i ≡ Some x → x.cause ≡ cause.Arrival a → a ≤ arrivals
  pub once : (i j a : ℕ) (x y : Origin) → slice_get origins i ≡ Some x → slice_get origins j ≡ Some y → x.cause ≡ cause.Arrival a → y.cause ≡ cause.Arrival a → i ≡ j

-- a cause that is an arrival is one of the new ones
abbrev pub IsNew : ℕ → ℕ → Cause → Type 0
IsNew n m x = (a : ℕ) → x ≡ cause.Arrival a → (n + 1 ≤ a) × (a ≤ m)

logged_later : (entries : List Entry) (origins : List Origin) (n m : ℕ) → n ≤ m → IsLogged entries origins n → IsLogged entries origins m
logged_later entries origins n m le h = record { long = h.long; steps = h.steps; bound = λ i a x g e. omega (arith, h.bound i a x g e, le); once = h.once }

module _ (entries : List Entry) (origins : List Origin) (n m : ℕ) (y : Cause) (e : Entry) (le : n ≤ m) (new : IsNew n m y) (at_end : e.offset ≡ length entries) (h : IsLogged entries origins n) where
  abbrev o : Origin
  o = origin_of 0 y e

  entry_place : (i : ℕ) (d : Entry) → slice_get (entries ++ e ∷ []) i ≡ Some d → d.offset ≡ i
  entry_place i d g = elim (get_more entries e d i g) [
    | inl k ↦ h.steps.entry i d k
    | inr p ↦ sym (ap (λ (z : Entry). z.offset) p.1) ∙ at_end ∙ sym p.0
  ]

  origin_place : (i : ℕ) (x : Origin) → slice_get (origins ++ o ∷ []) i ≡ Some x → (x.shard ≡ 0) × (x.offset ≡ i)
  origin_place i x g = elim (get_more origins o x i g) [
    | inl k ↦ h.steps.origin i x k
    | inr p ↦ (sym (ap (λ (z : Origin). z.shard) p.1), sym (ap (λ (z : Origin). z.offset) p.1) ∙ at_end ∙ sym h.long ∙ sym p.0)
  ]

  terms : (i : ℕ) (d : Entry) (x : Origin) → slice_get (entries ++ e ∷ []) i ≡ Some d → slice_get (origins ++ o ∷ []) i ≡ Some x → x.term ≡ d.term
  terms i d x g f = elim (get_more entries e d i g) [
    | inl k ↦ elim (get_more origins o x i f) [
      | inl l ↦ h.steps.term i d x k l
      | inr q ↦ absurd (omega (arith, q.0, h.long, get_within entries d i k))
    ]
    | inr p ↦ elim (get_more origins o x i f) [
      | inl l ↦ absurd (omega (arith, p.0, h.long, get_within origins x i l))
      | inr q ↦ sym (ap (λ (z : Origin). z.term) q.1) ∙ ap (λ (z : Entry). z.term) p.1
    ]
  ]

  new_arrival : (x : Origin) (a : ℕ) → o ≡ x → x.cause ≡ cause.Arrival a → (n + 1 ≤ a) × (a ≤ m)
  new_arrival x a p e = new a (ap (λ (z : Origin). z.cause) p ∙ e)

  bounds : (i a : ℕ) (x : Origin) → slice_get (origins ++ o ∷ []) i ≡ Some x → x.cause ≡ cause.Arrival a → a ≤ m
  bounds i a x g f = elim (get_more origins o x i g) [
    | inl k ↦ omega (arith, h.bound i a x k f, le)
    | inr p ↦ (new_arrival x a p.1 f).1
  ]

  only_once : (i j a : ℕ) (x z : Origin) → slice_get (origins ++ o ∷ []) i ≡ Some x → slice_get (origins ++ o ∷ []) j ≡ Some z → x.cause ≡ cause.Arrival a → z.cause ≡ cause.Arrival a → i ≡ j
  only_once i j a x z g k c d = elim (get_more origins o x i g) [
    | inl p ↦ elim (get_more origins o z j k) [
      | inl q ↦ h.once i j a x z p q c d
      | inr q ↦ absurd (omega (arith, h.bound i a x p c, (new_arrival z a q.1 d).0))
    ]
    | inr p ↦ elim (get_more origins o z j k) [
      | inl q ↦ absurd (omega (arith, h.bound j a z q d, (new_arrival x a p.1 c).0))
      | inr q ↦ p.0 ∙ sym q.0
    ]
  ]

  logged_one : IsLogged (entries ++ e ∷ []) (origins ++ o ∷ []) m
  logged_one = record {
    long = omega (arith, longer_by_one origins o, longer_by_one entries e, h.long);
    steps = record {
      enough = omega (arith, longer_by_one origins o, longer_by_one entries e, h.long);
      entry = entry_place;
      origin = origin_place;
      term = terms;
    };
    bound = bounds;
    once = only_once;
  }

-- a log that a batch makes longer
logged_more : (entries : List Entry) (origins : List Origin) (n m : ℕ) (y : Cause) (kept : List Action) → n ≤ m → IsNew n m y → Appends entries kept → IsLogged entries origins n
    → IsLogged (entries ++ appended kept) (origins ++ origins_of 0 y kept) m
logged_more entries origins n m y kept le new (none nothing) h = rw (nothing, append-nil entries, append-nil origins) (logged_later entries origins n m le h)
logged_more entries origins n m y kept le new (one e only at_end) h = rw only (logged_one entries origins n m y e le new at_end h)

module _ {S C R Q A : Type 0} (M : Meaning S C R Q A) where
  -- The replica is alone; the history begins its log, and reaches what is committed; each entry of the log has its origin;
  -- and only a node that is up leads.
  pub record SoundTo (arrivals : ℕ) (w : World S) : Type 0 where
    pub lone : IsLone M w.replica
    pub begins : Begins w.history w.replica.disk.entries
    pub within : w.replica.live.commit ≤ length w.history
    pub logged : IsLogged w.replica.disk.entries w.origins arrivals
    pub up : (l : Leading) → w.replica.live.leading ≡ Some l → w.power ≡ power.Up

  abbrev pub IsSound : World S → Type 0
  IsSound w = SoundTo w.arrivals w

  -- the history of one that leads is its log
  pub history_whole : (w : World S) (n : ℕ) → SoundTo n w → w.replica.live.commit ≡ length w.replica.disk.entries → w.history ≡ w.replica.disk.entries
  history_whole w n sound all =
      let b = sound.begins in
      let long : length w.replica.disk.entries ≡ length w.history + length b.0 = ap length b.1 ∙ length-append w.history b.0 in
      let empty : b.0 ≡ [] = no_more b.0 (omega (arith, long, all, sound.within)) in
      sym (b.1 ∙ ap (λ xs. w.history ++ xs) empty ∙ append-nil w.history)
    where
      no_more : (xs : List Entry) → length xs ≤ 0 → xs ≡ []
      no_more [] h = refl
      no_more (x ∷ xs) h = absurd (omega (arith, h))

  -- ---- the history behind a step

  -- the history and the log behind it
  record IsReached (r : ReplicaState S) (h : List Entry) : Type 0 where
    begins : Begins h r.disk.entries
    within : r.live.commit ≤ length h

  -- what begins the log begins it behind a step
  begins_on : (r : ReplicaState S) (o : Stepped S) (h : List Entry) → StaysLone M r o → Begins h r.disk.entries → Begins h o.state.disk.entries
  begins_on r o h stays begins = (begins.0 ++ appended o.kept, stays.grows ∙ ap (λ xs. xs ++ appended o.kept) begins.1 ∙ append_assoc h begins.0 (appended o.kept))

  reached_none : (r : ReplicaState S) (o : Stepped S) (h : List Entry) → StaysLone M r o → IsReached r h → o.state.live.leading ≡ None → IsReached o.state h
  reached_none r o h stays reached is = record {
    begins = begins_on r o h stays reached.begins;
    within = omega (arith, stays.commits is, reached.within);
  }

  -- one that leads makes all of its log the history
  grown_all : (r : ReplicaState S) (h : List Entry) (l : Leading) → IsLone M r → Begins h r.disk.entries → r.live.leading ≡ Some l → grown_by h r (Some l) ≡ r.disk.entries
  grown_all r h l lone begins is =
      let lead = lone.leader l is in
      let bare = lone.unsaved.count in
      let long : length r.disk.entries ≡ length h + length begins.0 = ap length begins.1 ∙ length-append h begins.0 in
      let rest : drop (length h - r.disk.base.count) r.disk.entries ≡ begins.0 = ap (drop (length h - r.disk.base.count)) begins.1 ∙ drop_last (length h - r.disk.base.count) h begins.0 (omega (arith, bare)) in
      ap (λ xs. h ++ take (r.live.commit - length h) xs) rest ∙ ap (λ xs. h ++ xs) (take_all (r.live.commit - length h) begins.0 (omega (arith, long, lead.all))) ∙ sym begins.1

  reached_by : (r : ReplicaState S) (o : Stepped S) (h : List Entry) (p : Option Leading) → StaysLone M r o → IsReached r h → o.state.live.leading ≡ p → IsReached o.state (grown_by h o.state p)
  reached_by r o h None stays reached is = reached_none r o h stays reached is
  reached_by r o h (Some l) stays reached is =
      let begins : Begins h o.state.disk.entries = begins_on r o h stays reached.begins in
      let all : grown_by h o.state (Some l) ≡ o.state.disk.entries = grown_all o.state h l stays.lone begins is in
      subst (IsReached o.state) (sym all) (record { begins = ([], sym (append-nil o.state.disk.entries)); within = omega (arith, (stays.lone.leader l is).all) })

  -- ---- causes

  due_new : (n m : ℕ) (x : Option ℕ) → IsNew n m (expiry_cause x)
  due_new n m None a e = absurd cc
  due_new n m (Some id) a e = absurd cc

  tick_new : (r : ReplicaState S) (ms n m : ℕ) (l : Option Leading) → IsNew n m (tick_cause r ms l)
  tick_new r ms n m None a e = absurd cc
  tick_new r ms n m (Some l) a e = due_new n m (due (time_at r.live ms).now l.timers) a e

  arrival_is : (a b : ℕ) → cause.Arrival a ≡ cause.Arrival b → a ≡ b
  arrival_is a b e = cc

  opening_new : (n m : ℕ) → IsNew n m cause.Opening
  opening_new n m a e = absurd cc

  module _ (blocks : ℕ) (w : World S) (e : Event) where
    cause_new : (i : Input) (n : ℕ) → Gives M blocks w e i n → IsNew w.arrivals n (cause_at w.replica i)
    cause_new i n (request node q is i_is n_is) = rw i_is (λ a e. let same = arrival_is (w.arrivals + 1) a e in (omega (arith, same), omega (arith, same, n_is)))
    cause_new i n (message number m is there i_is n_is) = rw i_is (opening_new w.arrivals n)
    cause_new i n (tick node ms is i_is n_is) = rw i_is (tick_new w.replica ms w.arrivals n w.replica.live.leading)

    pub count_next : (i : Input) (n : ℕ) → Gives M blocks w e i n → (w.arrivals ≤ n) × (n ≤ w.arrivals + 1)
    count_next i n (request node q is i_is n_is) = (omega (arith, n_is), omega (arith, n_is))
    count_next i n (message number m is there i_is n_is) = (omega (arith, n_is), omega (arith, n_is))
    count_next i n (tick node ms is i_is n_is) = (omega (arith, n_is), omega (arith, n_is))

    module _ (sound : IsSound w) where
      -- what a step of its replica leaves
      pub stays_at : (i : Input) → StaysLone M w.replica (step_at M blocks w i)
      stays_at i = stays_lone M w.replica (step_at M blocks w i) sound.lone blocks i (step_is M blocks w.replica sound.lone i)

      logged_next : (i : Input) (n : ℕ) → Gives M blocks w e i n
          → IsLogged (step_at M blocks w i).state.disk.entries (w.origins ++ origins_of 0 (cause_at w.replica i) (step_at M blocks w i).kept) n
      logged_next i n gives =
          let stays = stays_at i in
          let o : Stepped S = step_at M blocks w i in
          rw stays.grows (logged_more w.replica.disk.entries w.origins w.arrivals n (cause_at w.replica i) o.kept (count_next i n gives).0 (cause_new i n gives) stays.appends sound.logged)

      whole_sound : (i : Input) (n : ℕ) → Gives M blocks w e i n → w.power ≡ power.Up → SoundTo n (whole M blocks (record w { arrivals = n }) 0 (cause_at w.replica i) (step_at M blocks w i))
      whole_sound i n gives up =
          let stays = stays_at i in
          let o : Stepped S = step_at M blocks w i in
          let reached = reached_by w.replica o w.history o.state.live.leading stays (record { begins = sound.begins; within = sound.within }) refl in
          record { lone = stays.lone; begins = reached.begins; within = reached.within; logged = logged_next i n gives; up = λ _ _. up }

      never : (l : Leading) → None ≡ Some l → ⊥
      never l is = cc

      behind_sound : (h : World S) (i : Input) (n : ℕ) → Gives M blocks w e i n → h.replica ≡ reopened M (step_at M blocks w i).state.disk → h.history ≡ w.history
          → h.origins ≡ w.origins ++ origins_of 0 (cause_at w.replica i) (step_at M blocks w i).kept → SoundTo n h
      behind_sound h i n gives replica history origins =
          let stays = stays_at i in
          let o : Stepped S = step_at M blocks w i in
          let bare = stays.lone.unsaved.count in
          record {
            lone = rw replica (reopened_lone M o.state.disk stays.lone.unsaved);
            begins = rw (replica, history) (begins_on w.replica o w.history stays sound.begins);
            within = rw replica (omega (arith, bare));
            logged = rw (replica, origins) (logged_next i n gives);
            up = λ l is. absurd (never l (rw replica at is));
          }

      fall_sound : (h : Happened S) → IsFall M blocks w h → SoundTo h.world.arrivals h.world
      fall_sound h fall =
          let bare = sound.lone.unsaved.count in
          let replica = fall.replica in
          record {
            lone = rw replica (reopened_lone M w.replica.disk sound.lone.unsaved);
            begins = rw (replica, fall.history) sound.begins;
            within = rw replica (omega (arith, bare));
            logged = rw (replica, fall.origins) (logged_later w.replica.disk.entries w.origins w.arrivals h.world.arrivals fall.arrivals.0 sound.logged);
            up = λ l is. absurd (never l (rw replica at is));
          }

      idle_sound : (h : Happened S) → IsIdle M blocks w h → SoundTo h.world.arrivals h.world
      idle_sound h idle =
          let replica = idle.replica in
          record {
            lone = rw replica sound.lone;
            begins = rw (replica, idle.history) sound.begins;
            within = rw (replica, idle.history) sound.within;
            logged = rw (replica, idle.origins, idle.arrivals) sound.logged;
            up = λ l is. idle.up (sound.up l (rw replica at is));
          }

      pub next_sound : (h : Happened S) → Happens M blocks w e h → IsSound h.world
      next_sound h (steps step) = rw step.world (whole_sound step.input step.count step.gives step.up)
      next_sound h (cut_behind step) =
          let count : h.world.arrivals ≡ step.count = ap (λ (v : World S). v.arrivals) step.world in
          subst (λ (n : ℕ). SoundTo n h.world) (sym count)
          (behind_sound h.world step.input step.count step.gives (ap (λ (v : World S). v.replica) step.world) (ap (λ (v : World S). v.history) step.world) (ap (λ (v : World S). v.origins) step.world))
      next_sound h (falls fall) = fall_sound h fall
      next_sound h (idles idle) = idle_sound h idle
