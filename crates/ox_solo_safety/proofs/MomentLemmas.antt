-- The moments of a run of a node that is alone: each is sound, and of each the next one goes on.
use Rattle.std.proofs.Common.{◌≡◌, ◌∙◌, ℕ, zero, suc, ◌+◌, ◌≤◌, Bool, true, false, List, [], ◌∷◌, ◌++◌, length, take, slice_get, Option, Some, None, inl, inr, refl, sym, ap, subst, arith, append-nil, append_assoc, length-append}
use Rattle.std.specs.Prelude.{nat_lt}
use Rattle.std.proofs.lemmas.Bool.{cond_both}
use Rattle.std.proofs.lemmas.Grind.{common_steps}
use Rattle.ox_types.specs.declared.log.Entry.{Entry}
use Rattle.ox_machine.specs.Meaning.{Meaning}
use Rattle.ox_machine.specs.Store.{state_after}
use Rattle.ox_solo_replica.specs.declared.input.Input.{Input}
use Rattle.ox_solo_replica.specs.declared.input.Input.TheVariants as input
use Rattle.ox_solo_replica.specs.declared.leading.Leading.{Leading}
use Rattle.ox_solo_replica.specs.Cutting.{calls_of, stands_at}
use Rattle.ox_solo_replica.specs.State.{ReplicaState}
use Rattle.ox_solo_replica.specs.Step.{Stepped}
use Rattle.ox_solo_safety.specs.declared.power.Power.{Power}
use Rattle.ox_solo_safety.specs.declared.power.Power.TheVariants as power
use Rattle.ox_wire.specs.declared.origin.Cause.{Cause}
use Rattle.ox_wire.specs.declared.origin.Cause.TheVariants as cause
use Rattle.ox_wire.specs.declared.origin.Origin.{Origin}
use Rattle.ox_wire.specs.declared.event.Request.{Request}
use Rattle.ox_wire.specs.Events.{RunTurn as Turn, RunEvent as Event, stands}
use Rattle.ox_wire.specs.declared.event.Turn.TheVariants as turn
use Rattle.ox_wire.specs.declared.event.Event.TheVariants as event
use Rattle.ox_solo_safety.specs.World.{World, opening_pass, opening_leading, opening_replica, opening_world}
use Rattle.ox_solo_safety.specs.Run.{Happened, Knife, appended, origin_of, origins_of, cause_at, grown_by, takes_whole, cuts, if_up, under, comes, takes, happens, world_after, IsOfOneNode, AreOfOneNode}
use Rattle.ox_solo_safety.specs.Run.{Knife as knife}
use Rattle.ox_solo_safety.specs.Moments.{Begins, turn_of, world_at, ComesAs, CameBefore}
use Rattle.ox_solo_safety.proofs.RunningLemmas.{timed_started}
use Rattle.ox_solo_safety.proofs.ListLemmas.{split, some_is}
use Rattle.ox_solo_safety.proofs.StepLemmas.{IsLoneLeader}
use Rattle.ox_solo_safety.proofs.LoneLemmas.{StaysLone}
use Rattle.ox_solo_safety.proofs.EventLemmas.{step_at, AreOfShard, Happens, happens_is, shards_next}
use Rattle.ox_solo_safety.proofs.EventLemmas.Happens.{steps, cut_behind, falls, idles}
use Rattle.ox_solo_safety.proofs.SoundLemmas.{IsSound, count_next, stays_at, next_sound}

-- one list begins the other
abbrev pub Starts : {X : Type 0} → List X → List X → Type 0
Starts {X = X} xs ys = (rest : List X) × (ys ≡ xs ++ rest)

starts_same : {X : Type 0} (xs ys : List X) → ys ≡ xs → Starts xs ys
starts_same xs ys is = ([], is ∙ sym (append-nil xs))

starts_then : {X : Type 0} (xs ys zs : List X) → Starts xs ys → Starts ys zs → Starts xs zs
starts_then xs ys zs a b = (a.0 ++ b.0, b.1 ∙ ap (λ t. t ++ b.0) a.1 ∙ append_assoc xs a.0 b.0)

pub starts_longer : {X : Type 0} (xs ys : List X) → Starts xs ys → length xs ≤ length ys
starts_longer xs ys b = omega (arith, ap length b.1, length-append xs b.0)

-- From one world to a later one no term falls, and the history, the log, its origins and the arrivals only grow.
pub record GoesOn {S : Type 0} (w v : World S) : Type 0 where
  pub term : w.replica.disk.term ≤ v.replica.disk.term
  pub history : Begins w.history v.history
  pub entries : Starts w.replica.disk.entries v.replica.disk.entries
  pub origins : Starts w.origins v.origins
  pub arrivals : w.arrivals ≤ v.arrivals

goes_on_same : {S : Type 0} (w : World S) → GoesOn w w
goes_on_same w = record { term = omega arith; history = ([], sym (append-nil w.history)); entries = starts_same _ _ refl; origins = starts_same _ _ refl; arrivals = omega arith }

goes_on_then : {S : Type 0} (u v w : World S) → GoesOn u v → GoesOn v w → GoesOn u w
goes_on_then u v w a b = record {
  term = omega (arith, a.term, b.term);
  history = starts_then u.history v.history w.history a.history b.history;
  entries = starts_then _ _ _ a.entries b.entries;
  origins = starts_then _ _ _ a.origins b.origins;
  arrivals = omega (arith, a.arrivals, b.arrivals);
}

grown_starts : {S : Type 0} (h : List Entry) (r : ReplicaState S) (l : Option Leading) → Begins h (grown_by h r l)
grown_starts h r None = ([], sym (append-nil h))
grown_starts h r (Some l) = (_, refl)

module _ {S C R Q A : Type 0} (M : Meaning S C R Q A) (blocks : ℕ) where
  next_goes_on : (w : World S) (e : Event) (h : Happened S) → IsSound M w → Happens M blocks w e h → GoesOn w h.world
  next_goes_on w e h sound (steps step) =
      let o : Stepped S = step_at M blocks w step.input in
      let stays : StaysLone M w.replica o = stays_at M blocks w e sound step.input in
      rw step.world (record {
        term = stays.rises;
        history = grown_starts w.history o.state o.state.live.leading;
        entries = (appended o.kept, stays.grows);
        origins = (origins_of 0 (cause_at w.replica step.input) o.kept, refl);
        arrivals = (count_next M blocks w e step.input step.count step.gives).0;
      })
  next_goes_on w e h sound (cut_behind step) =
      let o : Stepped S = step_at M blocks w step.input in
      let stays : StaysLone M w.replica o = stays_at M blocks w e sound step.input in
      rw step.world (record {
        term = stays.rises;
        history = ([], sym (append-nil w.history));
        entries = (appended o.kept, stays.grows);
        origins = (origins_of 0 (cause_at w.replica step.input) o.kept, refl);
        arrivals = (count_next M blocks w e step.input step.count step.gives).0;
      })
  next_goes_on w e h sound (falls fall) = record {
    term = omega (arith, ap (λ (r : ReplicaState S). r.disk.term) fall.replica);
    history = starts_same w.history h.world.history fall.history;
    entries = starts_same _ _ (ap (λ (r : ReplicaState S). r.disk.entries) fall.replica);
    origins = starts_same _ _ fall.origins;
    arrivals = fall.arrivals.0;
  }
  next_goes_on w e h sound (idles idle) = record {
    term = omega (arith, ap (λ (r : ReplicaState S). r.disk.term) idle.replica);
    history = starts_same w.history h.world.history idle.history;
    entries = starts_same _ _ (ap (λ (r : ReplicaState S). r.disk.entries) idle.replica);
    origins = starts_same _ _ idle.origins;
    arrivals = omega (arith, idle.arrivals);
  }

  -- ---- a request that comes is counted

  cut_counts : (v : World S) (i : Input) (test : Bool) → (cuts M blocks v 0 (cause_at v.replica i) (step_at M blocks v i) test).world.arrivals ≡ v.arrivals
  cut_counts v i true = refl
  cut_counts v i false = refl

  under_counts : (v : World S) (s : ℕ) (k : Knife) (x : Cause) (o : Stepped S) → (under M blocks v s k x o).world.arrivals ≡ v.arrivals
  under_counts v s knife.Free x o = refl
  under_counts v s (knife.At call image) x o = cond_both (nat_lt (calls_of o.kept) call) (takes_whole M blocks v s (knife.At call image) x o) (cuts M blocks v s x o (stands_at call (stands image))) (λ (h : Happened S). h.world.arrivals ≡ v.arrivals)
      (λ _. refl) (λ _. by_test (stands_at call (stands image)))
    where
      by_test : (test : Bool) → (cuts M blocks v s x o test).world.arrivals ≡ v.arrivals
      by_test true = refl
      by_test false = refl

  takes_counts : (w : World S) (k : Knife) (t : Turn) (n s : ℕ) (q : Request) → w.power ≡ power.Up → t ≡ turn.Client n s q → (takes M blocks w k t).world.arrivals ≡ w.arrivals + 1
  takes_counts w k t n s q up is =
      rw is (ap (λ (p : Power). (if_up w p (comes M blocks w s q k)).world.arrivals) up
      ∙ under_counts (record w { arrivals = w.arrivals + 1 }) s k (cause.Arrival (w.arrivals + 1)) (step_at M blocks w (input.Client (w.arrivals + 1) q.write q.body)))

  counts : (w : World S) (e : Event) (n s : ℕ) (q : Request) → w.power ≡ power.Up → turn_of e ≡ Some (turn.Client n s q) → (happens M blocks w e).world.arrivals ≡ w.arrivals + 1
  unfolding happens
  counts w (event.Takes t) n s q up is = takes_counts w knife.Free t n s q up (some_is t _ is)
  counts w (event.Cut call image t) n s q up is = takes_counts w (knife.At call image) t n s q up (some_is t _ is)
  counts w (event.Stop m) n s q up is = absurd cc
  counts w (event.Start m) n s q up is = absurd cc
  counts w (event.Lose m) n s q up is = absurd cc
  counts w (event.Fence m z t) n s q up is = absurd cc
  counts w (event.Lead m z t) n s q up is = absurd cc

  -- ---- the opening

  state_pass : state_after M (opening_pass ∷ []) ≡ M.opening
  unfolding state_after
  state_pass = refl

  opening_sound : IsSound M (opening_world M)
  opening_sound = record {
    lone = record {
      unsaved = record { term = refl; count = refl; saved = refl };
      within = omega arith;
      value = sym state_pass;
      leader = λ l is.
          let same = leading_is l is in
          subst (IsLoneLeader M (opening_replica M)) same (record {
            seat_is = refl;
            all = refl;
            none = refl;
            begun = omega arith;
            timed = timed_started 0 (M.timers M.opening);
            pass = record { place = 0; entry = opening_pass; stands = refl; committed = omega arith; term_is = refl; is_pass = refl };
          });
    };
    begins = ([], refl);
    within = omega arith;
    logged = record {
      long = refl;
      steps = record { enough = omega arith; entry = entries; origin = origins; term = terms };
      bound = λ i a x g e. absurd (no_arrival i a x g e);
      once = λ i j a x y g k e f. absurd (no_arrival i a x g e);
    };
    up = λ _ _. refl;
  }
    where
      leading_is : (l : Leading) → Some (opening_leading M) ≡ Some l → opening_leading M ≡ l
      leading_is l e = cc

      first : Origin
      first = origin_of 0 cause.Opening opening_pass

      entries : (i : ℕ) (e : Entry) → slice_get (opening_pass ∷ []) i ≡ Some e → e.offset ≡ i
      entries zero e g = let is : opening_pass ≡ e = cc in sym (ap (λ (x : Entry). x.offset) is)
      entries (suc i) e g = absurd cc

      origins : (i : ℕ) (x : Origin) → slice_get (origin_of 0 cause.Opening opening_pass ∷ []) i ≡ Some x → (x.shard ≡ 0) × (x.offset ≡ i)
      origins zero x g = let is : origin_of 0 cause.Opening opening_pass ≡ x = cc in (sym (ap (λ (y : Origin). y.shard) is), sym (ap (λ (y : Origin). y.offset) is))
      origins (suc i) x g = absurd cc

      terms : (i : ℕ) (e : Entry) (x : Origin) → slice_get (opening_pass ∷ []) i ≡ Some e → slice_get (origin_of 0 cause.Opening opening_pass ∷ []) i ≡ Some x → x.term ≡ e.term
      terms zero e x g h =
          let a : opening_pass ≡ e = cc in
          let b : origin_of 0 cause.Opening opening_pass ≡ x = cc in
          sym (ap (λ (y : Origin). y.term) b) ∙ ap (λ (y : Entry). y.term) a
      terms (suc i) e x g h = absurd cc

      no_arrival : (i a : ℕ) (x : Origin) → slice_get (origin_of 0 cause.Opening opening_pass ∷ []) i ≡ Some x → x.cause ≡ cause.Arrival a → ⊥
      no_arrival zero a x g e =
          let is : origin_of 0 cause.Opening opening_pass ≡ x = cc in
          let never : cause.Opening ≡ cause.Arrival a = ap (λ (y : Origin). y.cause) is ∙ e in
          cc
      no_arrival (suc i) a x g e = absurd cc

  -- ---- worlds by their place

  world_next : (w : World S) (es : List Event) (k : ℕ) (e : Event) → slice_get es k ≡ Some e → world_after M blocks w (take (suc k) es) ≡ (happens M blocks (world_after M blocks w (take k es)) e).world
  world_next w [] k e h = absurd cc
  world_next w (d ∷ es) zero e h = let is : d ≡ e = cc in ap (λ x. (happens M blocks w x).world) is
  world_next w (d ∷ es) (suc k) e h = world_next (happens M blocks w d).world es k e h

  world_stays : (w : World S) (es : List Event) (k : ℕ) → slice_get es k ≡ None → world_after M blocks w (take (suc k) es) ≡ world_after M blocks w (take k es)
  world_stays w [] zero h = refl
  world_stays w [] (suc k) h = refl
  world_stays w (d ∷ es) zero h = absurd cc
  world_stays w (d ∷ es) (suc k) h = world_stays (happens M blocks w d).world es k h

  module _ (es : List Event) where
    abbrev pub world : ℕ → World S
    world k = world_at M blocks es k

    pub at_next : (k : ℕ) (e : Event) → slice_get es k ≡ Some e → world (suc k) ≡ (happens M blocks (world k) e).world
    unfolding world_at
    at_next k e h = world_next (opening_world M) es k e h

    pub at_end : (k : ℕ) → slice_get es k ≡ None → world (suc k) ≡ world k
    unfolding world_at
    at_end k h = world_stays (opening_world M) es k h

    pub at_first : world 0 ≡ opening_world M
    unfolding world_at
    at_first = first es
      where
        first : (xs : List Event) → world_after M blocks (opening_world M) (take 0 xs) ≡ opening_world M
        first [] = refl
        first (x ∷ xs) = refl

    module _ (only : AreOfOneNode es) where
      -- sound, and its messages are of the only shard
      record IsFine (w : World S) : Type 0 where
        sound : IsSound M w
        shards : AreOfShard w.messages

      fine_first : IsFine (opening_world M)
      fine_first = record { sound = opening_sound; shards = λ k m h. absurd cc }

      fine_next : (k : ℕ) → IsFine (world k) → (found : Option Event) → slice_get es k ≡ found → IsFine (world (suc k))
      fine_next k fine None is = subst IsFine (sym (at_end k is)) fine
      fine_next k fine (Some e) is =
          let what = happens_is M blocks (world k) e (only k e is) fine.shards in
          subst IsFine (sym (at_next k e is))
          (record { sound = next_sound M blocks (world k) e fine.sound (happens M blocks (world k) e) what; shards = shards_next M blocks (world k) e (happens M blocks (world k) e) what fine.shards })

      fine_at : (k : ℕ) → IsFine (world k)
      fine_at zero = subst IsFine (sym at_first) fine_first
      fine_at (suc k) = fine_next k (fine_at k) (slice_get es k) refl

      pub sound_at : (k : ℕ) → IsSound M (world k)
      sound_at k = (fine_at k).sound

      -- what event k does
      pub happens_at : (k : ℕ) (e : Event) → slice_get es k ≡ Some e → Happens M blocks (world k) e (happens M blocks (world k) e)
      happens_at k e is = happens_is M blocks (world k) e (only k e is) (fine_at k).shards

      goes_on_next : (k : ℕ) (found : Option Event) → slice_get es k ≡ found → GoesOn (world k) (world (suc k))
      goes_on_next k None is = subst (GoesOn (world k)) (sym (at_end k is)) (goes_on_same (world k))
      goes_on_next k (Some e) is = subst (GoesOn (world k)) (sym (at_next k e is)) (next_goes_on (world k) e (happens M blocks (world k) e) (sound_at k) (happens_at k e is))

      pub next : (k : ℕ) → GoesOn (world k) (world (suc k))
      next k = goes_on_next k (slice_get es k) refl

      pub later : (j k : ℕ) → j ≤ k → GoesOn (world j) (world k)
      later j zero h = let is : j ≡ 0 = omega arith in rw is (goes_on_same (world 0))
      later j (suc k) h = elim (split j k h) [
        | inl lower ↦ goes_on_then (world j) (world k) (world (suc k)) (later j k lower) (next k)
        | inr same ↦ rw same (goes_on_same (world (suc k)))
      ]

      -- ---- arrivals

      pub arrivals_next : (k a s : ℕ) (q : Request) → ComesAs M blocks es k a s q → (world (suc k)).arrivals ≡ (world k).arrivals + 1
      arrivals_next k a s q c = ap (λ (w : World S). w.arrivals) (at_next k c.event c.here) ∙ counts (world k) c.event c.node s q c.up c.asks

      pub came_to_shard : (k a s : ℕ) (q : Request) → CameBefore M blocks es k a s q → s ≡ 0
      came_to_shard k a s q c = at_shard c.comes.event c.comes.asks (only c.event c.comes.event c.comes.here)
        where
          at_shard : (e : Event) → turn_of e ≡ Some (turn.Client c.comes.node s q) → IsOfOneNode e → s ≡ 0
          at_shard (event.Takes t) is one = (rw (some_is t _ is) at one).1
          at_shard (event.Cut call image t) is one = (rw (some_is t _ is) at one).1
          at_shard (event.Stop m) is one = absurd cc
          at_shard (event.Start m) is one = absurd cc
          at_shard (event.Lose m) is one = absurd cc
          at_shard (event.Fence m z t) is one = absurd cc
          at_shard (event.Lead m z t) is one = absurd cc

      -- an arrival has one event
      same_event : (j k a s z : ℕ) (q p : Request) → ComesAs M blocks es j a s q → ComesAs M blocks es k a z p → j ≡ k
      same_event j k a s z q p c d =
          let one = arrivals_next j a s q c in
          let two = arrivals_next k a z p d in
          by_order j k (λ less. absurd (omega (arith, one, c.number, d.number, (later (suc j) k less).arrivals))) (λ more. absurd (omega (arith, two, c.number, d.number, (later (suc k) j more).arrivals)))
        where
          by_order : (m n : ℕ) → (suc m ≤ n → m ≡ n) → (suc n ≤ m → m ≡ n) → m ≡ n
          by_order m n less more = grind (arith, common_steps, less, more)

      asked_is : (n n' s s' : ℕ) (q p : Request) → Some (turn.Client n s q) ≡ Some (turn.Client n' s' p) → q ≡ p
      asked_is n n' s s' q p e = cc

      -- an arrival has one request
      pub one_request : (k a s s' : ℕ) (q p : Request) → CameBefore M blocks es k a s q → CameBefore M blocks es k a s' p → q ≡ p
      one_request k a s s' q p c d =
          let same = same_event c.event d.event a s s' q p c.comes d.comes in
          let here : slice_get es d.event ≡ Some c.comes.event = subst (λ n. slice_get es n ≡ Some c.comes.event) same c.comes.here in
          let is = some_is c.comes.event d.comes.event (sym here ∙ d.comes.here) in
          asked_is c.comes.node d.comes.node s s' q p (sym c.comes.asks ∙ ap turn_of is ∙ d.comes.asks)
