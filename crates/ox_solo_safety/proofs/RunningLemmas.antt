-- Timers that run, in lists: which of them start now, which go on, and which one has run out.
use Rattle.std.proofs.Common.{◌≡◌, ◌≢◌, ◌∙◌, ℕ, zero, suc, ◌+◌, ◌≤◌, Bool, true, false, eqb, leb, cond, List, [], ◌∷◌, map, slice_get, Option, Some, None, ◌⊎◌, inl, inr, refl, sym, ap, arith}
use Rattle.std.specs.Prelude.{not, ◌&&◌}
use Rattle.std.proofs.lemmas.Bool.{eqb-true, leb-true}
use Rattle.std.proofs.lemmas.Grind.{common_steps}
use Rattle.ox_types.specs.declared.timer.Timer.{Timer}
use Rattle.ox_timer.specs.declared.running.Running.{Running}
use Rattle.ox_timer.specs.Timers.{starts, started, running_at, goes_on, retimed, heard_one, heard, noted_one, noted, is_due, due}
use Rattle.ox_solo_safety.specs.Moments.{Has}

-- the timer of the machine that runs
abbrev pub timer_in : Running → Timer
timer_in r = record { id = r.id; timeout = r.timeout }

-- an element of a mapped list is made of one of the list
has_mapped : {A B : Type 0} (f : A → B) (xs : List A) (i : ℕ) (y : B) → slice_get (map f xs) i ≡ Some y → (x : A) × Has xs x × (f x ≡ y)
has_mapped f [] i y h = absurd cc
has_mapped f (x ∷ xs) zero y h = (x, (0, refl), cc)
has_mapped f (x ∷ xs) (suc i) y h =
    let more = has_mapped f xs i y h in
    (more.0, (suc more.1.0, more.1.1), more.2)

pub has_made : {A B : Type 0} (f : A → B) (xs : List A) (i : ℕ) (x : A) → slice_get xs i ≡ Some x → slice_get (map f xs) i ≡ Some (f x)
has_made f [] i x h = absurd cc
has_made f (y ∷ ys) zero x h = let is : y ≡ x = cc in ap (λ z. Some (f z)) is
has_made f (y ∷ ys) (suc i) x h = has_made f ys i x h

-- the one that runs with this id
runs_with : (id : ℕ) (rs : List Running) (r : Running) → running_at id rs ≡ Some r → Has rs r × (r.id ≡ id)
runs_with id [] r h = absurd cc
runs_with id (x ∷ xs) r h = by_test (λ g. runs_with id xs r g) (eqb x.id id) refl
  where
    by_test : (running_at id xs ≡ Some r → Has xs r × (r.id ≡ id)) → (b : Bool) → eqb x.id id ≡ b → Has (x ∷ xs) r × (r.id ≡ id)
    by_test rest true e =
        let here : Some x ≡ Some r = rw e at h in
        let is : x ≡ r = cc in
        ((0, ap (λ (y : Running). Some y) is), sym (ap (λ (y : Running). y.id) is) ∙ eqb-true x.id id e)
    by_test rest false e =
        let there : running_at id xs ≡ Some r = rw e at h in
        let more = rest there in
        ((suc more.0.0, more.0.1), more.1)

-- a timer of those that go on starts now, or it goes on as it ran
pub retimed_from : (now : ℕ) (ts : List Timer) (old : List Running) (r : Running) → Has (retimed now ts old) r → (r.since ≡ now) ⊎ ((o : Running) × Has old o × (o.id ≡ r.id) × (o.since ≡ r.since))
retimed_from now ts old r h =
    let t = has_mapped (λ (t : Timer). goes_on now t (running_at t.id old)) ts h.0 r h.1 in
    by_old t.0 t.2 (running_at t.0.id old) refl
  where
    by_old : (t : Timer) → goes_on now t (running_at t.id old) ≡ r → (o : Option Running) → running_at t.id old ≡ o → (r.since ≡ now) ⊎ ((o : Running) × Has old o × (o.id ≡ r.id) × (o.since ≡ r.since))
    by_old t is None e =
        let made : starts now t ≡ r = rw e at is in
        inl (sym (ap (λ (x : Running). x.since) made))
    by_old t is (Some o) e =
        let made : goes_on now t (Some o) ≡ r = rw e at is in
        let found = runs_with t.id old o e in
        inr (o, found.0, found.1 ∙ ap (λ (x : Running). x.id) made, ap (λ (x : Running). x.since) made)

timed_one : (now : ℕ) (t : Timer) (o : Option Running) → timer_in (goes_on now t o) ≡ t
timed_one now t None = refl
timed_one now t (Some r) = refl

-- the timers that go on are those of the machine
pub timed_retimed : (now : ℕ) (ts : List Timer) (old : List Running) → map timer_in (retimed now ts old) ≡ ts
timed_retimed now [] old = refl
timed_retimed now (t ∷ ts) old = cc (timed_one now t (running_at t.id old), timed_retimed now ts old)

pub timed_started : (now : ℕ) (ts : List Timer) → map timer_in (started now ts) ≡ ts
timed_started now [] = refl
timed_started now (t ∷ ts) = ap (λ more. t ∷ more) (timed_started now ts)

-- a timer behind a sign of life starts now, or it isn't the one
pub heard_from : (id now : ℕ) (old : List Running) (r : Running) → Has (heard id now old) r → (r.since ≡ now) ⊎ ((o : Running) × Has old o × (o.id ≡ r.id) × (o.since ≡ r.since) × (r.id ≢ id))
heard_from id now old r h =
    let o = has_mapped (heard_one id now) old h.0 r h.1 in
    by_test o.0 o.1 o.2 (eqb o.0.id id) refl
  where
    by_test : (o : Running) → Has old o → heard_one id now o ≡ r → (b : Bool) → eqb o.id id ≡ b → (r.since ≡ now) ⊎ ((o : Running) × Has old o × (o.id ≡ r.id) × (o.since ≡ r.since) × (r.id ≢ id))
    by_test o there is true e =
        let made : record o { since = now } ≡ r = rw e at is in
        inl (sym (ap (λ (x : Running). x.since) made))
    by_test o there is false e =
        let made : o ≡ r = rw e at is in
        let other : o.id ≢ id = λ same. differs o.id id e same in
        inr (o, there, ap (λ (x : Running). x.id) made, ap (λ (x : Running). x.since) made, λ same. other (ap (λ (x : Running). x.id) made ∙ same))
      where
        differs : (m n : ℕ) → eqb m n ≡ false → m ≡ n → ⊥
        differs m n f same = grind (arith, common_steps)

pub timed_heard : (id now : ℕ) (old : List Running) → map timer_in (heard id now old) ≡ map timer_in old
timed_heard id now [] = refl
timed_heard id now (r ∷ rs) = cc (one (eqb r.id id), timed_heard id now rs)
  where
    one : (b : Bool) → timer_in (cond b (record r { since = now }) r) ≡ timer_in r
    one true = refl
    one false = refl

-- the timer that is due has run out
pub due_ran_out : (now id : ℕ) (rs : List Running) → due now rs ≡ Some id → (r : Running) × Has rs r × (r.id ≡ id) × (r.since + r.timeout ≤ now)
due_ran_out now id [] h = absurd cc
due_ran_out now id (r ∷ rs) h = by_test (λ g. due_ran_out now id rs g) (is_due now r) refl
  where
    ran : (a b : Bool) → not a && b ≡ true → b ≡ true
    ran false b e = e
    ran true b e = absurd cc

    by_test : (due now rs ≡ Some id → (x : Running) × Has rs x × (x.id ≡ id) × (x.since + x.timeout ≤ now)) → (b : Bool) → is_due now r ≡ b → (x : Running) × Has (r ∷ rs) x × (x.id ≡ id) × (x.since + x.timeout ≤ now)
    by_test rest true e =
        let here : Some r.id ≡ Some id = rw e at h in
        (r, (0, refl), cc, leb-true _ _ (ran r.expired (leb (r.since + r.timeout) now) e))
    by_test rest false e =
        let there : due now rs ≡ Some id = rw e at h in
        let more = rest there in
        (more.0, (suc more.1.0, more.1.1), more.2, more.3)

timed_note : (id : ℕ) (r : Running) (test : Bool) → timer_in (cond test (record r { expired = true }) r) ≡ timer_in r
timed_note id r true = refl
timed_note id r false = refl

-- a timer that is noted stays a timer of the machine
pub timed_noted : (id : ℕ) (rs : List Running) → map timer_in (noted id rs) ≡ map timer_in rs
timed_noted id [] = refl
timed_noted id (r ∷ rs) = cc (timed_note id r (eqb r.id id), timed_noted id rs)

-- and it has run since the same time
pub noted_from : (id : ℕ) (old : List Running) (r : Running) → Has (noted id old) r → (o : Running) × Has old o × (o.id ≡ r.id) × (o.since ≡ r.since)
noted_from id old r h =
    let o = has_mapped (noted_one id) old h.0 r h.1 in
    (o.0, o.1, same_id o.0 (eqb o.0.id id) o.2, same_since o.0 (eqb o.0.id id) o.2)
  where
    same_id : (o : Running) (test : Bool) → cond test (record o { expired = true }) o ≡ r → o.id ≡ r.id
    same_id o true is = ap (λ (x : Running). x.id) is
    same_id o false is = ap (λ (x : Running). x.id) is

    same_since : (o : Running) (test : Bool) → cond test (record o { expired = true }) o ≡ r → o.since ≡ r.since
    same_since o true is = ap (λ (x : Running). x.since) is
    same_since o false is = ap (λ (x : Running). x.since) is
