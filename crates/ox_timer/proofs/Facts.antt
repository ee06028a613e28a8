-- What holds of timers that go on or start anew, and of the one that is due.
use Rattle.std.proofs.Common.{◌≡◌, ◌≢◌, ◌+◌, ◌<◌, ◌≤◌, ◌⊎◌, inl, inr, ℕ, zero, suc, Bool, true, false, cond, nat_eq, nat_le, List, [], ◌∷◌, length, map, Option, Some, None, refl, sym, ◌∙◌, ap, arith, slice_index_or}
use Rattle.std.specs.Prelude.{All, Contains, not}
use Rattle.std.proofs.lemmas.Bool.{and_parts, leb-true, eqb-true, eqb-false}
use Rattle.std.proofs.lemmas.List.{get_or-map, length-map}
use Rattle.std.proofs.lemmas.List.Elements.{Contains-get_or}
use Rattle.ox_types.specs.declared.timer.Timer.{Timer}
use Rattle.ox_timer.specs.declared.running.Running.{Running}
use Rattle.ox_timer.specs.Order.{RunningRise}
use Rattle.ox_timer.specs.Timers.{running_at, goes_on, retimed, heard, heard_one, is_due, due}
use Rattle.ox_timer.proofs.Merges.{rise_tail, rise_first, goes_on-id}

pub retimed_ids : (now : ℕ) (timers : List Timer) (running : List Running) → map (λ (r : Running). r.id) (retimed now timers running) ≡ map (λ (t : Timer). t.id) timers
retimed_ids now [] running = refl
retimed_ids now (t ∷ timers) running =
    rw (goes_on-id now t (running_at t.id running)) (ap (λ (ids : List ℕ). t.id ∷ ids) (retimed_ids now timers running))

Contains_more : (x : Running) (xs : List Running) (r : Running) → Contains xs r → Contains (x ∷ xs) r
Contains_more x xs r has = (suc has.0, omega (arith, has.1), has.2)

-- an item of a map is that of an item
pub Contains_mapped : {X : Type 0} (f : X → Running) (xs : List X) (r : Running) → Contains (map f xs) r → (x : X) × Contains xs x × (f x ≡ r)
Contains_mapped f [] r has = absurd (omega (arith, has.1))
Contains_mapped f (x ∷ xs) r has = mapped_at f x xs r has.0 has.1 has.2 where
  mapped_at : {X : Type 0} (f : X → Running) (x : X) (xs : List X) (r : Running) (k : ℕ) → k < length (map f (x ∷ xs)) → slice_index_or (map f (x ∷ xs)) k r ≡ r → (y : X) × Contains (x ∷ xs) y × (f y ≡ r)
  mapped_at f x xs r k within is =
      let inside : k < length (x ∷ xs) = rw (length-map (x ∷ xs) f) at within in
      (slice_index_or (x ∷ xs) k x, Contains-get_or (x ∷ xs) k x inside, sym (get_or-map f (x ∷ xs) k x r inside) ∙ is)

-- what is found is there and has the id
found_there : (id : ℕ) (running : List Running) (o : Running) → running_at id running ≡ Some o → Contains running o × (o.id ≡ id)
found_there id [] o e = cc
found_there id (r ∷ running) o e = found_cases id r running o (nat_eq r.id id) refl e (found_there id running o) where
  found_cases : (id : ℕ) (r : Running) (running : List Running) (o : Running) (test : Bool) → nat_eq r.id id ≡ test → cond test (Some r) (running_at id running) ≡ Some o
      → (running_at id running ≡ Some o → Contains running o × (o.id ≡ id)) → Contains (r ∷ running) o × (o.id ≡ id)
  found_cases id r running o true is e rest =
      let same : r ≡ o = cc in
      ((0, omega arith, same), sym (ap (λ (x : Running). x.id) same) ∙ eqb-true r.id id is)
  found_cases id r running o false is e rest = let found = rest e in (Contains_more r running o found.0, found.1)

since_cases : (now : ℕ) (t : Timer) (running : List Running) (r : Running) (o : Option Running) → running_at t.id running ≡ o → goes_on now t o ≡ r
    → ((r.since ≡ now) × (r.expired ≡ false)) ⊎ ((x : Running) × Contains running x × (x.id ≡ r.id) × (x.since ≡ r.since) × (x.expired ≡ r.expired))
since_cases now t running r None is e = inl (sym (ap (λ (x : Running). x.since) e), sym (ap (λ (x : Running). x.expired) e))
since_cases now t running r (Some o) is e =
    let found = found_there t.id running o is in
    inr (o, found.0, found.1 ∙ ap (λ (x : Running). x.id) e, ap (λ (x : Running). x.since) e, ap (λ (x : Running). x.expired) e)

pub retimed_since : (now : ℕ) (timers : List Timer) (running : List Running) (r : Running) → Contains (retimed now timers running) r
    → ((r.since ≡ now) × (r.expired ≡ false)) ⊎ ((o : Running) × Contains running o × (o.id ≡ r.id) × (o.since ≡ r.since) × (o.expired ≡ r.expired))
retimed_since now timers running r has =
    let from = Contains_mapped (λ (t : Timer). goes_on now t (running_at t.id running)) timers r has in
    since_cases now from.0 running r (running_at from.0.id running) refl from.2

heard_cases : (id now : ℕ) (running : List Running) (r o : Running) → Contains running o → (test : Bool) → nat_eq o.id id ≡ test → cond test (record o { since = now }) o ≡ r
    → ((r.id ≢ id) × Contains running r) ⊎ ((r.id ≡ id) × (r.since ≡ now) × ((x : Running) × Contains running x × (x.id ≡ id) × (x.timeout ≡ r.timeout) × (x.expired ≡ r.expired)))
heard_cases id now running r o has true is e =
    let same = eqb-true o.id id is in
    inr (sym (ap (λ (x : Running). x.id) e) ∙ same, sym (ap (λ (x : Running). x.since) e), (o, has, same, ap (λ (x : Running). x.timeout) e, ap (λ (x : Running). x.expired) e))
heard_cases id now running r o has false is e =
    inl ((λ same. eqb-false o.id id is (ap (λ (x : Running). x.id) e ∙ same)), rw e at has)

pub heard_starts : (id now : ℕ) (running : List Running) (r : Running) → Contains (heard id now running) r
    → ((r.id ≢ id) × Contains running r) ⊎ ((r.id ≡ id) × (r.since ≡ now) × ((x : Running) × Contains running x × (x.id ≡ id) × (x.timeout ≡ r.timeout) × (x.expired ≡ r.expired)))
heard_starts id now running r has =
    let from = Contains_mapped (heard_one id now) running r has in
    heard_cases id now running r from.0 from.1 (nat_eq from.0.id id) refl from.2

-- the timer that is due

ran_out : (now : ℕ) (r : Running) → is_due now r ≡ true → (r.expired ≡ false) × (r.since + r.timeout ≤ now)
ran_out now r is =
    let parts = and_parts (not r.expired) (nat_le (r.since + r.timeout) now) is in
    (not_true r.expired parts.0, leb-true (r.since + r.timeout) now parts.1) where
      not_true : (b : Bool) → not b ≡ true → b ≡ false
      not_true true h = cc
      not_true false h = refl

pub due_found : (now id : ℕ) (running : List Running) → due now running ≡ Some id → (r : Running) × Contains running r × (r.id ≡ id) × (r.expired ≡ false) × (r.since + r.timeout ≤ now)
due_found now id [] e = cc
due_found now id (r ∷ running) e = due_cases now id r running (is_due now r) refl e (due_found now id running) where
  due_cases : (now id : ℕ) (r : Running) (running : List Running) (test : Bool) → is_due now r ≡ test → cond test (Some r.id) (due now running) ≡ Some id
      → (due now running ≡ Some id → (x : Running) × Contains running x × (x.id ≡ id) × (x.expired ≡ false) × (x.since + x.timeout ≤ now))
      → (x : Running) × Contains (r ∷ running) x × (x.id ≡ id) × (x.expired ≡ false) × (x.since + x.timeout ≤ now)
  due_cases now id r running true is e rest =
      let out = ran_out now r is in
      let same : r.id ≡ id = cc in
      (r, (0, omega arith, refl), same, out.0, out.1)
  due_cases now id r running false is e rest = let f = rest e in (f.0, Contains_more r running f.0 f.1, f.2, f.3, f.4)

pub due_least : (now id : ℕ) (running : List Running) → RunningRise running → due now running ≡ Some id → All (λ (r : Running). is_due now r ≡ true → id ≤ r.id) running
due_least now id [] rise e k d within = absurd (omega arith)
due_least now id (r ∷ running) rise e k d within = least_cases now id r running (is_due now r) refl rise e (due_least now id running (rise_tail r running rise)) k d within where
  least_cases : (now id : ℕ) (r : Running) (running : List Running) (test : Bool) → is_due now r ≡ test → RunningRise (r ∷ running) → cond test (Some r.id) (due now running) ≡ Some id
      → (due now running ≡ Some id → All (λ (x : Running). is_due now x ≡ true → id ≤ x.id) running) → All (λ (x : Running). is_due now x ≡ true → id ≤ x.id) (r ∷ running)
  least_cases now id r running true is rise e rest zero d within due-too = let same : r.id ≡ id = cc in (omega arith)
  least_cases now id r running true is rise e rest (suc k) d within due-too =
      let same : r.id ≡ id = cc in
      let next : r.id < (slice_index_or running k d).id = rise_first r running rise k d (omega arith) in
      omega arith
  least_cases now id r running false is rise e rest zero d within due-too = cc
  least_cases now id r running false is rise e rest (suc k) d within due-too = rest e k d (omega arith) due-too

pub due_none : (now : ℕ) (running : List Running) → due now running ≡ None → All (λ (r : Running). is_due now r ≡ false) running
due_none now [] e k d within = absurd (omega arith)
due_none now (r ∷ running) e k d within = none_cases now r running (is_due now r) refl e (due_none now running) k d within where
  none_cases : (now : ℕ) (r : Running) (running : List Running) (test : Bool) → is_due now r ≡ test → cond test (Some r.id) (due now running) ≡ None
      → (due now running ≡ None → All (λ (x : Running). is_due now x ≡ false) running) → All (λ (x : Running). is_due now x ≡ false) (r ∷ running)
  none_cases now r running true is e rest k d within = cc
  none_cases now r running false is e rest zero d within = is
  none_cases now r running false is e rest (suc k) d within = rest e k d (omega arith)
