-- A change of the timer with one id.
use Rattle.std.proofs.Common.{◌≡◌, ◌≢◌, ◌<◌, ℕ, zero, suc, Bool, true, false, cond, nat_eq, List, [], ◌∷◌, length, map, refl, sym, ◌∙◌, ap, arith, slice_index_or, slice_set}
use Rattle.std.specs.Prelude.{All}
use Rattle.std.proofs.lemmas.Bool.{eq-eqb}
use Rattle.std.proofs.lemmas.Bool.Decides.{nat_tests}
use Rattle.std.proofs.lemmas.List.{get_or-map, length-map}
use Rattle.ox_timer.specs.declared.running.Running.{Running}
use Rattle.ox_timer.specs.Order.{RunningRise}
use Rattle.ox_timer.proofs.Merges.{rise_tail, rise_first, different_below}

module _ (id : ℕ) (f : Running → Running) where
  abbrev pub changed_one : Running → Running
  changed_one r = cond (nat_eq r.id id) (f r) r

  pub changed-none : (running : List Running) → All (λ (r : Running). r.id ≢ id) running → map changed_one running ≡ running
  changed-none [] h = refl
  changed-none (r ∷ running) h =
      let other : r.id ≢ id = h 0 r (omega arith) in
      let test : nat_eq r.id id ≡ false = grind (arith, nat_tests) in
      rw test (ap (λ (rest : List Running). r ∷ rest) (changed-none running (λ k d within. h (suc k) d (omega arith))))

  pub changed-at : (running : List Running) (at : ℕ) (d : Running) → RunningRise running → at < length running → (slice_index_or running at d).id ≡ id
      → map changed_one running ≡ slice_set running at (f (slice_index_or running at d))
  changed-at [] at d rise within is = absurd (omega arith)
  changed-at (r ∷ running) zero d rise within is =
      let others = rise_first r running rise in
      let same : nat_eq r.id id ≡ true = eq-eqb r.id id is in
      rw same (ap (λ (rest : List Running). f r ∷ rest) (changed-none running (λ k e inside. let above : r.id < (slice_index_or running k e).id = others k e inside in (omega arith))))
  changed-at (r ∷ running) (suc at) d rise within is =
      let low : r.id < (slice_index_or running at d).id = rise 0 (suc at) d (omega arith) (omega arith) in
      let below : r.id < id = omega arith in
      rw (different_below r.id id below) (ap (λ (rest : List Running). r ∷ rest) (changed-at running at d (rise_tail r running rise) (omega arith) is))

  -- what is written at the place of the id
  pub changed-written : (running : List Running) (at : ℕ) (r : Running) → RunningRise running → at < length running → r ≡ slice_index_or running at r → ((d : Running) → (slice_index_or running at d).id ≡ id)
      → slice_set running at (f r) ≡ map changed_one running
  changed-written running at r rise within is found =
      ap (λ (x : Running). slice_set running at (f x)) is ∙ sym (changed-at running at r rise within (found r))

  changed-id : ((r : Running) → (f r).id ≡ r.id) → (r : Running) (test : Bool) → (cond test (f r) r).id ≡ r.id
  changed-id keeps r true = keeps r
  changed-id keeps r false = refl

  pub rise_changed : ((r : Running) → (f r).id ≡ r.id) → (running : List Running) → RunningRise running → RunningRise (map changed_one running)
  rise_changed keeps running rise i j d below within =
      let inside : j < length running = rw (length-map running changed_one) at within in
      let first : i < length running = omega arith in
      rw (
        get_or-map changed_one running i d d first,
        get_or-map changed_one running j d d inside,
        changed-id keeps (slice_index_or running i d) (nat_eq (slice_index_or running i d).id id),
        changed-id keeps (slice_index_or running j d) (nat_eq (slice_index_or running j d).id id),
      )
      (rise i j d below inside)
