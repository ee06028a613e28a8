-- A replica that is alone stays so, and its log only grows.
use Rattle.std.proofs.Common.{◌≡◌, ◌∙◌, ℕ, ◌+◌, ◌≤◌, List, [], ◌∷◌, ◌++◌, length, map, take, drop, slice_get, Option, Some, None, refl, sym, ap, subst, arith, append-nil, take-append-drop}
use Rattle.std.proofs.Math.Seq.{take-append-le, take-length}
use Rattle.ox_types.specs.declared.log.Entry.{Entry}
use Rattle.ox_types.specs.declared.durable.Action.{Action}
use Rattle.ox_types.specs.Durable.{DurableState}
use Rattle.ox_machine.specs.Meaning.{Meaning}
use Rattle.ox_machine.specs.Store.{after, state_from, state_after}
use Rattle.ox_timer.specs.declared.running.Running.{Running}
use Rattle.ox_timer.specs.Timers.{noted}
use Rattle.ox_solo_replica.specs.declared.input.Input.{Input}
use Rattle.ox_solo_replica.specs.declared.leading.Leading.{Leading}
use Rattle.ox_solo_replica.specs.Sound.{IsUnsaved}
use Rattle.ox_solo_replica.specs.State.{ReplicaState}
use Rattle.ox_solo_replica.specs.Step.{Stepped}
use Rattle.ox_solo_safety.specs.World.{reopened}
use Rattle.ox_solo_safety.specs.Run.{appended}
use Rattle.ox_solo_safety.proofs.RunningLemmas.{timer_in, timed_heard, timed_retimed, timed_started}
use Rattle.ox_solo_safety.proofs.ListLemmas.{get_front, get_last, longer_by_one}
use Rattle.ox_solo_safety.proofs.StepLemmas.{hears_with, unchanged, longer, IsStill, IsLone, IsAppending, IsFencing, IsBeginning, Steps}
use Rattle.ox_solo_safety.proofs.StepLemmas.Steps.{rests, reads, writes, expiring, fencing, beginning}

-- the batch appends nothing, or one entry at the end of the log
pub data Appends (entries : List Entry) (kept : List Action) : Type 0 where
  none : appended kept ≡ [] → Appends entries kept
  one : (e : Entry) → appended kept ≡ e ∷ [] → e.offset ≡ length entries → Appends entries kept

module _ {S C R Q A : Type 0} (M : Meaning S C R Q A) where
  state_from-append : (s : S) (xs ys : List Entry) → state_from M s (xs ++ ys) ≡ state_from M (state_from M s xs) ys
  state_from-append s [] ys = refl
  state_from-append s (x ∷ xs) ys = state_from-append (after M s x) xs ys

  pub state_more : (xs ys : List Entry) → state_after M (xs ++ ys) ≡ state_from M (state_after M xs) ys
  unfolding state_after
  state_more xs ys = state_from-append M.opening xs ys

  pub state_none : state_after M [] ≡ M.opening
  unfolding state_after
  state_none = refl

  -- What a step leaves: the replica is alone, its log goes on by what the batch appends, and its term doesn't fall.
  pub record StaysLone (r : ReplicaState S) (o : Stepped S) : Type 0 where
    pub lone : IsLone M o.state
    pub grows : o.state.disk.entries ≡ r.disk.entries ++ appended o.kept
    pub appends : Appends r.disk.entries o.kept
    pub commits : o.state.live.leading ≡ None → o.state.live.commit ≡ r.live.commit
    pub rises : r.disk.term ≤ o.state.disk.term

  -- a replica that is started is alone
  pub reopened_lone : (d : DurableState) → IsUnsaved d → IsLone M (reopened M d)
  reopened_lone d unsaved = record {
    unsaved = unsaved;
    within = (let none = unsaved.count in omega (arith, none));
    value = sym (ap (λ n. state_after M (take n d.entries)) unsaved.count ∙ ap (state_after M) (take_zero d.entries) ∙ state_none);
    leader = λ l is. absurd (never l is);
  }
    where
      take_zero : (xs : List Entry) → take 0 xs ≡ []
      take_zero [] = refl
      take_zero (x ∷ xs) = refl

      never : (l : Leading) → None ≡ Some l → ⊥
      never l is = cc

  module _ (r : ReplicaState S) (o : Stepped S) (lone : IsLone M r) where
    new_is : (l new : Leading) → o.state.live.leading ≡ Some l → o.state.live.leading ≡ Some new → l ≡ new
    new_is l new a b = cc (a, b)

    never : (l : Leading) → o.state.live.leading ≡ None → o.state.live.leading ≡ Some l → ⊥
    never l a b = cc (a, b)

    bare : (d : DurableState) → o.state.disk ≡ d → IsUnsaved d → IsUnsaved o.state.disk
    bare d is h = subst IsUnsaved (sym is) h

    entries_are : (d : DurableState) → o.state.disk ≡ d → o.state.disk.entries ≡ d.entries
    entries_are d is = ap (λ (x : DurableState). x.entries) is

    still_lone : (f : List Running → List Running) → ((ts : List Running) → map timer_in (f ts) ≡ map timer_in ts) → IsStill r o f → IsLone M o.state
    still_lone f keeps still =
        let same : o.state.disk.entries ≡ r.disk.entries = entries_are r.disk still.disk in
        record {
          unsaved = bare r.disk still.disk lone.unsaved;
          within = omega (arith, still.commit, ap length same, lone.within);
          value = still.machine ∙ lone.value ∙ sym (ap (λ n. state_after M (take n o.state.disk.entries)) still.commit ∙ ap (λ xs. state_after M (take r.live.commit xs)) same);
          leader = λ l is.
              let old = still.back l is in
              let lead = lone.leader old.old old.was in
              record {
                seat_is = ap (λ (d : DurableState). d.seat) still.disk ∙ lead.seat_is;
                all = still.commit ∙ lead.all ∙ sym (ap length same);
                none = old.pending ∙ lead.none;
                begun = omega (arith, old.begin, still.commit, lead.begun);
                timed = ap (λ ts. map timer_in ts) old.timers ∙ keeps old.old.timers ∙ lead.timed ∙ sym (ap M.timers still.machine);
                pass = record {
                  place = lead.pass.place;
                  entry = lead.pass.entry;
                  stands = ap (λ xs. slice_get xs lead.pass.place) same ∙ lead.pass.stands;
                  committed = omega (arith, still.commit, lead.pass.committed);
                  term_is = lead.pass.term_is ∙ sym (ap (λ (d : DurableState). d.term) still.disk);
                  is_pass = lead.pass.is_pass;
                };
              };
        }

    still_stays : (f : List Running → List Running) → ((ts : List Running) → map timer_in (f ts) ≡ map timer_in ts) → IsStill r o f → StaysLone r o
    still_stays f keeps still =
        let nothing : appended o.kept ≡ [] = ap appended still.kept in
        record {
          lone = still_lone f keeps still;
          grows = entries_are r.disk still.disk ∙ sym (ap (λ xs. r.disk.entries ++ xs) nothing ∙ append-nil r.disk.entries);
          appends = none nothing;
          commits = λ _. still.commit;
          rises = omega (arith, ap (λ (d : DurableState). d.term) still.disk);
        }

    appending_lone : (e : Entry) (l : Leading) (f : List Running → List Running) → IsAppending M r o e l f → IsLone M o.state
    appending_lone e l f step =
        let more : o.state.disk.entries ≡ r.disk.entries ++ e ∷ [] = entries_are (longer r.disk e) step.disk in
        let count : length o.state.disk.entries ≡ length r.disk.entries + 1 = ap length more ∙ longer_by_one r.disk.entries e in
        let lead = lone.leader l step.was in
        let whole : take r.live.commit r.disk.entries ≡ r.disk.entries = ap (λ n. take n r.disk.entries) lead.all ∙ take-length r.disk.entries in
        record {
          unsaved = bare (longer r.disk e) step.disk (record { term = lone.unsaved.term; count = lone.unsaved.count; saved = lone.unsaved.saved });
          within = omega (arith, step.commit, count);
          value =
              step.machine ∙ ap (λ s. after M s e) (lone.value ∙ ap (state_after M) whole) ∙ sym (state_more r.disk.entries (e ∷ [])) ∙ ap (state_after M) (sym more)
              ∙ ap (state_after M) (sym (ap (λ n. take n o.state.disk.entries) (step.commit ∙ sym count) ∙ take-length o.state.disk.entries));
          leader = λ new is.
              let same = new_is _ new step.leads is in
              record {
                seat_is = ap (λ (d : DurableState). d.seat) step.disk ∙ lead.seat_is;
                all = step.commit ∙ sym count;
                none = ap (λ (x : Leading). x.pending) (sym same);
                begun = omega (arith, ap (λ (x : Leading). x.begin) same, step.commit, lead.begun, lead.all);
                timed = ap (λ (x : Leading). map timer_in x.timers) (sym same) ∙ timed_retimed o.state.live.now (M.timers (after M r.live.machine e)) (f l.timers) ∙ ap M.timers (sym step.machine);
                pass = record {
                  place = lead.pass.place;
                  entry = lead.pass.entry;
                  stands = ap (λ xs. slice_get xs lead.pass.place) more ∙ get_front r.disk.entries (e ∷ []) lead.pass.place lead.pass.entry lead.pass.stands;
                  committed = omega (arith, step.commit, lead.pass.committed, lead.all);
                  term_is = lead.pass.term_is ∙ sym (ap (λ (d : DurableState). d.term) step.disk);
                  is_pass = lead.pass.is_pass;
                };
              };
        }

    appending_stays : (e : Entry) (l : Leading) (f : List Running → List Running) → IsAppending M r o e l f → StaysLone r o
    appending_stays e l f step =
        let only : appended o.kept ≡ e ∷ [] = ap appended step.kept in
        record {
          lone = appending_lone e l f step;
          grows = entries_are (longer r.disk e) step.disk ∙ ap (λ xs. r.disk.entries ++ xs) (sym only);
          appends = one e only step.offset_is;
          commits = λ none. absurd (never _ none step.leads);
          rises = omega (arith, ap (λ (d : DurableState). d.term) step.disk);
        }

    module _ (blocks : ℕ) (i : Input) where
      fencing_stays : IsFencing M blocks r i o → StaysLone r o
      fencing_stays step =
          let same : o.state.disk.entries ≡ r.disk.entries = entries_are _ step.disk in
          let nothing : appended o.kept ≡ [] = ap appended step.kept in
          record {
            lone = record {
              unsaved = bare _ step.disk (record { term = lone.unsaved.term; count = lone.unsaved.count; saved = lone.unsaved.saved });
              within = omega (arith, step.commit, ap length same, lone.within);
              value = step.machine ∙ lone.value ∙ sym (ap (λ n. state_after M (take n o.state.disk.entries)) step.commit ∙ ap (λ xs. state_after M (take r.live.commit xs)) same);
              leader = λ l is. absurd (never l step.leads is);
            };
            grows = same ∙ sym (ap (λ xs. r.disk.entries ++ xs) nothing ∙ append-nil r.disk.entries);
            appends = none nothing;
            commits = λ _. step.commit;
            rises = omega (arith, step.above, ap (λ (d : DurableState). d.term) step.disk);
          }

      beginning_lone : IsBeginning M blocks r i o → IsLone M o.state
      beginning_lone step =
          let e : Entry = step.pass in
          let more : o.state.disk.entries ≡ r.disk.entries ++ e ∷ [] = entries_are _ step.disk in
          let count : length o.state.disk.entries ≡ length r.disk.entries + 1 = ap length more ∙ longer_by_one r.disk.entries e in
          let all : List Entry = r.disk.entries ++ e ∷ [] in
          let first : take r.live.commit all ≡ take r.live.commit r.disk.entries = take-append-le r.live.commit r.disk.entries (e ∷ []) lone.within in
          record {
            unsaved = bare _ step.disk (record { term = lone.unsaved.term; count = lone.unsaved.count; saved = lone.unsaved.saved });
            within = omega (arith, step.commit, count);
            value =
                step.machine ∙ ap (λ s. state_from M s (drop r.live.commit all)) (lone.value ∙ ap (state_after M) (sym first))
                ∙ sym (state_more (take r.live.commit all) (drop r.live.commit all)) ∙ ap (state_after M) (take-append-drop r.live.commit all ∙ sym more)
                ∙ ap (state_after M) (sym (ap (λ n. take n o.state.disk.entries) (step.commit ∙ sym count) ∙ take-length o.state.disk.entries));
            leader = λ new is.
                let same = new_is step.leading new step.leads is in
                record {
                  seat_is = ap (λ (d : DurableState). d.seat) step.disk;
                  all = step.commit ∙ sym count;
                  none = ap (λ (x : Leading). x.pending) (sym same) ∙ step.pending;
                  begun = omega (arith, ap (λ (x : Leading). x.begin) same, step.begin, step.commit);
                  timed = ap (λ (x : Leading). map timer_in x.timers) (sym same) ∙ ap (λ ts. map timer_in ts) step.timers ∙ timed_started o.state.live.now (M.timers o.state.live.machine);
                  pass = record {
                    place = length r.disk.entries;
                    entry = e;
                    stands = ap (λ xs. slice_get xs (length r.disk.entries)) more ∙ get_last r.disk.entries e;
                    committed = omega (arith, step.commit, step.offset_is);
                    term_is = step.term_is ∙ sym (ap (λ (d : DurableState). d.term) step.disk);
                    is_pass = step.is_pass;
                  };
                };
          }

      beginning_stays : IsBeginning M blocks r i o → StaysLone r o
      beginning_stays step =
          let only : appended o.kept ≡ step.pass ∷ [] = ap appended step.kept in
          record {
            lone = beginning_lone step;
            grows = entries_are _ step.disk ∙ ap (λ xs. r.disk.entries ++ xs) (sym only);
            appends = one step.pass only step.offset_is;
            commits = λ none. absurd (never step.leading none step.leads);
            rises = omega (arith, ap (λ (d : DurableState). d.term) step.disk);
          }

      kept_timers : (ts : List Running) → map timer_in (unchanged ts) ≡ map timer_in ts
      kept_timers ts = refl

      heard_timers : (now : ℕ) (h : Option ℕ) (ts : List Running) → map timer_in (hears_with now h ts) ≡ map timer_in ts
      heard_timers now None ts = refl
      heard_timers now (Some id) ts = timed_heard id now ts

      -- what a step leaves
      pub stays_lone : Steps M blocks r i o → StaysLone r o
      stays_lone (rests still sends tells) = still_stays unchanged kept_timers still
      stays_lone (reads step) = still_stays (hears_with r.live.now (M.heard step.query)) (heard_timers r.live.now (M.heard step.query)) step.still
      stays_lone (writes step) = appending_stays step.entry step.leading unchanged step.appends
      stays_lone (expiring step) = appending_stays step.entry step.leading (noted step.id) step.appends
      stays_lone (fencing step) = fencing_stays step
      stays_lone (beginning step) = beginning_stays step
