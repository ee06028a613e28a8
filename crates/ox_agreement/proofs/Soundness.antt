-- Terms never fall along a list of a tale, and none is above the term of its node.
use Rattle.std.proofs.Common.{◌≡◌, ℕ, ◌<◌, ◌≤◌, List, [], ◌∷◌, sym, ap, subst, arith, inl, inr}
use Rattle.ox_types.specs.declared.log.Entry.{Entry}
use Rattle.ox_types.specs.declared.log.Seat.{Seat}
use Rattle.ox_types.specs.declared.log.Seat.TheVariants.{Fenced, Led}
use Rattle.ox_agreement.specs.Entries.{last_term, AreOfTerm}
use Rattle.ox_agreement.specs.Tale.{Moment, latest, Was}
use Rattle.ox_agreement.specs.Steps.{Step, IsTale}
use Rattle.ox_agreement.specs.Steps.Step.{ByFencing, ByLeading, ByWriting, ByAttaching, ByGrowing}
use Rattle.ox_agreement.proofs.Fronts.{TermsNeverFall, begins_term, begins_rises, rises_more, last_more}
use Rattle.ox_agreement.proofs.Moments.{from_match, latest_was, not_fenced_led, not_fenced_attached}

-- What holds of each moment: terms never fall along its list, and none is above its term, or reaches it where it is fenced.
pub record IsSound (t : ℕ) (s : Seat) (l : List Entry) : Type 0 where
  pub rises : TermsNeverFall l
  pub most : last_term l ≤ t
  pub less : s ≡ Fenced → 0 < t → last_term l < t

blank_sound : (n : ℕ) → IsSound 0 Fenced []
blank_sound n = record { rises = tt; most = omega arith; less = λ _ h. absurd (omega arith) }

module _ (leader : ℕ → ℕ) where
  step_sound :
      (ms : List Moment) (old new : Moment) → Step leader ms old new → IsSound old.term old.seat old.entries →
      ((n t : ℕ) (l : List Entry) → Was ms n t Led l → IsSound t Led l) → IsSound new.term new.seat new.entries
  step_sound ms old new (ByFencing s) before led = record {
    rises = let e = s.same in rw e before.rises;
    most = let e = s.same in let h = s.higher in let k = before.most in let j = ap last_term e in omega arith;
    less = λ _ _. let e = s.same in let h = s.higher in let k = before.most in let j = ap last_term e in omega arith;
  }
  step_sound ms old new (ByLeading s) before led =
      let of : AreOfTerm new.term (s.pass ∷ []) = (s.of_term, tt) in
      let under : last_term old.entries ≤ new.term = let e = s.term in let k = before.most in omega arith in
      let e = s.added in
      record {
        rises = rw e (rises_more new.term old.entries (s.pass ∷ []) before.rises under of);
        most = rw e (last_more new.term old.entries (s.pass ∷ []) under of);
        less = λ f _. absurd (not_fenced_led s.seat f);
      }
  step_sound ms old new (ByWriting s) before led =
      let under : last_term old.entries ≤ new.term = let e = s.term in let k = before.most in omega arith in
      let e = s.added in
      record {
        rises = rw e (rises_more new.term old.entries s.more before.rises under s.of_term);
        most = rw e (last_more new.term old.entries s.more under s.of_term);
        less = λ f _. absurd (not_fenced_led s.seat f);
      }
  step_sound ms old new (ByAttaching s) before led =
      let k = led s.leads.0 new.term s.list s.leads.1 in
      record {
        rises = begins_rises s.follows k.rises;
        most = let j = begins_term s.follows k.rises in let i = k.most in omega arith;
        less = λ f _. absurd (not_fenced_attached s.seat f);
      }
  step_sound ms old new (ByGrowing s) before led =
      let k = led s.leads.0 new.term s.list s.leads.1 in
      record {
        rises = begins_rises s.follows k.rises;
        most = let j = begins_term s.follows k.rises in let i = k.most in omega arith;
        less = λ f _. absurd (not_fenced_attached s.seat f);
      }

  pub latest_sound :
      (ms : List Moment) (n : ℕ) → ((n t : ℕ) (s : Seat) (l : List Entry) → Was ms n t s l → IsSound t s l) →
      IsSound (latest ms n).term (latest ms n).seat (latest ms n).entries
  latest_sound ms n each =
      elim (latest_was ms n) [
        | inl e ↦ subst (λ x. IsSound x.term x.seat x.entries) (sym e) (blank_sound n)
        | inr w ↦ each n (latest ms n).term (latest ms n).seat (latest ms n).entries w
      ]

  pub sound : (ms : List Moment) → IsTale leader ms → (n t : ℕ) (s : Seat) (l : List Entry) → Was ms n t s l → IsSound t s l
  sound [] tale n t s l w = absurd w
  sound (m ∷ ms) tale n t s l (inl h) =
      from_match (λ _ t s l. IsSound t s l) h
      (step_sound ms (latest ms m.node) m tale.0 (latest_sound ms m.node (sound ms tale.1)) (λ n t l w. sound ms tale.1 n t Led l w))
  sound (m ∷ ms) tale n t s l (inr w) = sound ms tale.1 n t s l w
