-- A node that took part in a term isn't fenced at it again.
use Rattle.std.proofs.Common.{◌≡◌, ℕ, ◌≤◌, List, [], ◌∷◌, sym, subst, arith, inl, inr}
use Rattle.ox_types.specs.declared.log.Entry.{Entry}
use Rattle.ox_types.specs.declared.log.Seat.TheVariants.{Fenced, Attached, Led}
use Rattle.ox_agreement.specs.Tale.{Moment, latest, TookPart}
use Rattle.ox_agreement.specs.Steps.{Fences, Step, IsTale}
use Rattle.ox_agreement.specs.Steps.Step.{ByFencing, ByLeading, ByWriting, ByAttaching, ByGrowing}
use Rattle.ox_agreement.proofs.Moments.{latest_by, not_fenced_led, not_fenced_attached, term_rises}

module _ (leader : ℕ → ℕ) where
  -- it took part so in the newest moment, or in an earlier one
  pub data TookPartBy (m : Moment) (ms : List Moment) (n t : ℕ) (q : List Entry) : Type 0 where
    newly : (m.seat ≡ Fenced → ⊥) → m.node ≡ n → m.term ≡ t → m.entries ≡ q → TookPartBy m ms n t q
    earlier : TookPart ms n t q → TookPartBy m ms n t q

  pub took_part_by : (m : Moment) (ms : List Moment) (n t : ℕ) (q : List Entry) → TookPart (m ∷ ms) n t q → TookPartBy m ms n t q
  took_part_by m ms n t q (inl (inl h)) = newly (not_fenced_attached h.at_seat) h.at_node h.at_term h.has
  took_part_by m ms n t q (inl (inr w)) = earlier (inl w)
  took_part_by m ms n t q (inr (inl h)) = newly (not_fenced_led h.at_seat) h.at_node h.at_term h.has
  took_part_by m ms n t q (inr (inr w)) = earlier (inr w)

  pub took_part_rises : (ms : List Moment) → IsTale leader ms → (n t : ℕ) (q : List Entry) → TookPart ms n t q → t ≤ (latest ms n).term
  took_part_rises ms tale n t q (inl w) = term_rises leader ms tale n t Attached q w
  took_part_rises ms tale n t q (inr w) = term_rises leader ms tale n t Led q w

  -- a step behind which a node is fenced is one to a higher term
  pub fenced_higher : (ms : List Moment) (old new : Moment) → Step leader ms old new → new.seat ≡ Fenced → Fences old new
  fenced_higher ms old new (ByFencing s) e = s
  fenced_higher ms old new (ByLeading s) e = absurd (not_fenced_led s.seat e)
  fenced_higher ms old new (ByWriting s) e = absurd (not_fenced_led s.seat e)
  fenced_higher ms old new (ByAttaching s) e = absurd (not_fenced_attached s.seat e)
  fenced_higher ms old new (ByGrowing s) e = absurd (not_fenced_attached s.seat e)

  -- a node that took part in its latest term isn't fenced
  pub stays :
      (ms : List Moment) → IsTale leader ms → (n t : ℕ) (q : List Entry) → TookPart ms n t q → (latest ms n).term ≡ t →
      (latest ms n).seat ≡ Fenced → ⊥
  stays [] tale n t q (inl w) = absurd w
  stays [] tale n t q (inr w) = absurd w
  stays (m ∷ ms) tale n t q st = stays_by (took_part_by m ms n t q st) (stays ms tale.1 n t q)
    where
      stays_by :
          TookPartBy m ms n t q → (TookPart ms n t q → (latest ms n).term ≡ t → (latest ms n).seat ≡ Fenced → ⊥) →
          (latest (m ∷ ms) n).term ≡ t → (latest (m ∷ ms) n).seat ≡ Fenced → ⊥
      stays_by (newly not at _ _) each = latest_by (λ x. x.term ≡ t → x.seat ≡ Fenced → ⊥) m ms n (λ _ _ f. not f) (λ e. absurd (e at))
      stays_by (earlier w) each =
          latest_by (λ x. x.term ≡ t → x.seat ≡ Fenced → ⊥) m ms n
          (λ e term f.
          let h = (fenced_higher ms (latest ms m.node) m tale.0 f).higher in
          let k : t ≤ (latest ms m.node).term = subst (λ x. t ≤ (latest ms x).term) (sym e) (took_part_rises ms tale.1 n t q w) in
          absurd (omega arith))
          (λ _. each w)
