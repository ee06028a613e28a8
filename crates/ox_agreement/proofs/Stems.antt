-- Each beginning of a list of a tale is one of a list of the leader of its last term.
use Rattle.std.proofs.Common.{◌≡◌, ℕ, ◌<◌, List, [], ◌∷◌, ◌++◌, length, refl, sym, ◌∙◌, subst, arith, inl, inr}
use Rattle.std.proofs.lemmas.Bool.{cases_lt}
use Rattle.ox_types.specs.declared.log.Entry.{Entry}
use Rattle.ox_types.specs.declared.log.Seat.{Seat}
use Rattle.ox_types.specs.declared.log.Seat.TheVariants.{Led}
use Rattle.ox_agreement.specs.Begins.{Begins}
use Rattle.ox_agreement.specs.Entries.{last_term, AreOfTerm}
use Rattle.ox_agreement.specs.Tale.{Moment, latest, Was, LeaderHad}
use Rattle.ox_agreement.specs.Steps.{Step, IsTale}
use Rattle.ox_agreement.specs.Steps.Step.{ByFencing, ByLeading, ByWriting, ByAttaching, ByGrowing}
use Rattle.ox_agreement.proofs.Beginnings.{begins_on, begins_shorter, begins_both}
use Rattle.ox_agreement.proofs.Fronts.{front_ends_in}
use Rattle.ox_agreement.proofs.Moments.{from_match, latest_was}

-- each beginning of the list that isn't empty is one of a list of the leader of its last term
unfoldable pub Stems : List Moment → List Entry → Type 0
Stems ms l = (y : List Entry) → Begins y l → 0 < length y → (r : List Entry) × LeaderHad ms (last_term y) r × Begins y r

pub some_entries : (q : List Entry) → 0 < last_term q → 0 < length q
some_entries [] h = absurd (omega arith)
some_entries (e ∷ es) h = omega arith

pub stems_later : (m : Moment) (ms : List Moment) (l : List Entry) → Stems ms l → Stems (m ∷ ms) l
unfolding Stems
stems_later m ms l h y b some = let r = h y b some in (r.0, (r.1.0, inr r.1.1), r.2)

stems_nothing : (ms : List Moment) → Stems ms []
unfolding Stems
stems_nothing ms y b some = let k = begins_shorter b in absurd (omega arith)

module _ (leader : ℕ → ℕ) where
  led_stems :
      (m : Moment) (ms : List Moment) (old more : List Entry) → m.seat ≡ Led → AreOfTerm m.term more → m.entries ≡ old ++ more →
      Stems (m ∷ ms) old → Stems (m ∷ ms) m.entries
  unfolding Stems
  led_stems m ms old more led of e h y b some =
      elim (cases_lt (length old) (length y)) [
        | inl k ↦
            let t : last_term y ≡ m.term = front_ends_in m.term old more y b.rest of k (b.is ∙ e) in
            (m.entries, (m.node, inl (record { at_node = refl; at_term = sym t; at_seat = led; has = refl })), b)
        | inr k ↦ h y (begins_both b (record { rest = more; is = sym e }) k) some
      ]

  front_stems : (ms : List Moment) (l r : List Entry) → Begins l r → Stems ms r → Stems ms l
  unfolding Stems
  front_stems ms l r b h y c some = h y (begins_on c b) some

  step_stems :
      (ms : List Moment) (m old : Moment) → Step leader ms old m → Stems (m ∷ ms) old.entries →
      ((n t : ℕ) (l : List Entry) → Was ms n t Led l → Stems (m ∷ ms) l) → Stems (m ∷ ms) m.entries
  step_stems ms m old (ByFencing s) before led = subst (λ l. Stems (m ∷ ms) l) (sym s.same) before
  step_stems ms m old (ByLeading s) before led = led_stems m ms old.entries (s.pass ∷ []) s.seat (s.of_term, tt) s.added before
  step_stems ms m old (ByWriting s) before led = led_stems m ms old.entries s.more s.seat s.of_term s.added before
  step_stems ms m old (ByAttaching s) before led = front_stems (m ∷ ms) m.entries s.list s.follows (led s.leads.0 m.term s.list s.leads.1)
  step_stems ms m old (ByGrowing s) before led = front_stems (m ∷ ms) m.entries s.list s.follows (led s.leads.0 m.term s.list s.leads.1)

  pub latest_stems :
      (ms : List Moment) (n : ℕ) → ((n t : ℕ) (s : Seat) (l : List Entry) → Was ms n t s l → Stems ms l) →
      Stems ms (latest ms n).entries
  latest_stems ms n each =
      elim (latest_was ms n) [
        | inl e ↦ subst (λ x. Stems ms x.entries) (sym e) (stems_nothing ms)
        | inr w ↦ each n (latest ms n).term (latest ms n).seat (latest ms n).entries w
      ]

  pub stems : (ms : List Moment) → IsTale leader ms → (n t : ℕ) (s : Seat) (l : List Entry) → Was ms n t s l → Stems ms l
  stems [] tale n t s l w = absurd w
  stems (m ∷ ms) tale n t s l (inl h) =
      from_match (λ _ _ _ l. Stems (m ∷ ms) l) h
      (step_stems ms m (latest ms m.node) tale.0
      (stems_later m ms (latest ms m.node).entries (latest_stems ms m.node (stems ms tale.1)))
      (λ n t l w. stems_later m ms l (stems ms tale.1 n t Led l w)))
  stems (m ∷ ms) tale n t s l (inr w) = stems_later m ms l (stems ms tale.1 n t s l w)
