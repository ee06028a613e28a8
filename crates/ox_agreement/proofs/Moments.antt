-- Moments of a tale: the latest of a node, and that its term never falls.
use Rattle.std.proofs.Common.{◌≡◌, ℕ, ◌≤◌, cond, List, [], ◌∷◌, refl, sym, ap, subst, arith, ◌⊎◌, inl, inr, eq-eqb}
use Rattle.std.proofs.lemmas.Bool.{cases_eq, ne_eqb}
use Rattle.ox_types.specs.declared.log.Entry.{Entry}
use Rattle.ox_types.specs.declared.log.Seat.{Seat}
use Rattle.ox_types.specs.declared.log.Seat.TheVariants.{Fenced, Attached, Led}
use Rattle.ox_agreement.specs.Tale.{Moment, latest, Matches, Was}
use Rattle.ox_agreement.specs.Steps.{Step, IsTale}
use Rattle.ox_agreement.specs.Steps.Step.{ByFencing, ByLeading, ByWriting, ByAttaching, ByGrowing}

-- the moment of a node of which the tale has none
abbrev pub blank : ℕ → Moment
blank n = record { node = n; term = 0; seat = Fenced; entries = []; base = 0 }

-- what holds of the parts of a moment holds of what it matches
pub from_match :
    (P : ℕ → ℕ → Seat → List Entry → Type 0) {m : Moment} {n t : ℕ} {s : Seat} {l : List Entry} → Matches m n t s l →
    P m.node m.term m.seat m.entries → P n t s l
from_match P {m} {n} {t} {s} {l} h x =
    subst (λ k. P n t s k) h.has
    (subst (λ k. P n t k m.entries) h.at_seat
    (subst (λ k. P n k m.seat m.entries) h.at_term
    (subst (λ k. P k m.term m.seat m.entries) h.at_node x)))

pub latest_same : (m : Moment) (ms : List Moment) (n : ℕ) → m.node ≡ n → latest (m ∷ ms) n ≡ m
latest_same m ms n e = ap (λ b. cond b m (latest ms n)) (eq-eqb m.node n e)

pub latest_other : (m : Moment) (ms : List Moment) (n : ℕ) → (m.node ≡ n → ⊥) → latest (m ∷ ms) n ≡ latest ms n
latest_other m ms n e = ap (λ b. cond b m (latest ms n)) (ne_eqb m.node n e)

-- what holds of the newest moment and of the latest one before holds of the latest one
pub latest_by :
    (P : Moment → Type 0) (m : Moment) (ms : List Moment) (n : ℕ) → (m.node ≡ n → P m) → ((m.node ≡ n → ⊥) → P (latest ms n)) →
    P (latest (m ∷ ms) n)
latest_by P m ms n same other =
    elim (cases_eq m.node n) [
      | inl e ↦ subst P (sym (latest_same m ms n e)) (same e)
      | inr e ↦ subst P (sym (latest_other m ms n e)) (other e)
    ]

-- the latest moment of a node is one of the tale, or it is blank
pub latest_was : (ms : List Moment) (n : ℕ) → (latest ms n ≡ blank n) ⊎ Was ms n (latest ms n).term (latest ms n).seat (latest ms n).entries
latest_was [] n = inl refl
latest_was (m ∷ ms) n =
    latest_by (λ x. (x ≡ blank n) ⊎ Was (m ∷ ms) n x.term x.seat x.entries) m ms n
    (λ e. inr (inl (record { at_node = e; at_term = refl; at_seat = refl; has = refl })))
    (λ _. elim (latest_was ms n) [ inl e ↦ inl e | inr w ↦ inr (inr w) ])

module _ (leader : ℕ → ℕ) where
  pub step_term : (ms : List Moment) (old new : Moment) → Step leader ms old new → old.term ≤ new.term
  step_term ms old new (ByFencing s) = let k = s.higher in omega arith
  step_term ms old new (ByLeading s) = let k = s.term in omega arith
  step_term ms old new (ByWriting s) = let k = s.term in omega arith
  step_term ms old new (ByAttaching s) = let k = s.term in omega arith
  step_term ms old new (ByGrowing s) = let k = s.term in omega arith

  -- the term of a node never falls
  pub term_rises : (ms : List Moment) → IsTale leader ms → (n t : ℕ) (s : Seat) (l : List Entry) → Was ms n t s l → t ≤ (latest ms n).term
  term_rises [] tale n t s l w = absurd w
  term_rises (m ∷ ms) tale n t s l (inl h) =
      latest_by (λ x. t ≤ x.term) m ms n (λ _. let e = h.at_term in omega arith) (λ e. absurd (e h.at_node))
  term_rises (m ∷ ms) tale n t s l (inr w) =
      let k = term_rises ms tale.1 n t s l w in
      latest_by (λ x. t ≤ x.term) m ms n
      (λ e.
      let j = step_term ms (latest ms m.node) m tale.0 in
      let i : t ≤ (latest ms m.node).term = subst (λ x. t ≤ (latest ms x).term) (sym e) k in
      omega arith)
      (λ _. k)

pub not_fenced_led : {s : Seat} → s ≡ Led → s ≡ Fenced → ⊥
not_fenced_led e f = cc

pub not_fenced_attached : {s : Seat} → s ≡ Attached → s ≡ Fenced → ⊥
not_fenced_attached e f = cc

pub not_attached_led : {s : Seat} → s ≡ Led → s ≡ Attached → ⊥
not_attached_led e f = cc
