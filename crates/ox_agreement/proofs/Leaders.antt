-- One node leads a term, and its list only grows, from the one that it began from.
use Rattle.std.proofs.Common.{◌≡◌, ℕ, ◌<◌, ◌≤◌, List, [], ◌∷◌, refl, sym, ◌∙◌, ap, subst, arith, ◌⊎◌, inl, inr}
use Rattle.ox_types.specs.declared.log.Entry.{Entry}
use Rattle.ox_types.specs.declared.log.Seat.TheVariants.{Fenced, Led}
use Rattle.ox_agreement.specs.Begins.{Begins}
use Rattle.ox_agreement.specs.Tale.{Moment, latest, Matches, Was, LeaderHad, LeaderHadBase, LedFrom}
use Rattle.ox_agreement.specs.Steps.{BeginsToLead, Step, IsTale}
use Rattle.ox_agreement.specs.Steps.Step.{ByFencing, ByLeading, ByWriting, ByAttaching, ByGrowing}
use Rattle.ox_agreement.proofs.Beginnings.{begins_itself, begins_on}
use Rattle.ox_agreement.proofs.Moments.{latest_same, latest_by, latest_was, not_fenced_led, not_attached_led, step_term}
use Rattle.ox_agreement.proofs.Seats.{stays}

module _ (leader : ℕ → ℕ) where
  -- a node whose latest moment leads was in the tale so
  pub latest_led : (ms : List Moment) (n : ℕ) → (latest ms n).seat ≡ Led → Was ms n (latest ms n).term Led (latest ms n).entries
  latest_led ms n e =
      elim (latest_was ms n) [
        | inl b ↦ let f : (latest ms n).seat ≡ Fenced = ap (λ x. x.seat) b in absurd (not_fenced_led e f)
        | inr w ↦ subst (λ s. Was ms n (latest ms n).term s (latest ms n).entries) e w
      ]

  -- A node that led in a term leads in it still, or its term is higher.
  abbrev pub LedOn : ℕ → Moment → Type 0
  LedOn t x = (t < x.term) ⊎ ((x.term ≡ t) × (x.seat ≡ Led))

  step_leads : (ms : List Moment) (t : ℕ) (old new : Moment) → Step leader ms old new → LedOn t old → LedOn t new
  step_leads ms t old new s (inl h) = let k = step_term leader ms old new s in inl (omega arith)
  step_leads ms t old new (ByFencing s) (inr h) = let k = s.higher in let e = h.0 in inl (omega arith)
  step_leads ms t old new (ByLeading s) (inr h) = absurd (not_fenced_led h.1 s.was)
  step_leads ms t old new (ByWriting s) (inr h) = inr (s.term ∙ h.0, s.seat)
  step_leads ms t old new (ByAttaching s) (inr h) = absurd (not_fenced_led h.1 s.was)
  step_leads ms t old new (ByGrowing s) (inr h) = absurd (not_attached_led h.1 s.was)

  pub led_on : (ms : List Moment) → IsTale leader ms → (n t : ℕ) (l : List Entry) → Was ms n t Led l → LedOn t (latest ms n)
  led_on [] tale n t l w = absurd w
  led_on (m ∷ ms) tale n t l (inl h) = latest_by (λ x. LedOn t x) m ms n (λ _. inr (h.at_term, h.at_seat)) (λ e. absurd (e h.at_node))
  led_on (m ∷ ms) tale n t l (inr w) =
      let k = led_on ms tale.1 n t l w in
      latest_by (λ x. LedOn t x) m ms n
      (λ e. step_leads ms t (latest ms m.node) m tale.0 (subst (λ k. LedOn t (latest ms k)) (sym e) k))
      (λ _. k)

  -- who led in a term
  pub led_is : (ms : List Moment) → IsTale leader ms → (n t : ℕ) (l : List Entry) → Was ms n t Led l → leader t ≡ n
  led_is [] tale n t l w = absurd w
  led_is (m ∷ ms) tale n t l (inl h) = ap leader (sym h.at_term) ∙ by_step (led_is ms tale.1) tale.0 ∙ h.at_node
    where
      by_step :
          ((n t : ℕ) (l : List Entry) → Was ms n t Led l → leader t ≡ n) → Step leader ms (latest ms m.node) m →
          leader m.term ≡ m.node
      by_step each (ByFencing s) = absurd (not_fenced_led h.at_seat s.seat)
      by_step each (ByLeading s) = s.is_leader
      by_step each (ByWriting s) =
          ap leader s.term ∙ each m.node (latest ms m.node).term (latest ms m.node).entries (latest_led ms m.node s.was)
      by_step each (ByAttaching s) = absurd (not_attached_led h.at_seat s.seat)
      by_step each (ByGrowing s) = absurd (not_attached_led h.at_seat s.seat)
  led_is (m ∷ ms) tale n t l (inr w) = led_is ms tale.1 n t l w

  -- nobody leads in term 0
  pub led_some : (ms : List Moment) → IsTale leader ms → (n t : ℕ) (l : List Entry) → Was ms n t Led l → 0 < t
  led_some [] tale n t l w = absurd w
  led_some (m ∷ ms) tale n t l (inl h) = subst (λ t. 0 < t) h.at_term (by_step (led_some ms tale.1) tale.0)
    where
      by_step : ((n t : ℕ) (l : List Entry) → Was ms n t Led l → 0 < t) → Step leader ms (latest ms m.node) m → 0 < m.term
      by_step each (ByFencing s) = absurd (not_fenced_led h.at_seat s.seat)
      by_step each (ByLeading s) = s.some_term
      by_step each (ByWriting s) =
          subst (λ t. 0 < t) (sym s.term) (each m.node (latest ms m.node).term (latest ms m.node).entries (latest_led ms m.node s.was))
      by_step each (ByAttaching s) = absurd (not_attached_led h.at_seat s.seat)
      by_step each (ByGrowing s) = absurd (not_attached_led h.at_seat s.seat)
  led_some (m ∷ ms) tale n t l (inr w) = led_some ms tale.1 n t l w

  alone_in :
      (ms : List Moment) (m : Moment) → IsTale leader ms → BeginsToLead leader (latest ms m.node) m → (l : List Entry) →
      LeaderHad ms m.term l → ⊥
  alone_in ms m tale s l w =
      let same : w.0 ≡ m.node = sym (led_is ms tale w.0 m.term l w.1) ∙ s.is_leader in
      stays leader ms tale m.node m.term l (inr (subst (λ k. Was ms k m.term Led l) same w.1)) (sym s.term) s.was

  -- it is alone in its term, or it led in it before
  data LedBefore (ms : List Moment) (m : Moment) : Type 0 where
    alone : ((l : List Entry) → LeaderHad ms m.term l → ⊥) → LedBefore ms m
    before : (latest ms m.node).seat ≡ Led → m.term ≡ (latest ms m.node).term → Begins (latest ms m.node).entries m.entries → LedBefore ms m

  led_before : (ms : List Moment) (m : Moment) → IsTale leader ms → Step leader ms (latest ms m.node) m → m.seat ≡ Led → LedBefore ms m
  led_before ms m tale (ByFencing s) e = absurd (not_fenced_led e s.seat)
  led_before ms m tale (ByLeading s) e = alone (alone_in ms m tale s)
  led_before ms m tale (ByWriting s) e = before s.was s.term (record { rest = s.more; is = sym s.added })
  led_before ms m tale (ByAttaching s) e = absurd (not_attached_led e s.seat)
  led_before ms m tale (ByGrowing s) e = absurd (not_attached_led e s.seat)

  pub one_node :
      (ms : List Moment) → IsTale leader ms → (n k t : ℕ) (q r : List Entry) → Was ms n t Led q → Was ms k t Led r → n ≡ k
  one_node ms tale n k t q r v w = sym (led_is ms tale n t q v) ∙ led_is ms tale k t r w

  -- what a node had while it led begins what it has while it leads in the same term
  pub grown :
      (ms : List Moment) → IsTale leader ms → (n t : ℕ) (r : List Entry) → Was ms n t Led r →
      (latest ms n).seat ≡ Led → (latest ms n).term ≡ t → Begins r (latest ms n).entries
  grown [] tale n t r w = absurd w
  grown (m ∷ ms) tale n t r (inl h) =
      latest_by (λ x. x.seat ≡ Led → x.term ≡ t → Begins r x.entries) m ms n
      (λ _ _ _. subst (λ l. Begins r l) (sym h.has) (begins_itself r))
      (λ e. absurd (e h.at_node))
  grown (m ∷ ms) tale n t r (inr w) =
      latest_by (λ x. x.seat ≡ Led → x.term ≡ t → Begins r x.entries) m ms n
      (λ e led term.
      elim (led_before ms m tale.1 tale.0 led) [
        | alone none ↦ absurd (none r (subst (λ t. LeaderHad ms t r) (sym term) (n, w)))
        | before was same front ↦
            begins_on (grown ms tale.1 m.node t r (subst (λ k. Was ms k t Led r) (sym e) w) was (sym same ∙ term)) front
      ])
      (λ _. grown ms tale.1 n t r w)

  against_list :
      (ms : List Moment) (m : Moment) → IsTale leader (m ∷ ms) → (t : ℕ) (q r : List Entry) (n k : ℕ) →
      Matches m n t Led q → Was ms k t Led r → Begins r q
  against_list ms m tale t q r n k h w =
      let same : n ≡ k = one_node (m ∷ ms) tale n k t q r (inl h) (inr w) in
      let v : Was (m ∷ ms) m.node t Led r = inr (subst (λ k. Was ms k t Led r) (sym same ∙ sym h.at_node) w) in
      let e = latest_same m ms m.node refl in
      let b = grown (m ∷ ms) tale m.node t r v (ap (λ x. x.seat) e ∙ h.at_seat) (ap (λ x. x.term) e ∙ h.at_term) in
      subst (λ l. Begins r l) (ap (λ x. x.entries) e ∙ h.has) b

  -- of two lists of the leader of a term one begins the other
  pub one :
      (ms : List Moment) → IsTale leader ms → (t : ℕ) (q r : List Entry) → LeaderHad ms t q → LeaderHad ms t r →
      Begins q r ⊎ Begins r q
  one ms tale t q r (n, v) (k, w) = one_of ms tale n k v w
    where
      one_of : (ms : List Moment) → IsTale leader ms → (n k : ℕ) → Was ms n t Led q → Was ms k t Led r → Begins q r ⊎ Begins r q
      one_of [] tale n k v w = absurd v
      one_of (m ∷ ms) tale n k (inl g) (inl h) = inl (subst (λ l. Begins q l) (sym g.has ∙ h.has) (begins_itself q))
      one_of (m ∷ ms) tale n k (inl g) (inr w) = inr (against_list ms m tale t q r n k g w)
      one_of (m ∷ ms) tale n k (inr v) (inl h) = inl (against_list ms m tale t r q k n h v)
      one_of (m ∷ ms) tale n k (inr v) (inr w) = one_of ms tale.1 n k v w

  -- who led with this base in term t leads now with one that isn't below
  pub base_rises :
      (ms : List Moment) → IsTale leader ms → (t b : ℕ) → LeaderHadBase ms t b → (n : ℕ) → (latest ms n).seat ≡ Led →
      (latest ms n).term ≡ t → b ≤ (latest ms n).base
  base_rises [] tale t b w n = absurd w
  base_rises (m ∷ ms) tale t b w n = by_base w (base_rises ms tale.1 t b)
    where
      by_base :
          LeaderHadBase (m ∷ ms) t b →
          (LeaderHadBase ms t b → (n : ℕ) → (latest ms n).seat ≡ Led → (latest ms n).term ≡ t → b ≤ (latest ms n).base) →
          (latest (m ∷ ms) n).seat ≡ Led → (latest (m ∷ ms) n).term ≡ t → b ≤ (latest (m ∷ ms) n).base
      by_base (inl h) each =
          latest_by (λ x. x.seat ≡ Led → x.term ≡ t → b ≤ x.base) m ms n
          (λ _ _ _. let e = h.2 in omega arith)
          (λ no led term.
          let w : Was (m ∷ ms) n t Led (latest ms n).entries =
          inr (subst (λ t. Was ms n t Led (latest ms n).entries) term (latest_led ms n led)) in
          let v : Was (m ∷ ms) m.node t Led m.entries =
          inl (record { at_node = refl; at_term = h.1; at_seat = h.0; has = refl }) in
          absurd (no (one_node (m ∷ ms) tale m.node n t m.entries (latest ms n).entries v w)))
      by_base (inr w) each =
          latest_by (λ x. x.seat ≡ Led → x.term ≡ t → b ≤ x.base) m ms n
          (λ e led term. by_step e led term tale.0)
          (λ _. each w n)
        where
          based_led : (ms : List Moment) → LeaderHadBase ms t b → (n : ℕ) × (l : List Entry) × Was ms n t Led l
          based_led [] x = absurd x
          based_led (m ∷ ms) (inl x) = (m.node, m.entries, inl (record { at_node = refl; at_term = x.1; at_seat = x.0; has = refl }))
          based_led (m ∷ ms) (inr x) = let y = based_led ms x in (y.0, y.1, inr y.2)

          by_step : m.node ≡ n → m.seat ≡ Led → m.term ≡ t → Step leader ms (latest ms m.node) m → b ≤ m.base
          by_step e led term (ByFencing s) = absurd (not_fenced_led led s.seat)
          by_step e led term (ByLeading s) =
              let y = based_led ms w in absurd (alone_in ms m tale.1 s y.1 (subst (λ t. LeaderHad ms t y.1) (sym term) (y.0, y.2)))
          by_step e led term (ByWriting s) = let k = each w m.node s.was (sym s.term ∙ term) in let f = s.base_rises in omega arith
          by_step e led term (ByAttaching s) = absurd (not_attached_led led s.seat)
          by_step e led term (ByGrowing s) = absurd (not_attached_led led s.seat)

  -- what the leader of a term began from begins each of its lists
  pub opened :
      (ms : List Moment) → IsTale leader ms → (n t : ℕ) (l : List Entry) → Was ms n t Led l →
      (o : List Entry) × LedFrom ms t o × Begins o l
  opened [] tale n t l w = absurd w
  opened (m ∷ ms) tale n t l (inl h) = opened_by (opened ms tale.1) tale.0
    where
      opened_by :
          ((n t : ℕ) (l : List Entry) → Was ms n t Led l → (o : List Entry) × LedFrom ms t o × Begins o l) →
          Step leader ms (latest ms m.node) m → (o : List Entry) × LedFrom (m ∷ ms) t o × Begins o l
      opened_by each (ByFencing s) = absurd (not_fenced_led h.at_seat s.seat)
      opened_by each (ByLeading s) =
          ((latest ms m.node).entries, inl (h.at_term, h.at_seat, s.was, refl), record { rest = s.pass ∷ []; is = sym s.added ∙ h.has })
      opened_by each (ByWriting s) =
          let o = each m.node (latest ms m.node).term (latest ms m.node).entries (latest_led ms m.node s.was) in (
            o.0,
            inr (subst (λ t. LedFrom ms t o.0) (sym s.term ∙ h.at_term) o.1),
            begins_on o.2 (record { rest = s.more; is = sym s.added ∙ h.has }),
          )
      opened_by each (ByAttaching s) = absurd (not_attached_led h.at_seat s.seat)
      opened_by each (ByGrowing s) = absurd (not_attached_led h.at_seat s.seat)
  opened (m ∷ ms) tale n t l (inr w) = let o = opened ms tale.1 n t l w in (o.0, inr o.1, o.2)
