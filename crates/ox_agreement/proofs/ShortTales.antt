-- Words for short tales: their moments and steps, and what holds of each of a few nodes or moments.
use Rattle.std.proofs.Common.{◌≡◌, ℕ, zero, suc, ◌<◌, ◌≤◌, Bool, true, List, [], ◌∷◌, ◌++◌}
use Rattle.std.proofs.Common.{length, slice_get, Some, sym, ap, subst, arith, inl, inr, refl}
use Rattle.std.specs.Prelude.{◌==◌, ◌||◌, ◌&&◌, nat_le, IsTrue}
use Rattle.std.proofs.lemmas.Bool.{eqb-true, leb-true, or_cases, and_parts}
use Rattle.std.proofs.lemmas.Option.{same_Some}
use Rattle.ox_types.specs.declared.log.Entry.{Entry}
use Rattle.ox_types.specs.declared.log.EntryBody.TheVariants.{Pass}
use Rattle.ox_types.specs.declared.log.Seat.{Seat}
use Rattle.ox_types.specs.declared.log.Seat.TheVariants.{Fenced, Attached, Led}
use Rattle.ox_agreement.specs.Begins.{Begins}
use Rattle.ox_agreement.specs.Tale.{Moment, latest, Matches, Was, LedFrom}
use Rattle.ox_agreement.specs.Steps.{Step, IsTale, IsFaithful, KeepsCommon}
use Rattle.ox_agreement.specs.Steps.Step.{ByFencing, ByLeading, ByAttaching}
use Rattle.ox_agreement.proofs.Beginnings.{begins_on}
use Rattle.ox_agreement.proofs.Moments.{latest_by}

-- the pass of a term, at an offset
abbrev pub pass : ℕ → ℕ → Entry
pass t offset = record { term = t; offset = offset; time = 0; body = Pass }

-- node n in term t, with this list
abbrev pub fenced : ℕ → ℕ → List Entry → Moment
fenced n t list = record { node = n; term = t; seat = Fenced; entries = list; base = 0 }

abbrev pub attached : ℕ → ℕ → List Entry → Moment
attached n t list = record { node = n; term = t; seat = Attached; entries = list; base = 0 }

abbrev pub led : ℕ → ℕ → List Entry → Moment
led n t list = record { node = n; term = t; seat = Led; entries = list; base = 0 }

-- the moment at this place of the tale
pub was_at : (tale : List Moment) (i : ℕ) (m : Moment) → slice_get tale i ≡ Some m → Was tale m.node m.term m.seat m.entries
was_at [] i m e = absurd cc
was_at (x ∷ older) zero m e =
    let same = same_Some x m e in
    inl (record {
      at_node = ap (λ y. y.node) same;
      at_term = ap (λ y. y.term) same;
      at_seat = ap (λ y. y.seat) same;
      has = ap (λ y. y.entries) same;
    })
was_at (x ∷ older) (suc i) m e = inr (was_at older i m e)

-- ---- one step more

module _ (leader : ℕ → ℕ) where
  -- node n, whose latest moment is `old`, is fenced
  pub fences :
      (older : List Moment) (n t : ℕ) (old : Moment) → latest older n ≡ old → old.term < t → IsTale leader older →
      IsTale leader (fenced n t old.entries ∷ older)
  fences older n t old is higher tale =
      let step : Step leader older old (fenced n t old.entries) = ByFencing (record { higher = higher; seat = refl; same = refl }) in
      (subst (λ x. Step leader older x (fenced n t old.entries)) (sym is) step, tale)

  -- node n, which is fenced with this list, begins to lead with a pass
  pub leads :
      (older : List Moment) (n t : ℕ) (list : List Entry) → latest older n ≡ fenced n t list → 0 < t → leader t ≡ n →
      IsTale leader older → IsTale leader (led n t (list ++ pass t (length list) ∷ []) ∷ older)
  leads older n t list is some mine tale =
      let step : Step leader older (fenced n t list) (led n t (list ++ pass t (length list) ∷ [])) =
      ByLeading (record {
        was = refl;
        seat = refl;
        term = refl;
        some_term = some;
        pass = pass t (length list);
        of_term = refl;
        numbered = refl;
        added = refl;
        is_leader = mine;
      }) in
      (subst (λ x. Step leader older x (led n t (list ++ pass t (length list) ∷ []))) (sym is) step, tale)

  -- node n, which is fenced, is attached with `list` to the leader whose moment is the newest
  pub attaches :
      (rest : List Moment) (k n t : ℕ) (had list whole : List Entry) → latest (led k t whole ∷ rest) n ≡ fenced n t had →
      Begins list whole → IsTale leader (led k t whole ∷ rest) → IsTale leader (attached n t list ∷ led k t whole ∷ rest)
  attaches rest k n t had list whole is b tale =
      let itself : Matches (led k t whole) k t Led whole = record { at_node = refl; at_term = refl; at_seat = refl; has = refl } in
      let step : Step leader (led k t whole ∷ rest) (fenced n t had) (attached n t list) =
      ByAttaching (record { was = refl; seat = refl; term = refl; list = whole; leads = (k, inl itself); follows = b }) in
      (subst (λ x. Step leader (led k t whole ∷ rest) x (attached n t list)) (sym is) step, tale)

-- with all of the leader's list it keeps what it has in common
pub attaches_whole :
    (rest : List Moment) (k n t : ℕ) (had whole : List Entry) →
    KeepsCommon (led k t whole ∷ rest) (fenced n t had) (attached n t whole)
attaches_whole rest k n t had whole =
    let itself : Matches (led k t whole) k t Led whole = record { at_node = refl; at_term = refl; at_seat = refl; has = refl } in
    record { list = whole; leads = (k, inl itself); keeps = λ _ _ b. b }

-- and one that had nothing has nothing to keep
pub attaches_new :
    (rest : List Moment) (k n t : ℕ) (list whole : List Entry) →
    KeepsCommon (led k t whole ∷ rest) (fenced n t []) (attached n t list)
attaches_new rest k n t list whole =
    let itself : Matches (led k t whole) k t Led whole = record { at_node = refl; at_term = refl; at_seat = refl; has = refl } in
    record { list = whole; leads = (k, inl itself); keeps = λ _ b _. begins_on b (record { rest = list; is = refl }) }

-- ---- each of a few

-- what holds of one node, or of two, holds of each in the set of these
pub of_one : (P : ℕ → Type 0) (k : ℕ) → P k → (n : ℕ) → IsTrue (n == k) → P n
of_one P k p n h = subst P (sym (eqb-true n k h)) p

pub of_two : (P : ℕ → Type 0) (j k : ℕ) → P j → P k → (n : ℕ) → IsTrue (n == j || n == k) → P n
of_two P j k p q n h = elim (or_cases (n == j) (n == k) h) [ inl e ↦ of_one P j p n e | inr e ↦ of_one P k q n e ]

-- each moment's term is at most this one
abbrev pub all_within : ℕ → List Moment → Bool
all_within top [] = true
all_within top (m ∷ older) = nat_le m.term top && all_within top older

pub latest_within : (top : ℕ) (tale : List Moment) → all_within top tale ≡ true → (n : ℕ) → (latest tale n).term ≤ top
latest_within top [] w n = omega arith
latest_within top (m ∷ older) w n =
    let both = and_parts (nat_le m.term top) (all_within top older) w in
    latest_by (λ x. x.term ≤ top) m older n (λ _. leb-true m.term top both.0) (λ _. latest_within top older both.1 n)

-- besides the rest, where a fenced node leads
abbrev WhereLeads : Seat → Seat → Type 0 → Type 0 → Type 0
WhereLeads Fenced Led A rest = A × rest
WhereLeads was seat A rest = rest

-- it holds of the term and the list from which each leader began
abbrev pub OfEachLeader : (ℕ → List Entry → Type 0) → List Moment → Type 0
OfEachLeader P [] = Unit {0}
OfEachLeader P (m ∷ older) = WhereLeads (latest older m.node).seat m.seat (P m.term (latest older m.node).entries) (OfEachLeader P older)

where_leads : (was seat : Seat) (A rest : Type 0) → WhereLeads was seat A rest → (was ≡ Fenced → seat ≡ Led → A) × rest
where_leads Fenced Led A rest h = (λ _ _. h.0, h.1)
where_leads Fenced Fenced A rest h = (λ _ e. absurd cc, h)
where_leads Fenced Attached A rest h = (λ _ e. absurd cc, h)
where_leads Attached seat A rest h = (λ e _. absurd cc, h)
where_leads Led seat A rest h = (λ e _. absurd cc, h)

pub of_each_leader :
    (P : ℕ → List Entry → Type 0) (tale : List Moment) → OfEachLeader P tale →
    (t : ℕ) (list : List Entry) → LedFrom tale t list → P t list
of_each_leader P [] each t list o = absurd o
of_each_leader P (m ∷ older) each t list o =
    let here = where_leads (latest older m.node).seat m.seat (P m.term (latest older m.node).entries) (OfEachLeader P older) each in
    elim o [
      | inl o ↦ subst (λ l. P t l) o.3 (subst (λ t. P t (latest older m.node).entries) o.0 (here.0 o.2 o.1))
      | inr o ↦ of_each_leader P older here.1 t list o
    ]

-- besides the rest, where a fenced node is attached
abbrev WhereAttaches : Seat → Seat → Type 0 → Type 0 → Type 0
WhereAttaches Fenced Attached A rest = A × rest
WhereAttaches was seat A rest = rest

-- each node that is attached keeps what it has in common with its leader
abbrev pub OfEachAttach : List Moment → Type 0
OfEachAttach [] = Unit {0}
OfEachAttach (m ∷ older) = WhereAttaches (latest older m.node).seat m.seat (KeepsCommon older (latest older m.node) m) (OfEachAttach older)

where_attaches : (was seat : Seat) (A rest : Type 0) → WhereAttaches was seat A rest → (was ≡ Fenced → seat ≡ Attached → A) × rest
where_attaches Fenced Attached A rest h = (λ _ _. h.0, h.1)
where_attaches Fenced Fenced A rest h = (λ _ e. absurd cc, h)
where_attaches Fenced Led A rest h = (λ _ e. absurd cc, h)
where_attaches Attached seat A rest h = (λ e _. absurd cc, h)
where_attaches Led seat A rest h = (λ e _. absurd cc, h)

pub of_each_attach : (tale : List Moment) → OfEachAttach tale → IsFaithful tale
of_each_attach [] each = tt
of_each_attach (m ∷ older) each =
    let here = where_attaches (latest older m.node).seat m.seat (KeepsCommon older (latest older m.node) m) (OfEachAttach older) each in
    (here.0, of_each_attach older here.1)

-- an entry doesn't begin an empty list, nor a list of another entry
pub begins_none : (e : Entry) → Begins (e ∷ []) [] → ⊥
begins_none e b = let i = b.is in cc

pub begins_other : (e f : Entry) → (e.term ≡ f.term → ⊥) → Begins (e ∷ []) (f ∷ []) → ⊥
begins_other e f apart b = let i = b.is in let same : e ≡ f = cc in apart (ap (λ x. x.term) same)
