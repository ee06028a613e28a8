-- What an edit of the rosters makes of the sessions and their members.
use Rattle.std.proofs.Common.{◌≡◌, ◌∙◌, ℕ, ◌<◌, ◌≤◌, ◌==◌, Bool, true, false, List, [], ◌∷◌, ◌++◌, map, filter, nat_lt, refl, sym, ap, subst, arith, inl, inr, cond}
use Rattle.std.specs.Prelude.{not, Option, Some, None, is_some, if◌then◌else◌, IsSome}
use Rattle.std.specs.List.{AllByRecursion}
use Rattle.std.specs.List.Sorted.{IsStrictlySortedBy}
use Rattle.std.specs.Map.{lookup, set_value, remove_entry, keys_of}
use Rattle.std.specs.BTreeMap.{is_at, insert_entry}
use Rattle.std.specs.Ordering.{nat_cmp, is_eq}
use Rattle.std.specs.declared.cmp.Ordering.TheVariants.{Less, Equal, Greater}
use Rattle.std.proofs.lemmas.Bool.{cases_Bool, cases_eq, lt-ltb, le-ltb}
use Rattle.std.proofs.lemmas.Bool.Decides.{nat_tests}
use Rattle.std.proofs.lemmas.List.{map-append, append-nil}
use Rattle.std.proofs.lemmas.List.Elements.{filter-append}
use Rattle.std.proofs.lemmas.List.Concat.{flat_map-cons}
use Rattle.std.proofs.lemmas.Option.{same_Some}
use Rattle.ox_ops.specs.State.{Session, is_open}
use Rattle.ox_session.specs.declared.roster.Roster.{Roster}
use Rattle.ox_session.specs.Keys.{keys_in, KeysRise}
use Rattle.ox_session.specs.Members.{sessions_of, pairs_in, joined, members_in, with_session}

abbrev Rosters : Type 0
Rosters = List (ℕ × Roster)

-- ---- tests of numbers

eq_true : (a b : ℕ) → a ≡ b → (a == b) ≡ true
eq_true a b h = grind (arith, nat_tests)

eq_false : (a b : ℕ) → (a ≡ b → ⊥) → (a == b) ≡ false
eq_false a b h = grind (arith, nat_tests)

from_lt : (a b : ℕ) → nat_lt a b ≡ true → a < b
from_lt a b e = grind (arith, nat_tests)

cmp_less : (a b : ℕ) → a < b → nat_cmp a b ≡ Less
cmp_less a b h = rw (lt-ltb a b h) refl

cmp_equal : (a b : ℕ) → a ≡ b → nat_cmp a b ≡ Equal
cmp_equal a b h =
    let x = le-ltb a b (omega arith) in
    let y = eq_true a b h in
    rw (x, y) refl

cmp_greater : (a b : ℕ) → b < a → nat_cmp a b ≡ Greater
cmp_greater a b h =
    let x = le-ltb a b (omega arith) in
    let y = eq_false a b (λ e. absurd (omega arith)) in
    rw (x, y) refl

-- is it this id?
at_same : (a b : ℕ) → a ≡ b → is_at (nat_cmp a) b ≡ true
at_same a b e = ap is_eq (cmp_equal a b e)

at_other : (a b : ℕ) → (a ≡ b → ⊥) → is_at (nat_cmp a) b ≡ false
at_other a b ne = elim (cases_Bool (nat_lt a b)) [
  | inl less ↦ ap is_eq (cmp_less a b (from_lt a b less))
  | inr more ↦ ap is_eq (cmp_greater a b (greater a b more ne))
]
  where
    greater : (a b : ℕ) → nat_lt a b ≡ false → (a ≡ b → ⊥) → b < a
    greater a b e ne = grind (arith, nat_tests)

-- ---- ids rise

abbrev IsBelow : ℕ → Rosters → Type 0
IsBelow id [] = Unit {0}
IsBelow id (e ∷ es) = (id < e.0) × IsBelow id es

abbrev pub IsRising : Rosters → Type 0
IsRising [] = Unit {0}
IsRising (e ∷ es) = IsBelow e.0 es × IsRising es

less_of : (a b : ℕ) → nat_cmp a b ≡ Less → a < b
less_of a b e = elim (cases_Bool (nat_lt a b)) [
  | inl less ↦ from_lt a b less
  | inr more ↦ elim (cases_Bool (a == b)) [
    | inl same ↦ cc (rw (more, same) at e)
    | inr other ↦ cc (rw (more, other) at e)
  ]
]

below_from : (id : ℕ) (es : Rosters) → AllByRecursion (λ k. nat_cmp id k ≡ Less) (keys_of es) → IsBelow id es
below_from id [] h = tt
below_from id (e ∷ es) h = (less_of id e.0 h.0, below_from id es h.1)

pub rising_from : (es : Rosters) → IsStrictlySortedBy nat_cmp (keys_of es) → IsRising es
unfolding IsStrictlySortedBy
rising_from [] h = tt
rising_from (e ∷ es) h = (below_from e.0 es h.0, rising_from es h.1)

below_earlier : (a b : ℕ) (es : Rosters) → a < b → IsBelow b es → IsBelow a es
below_earlier a b [] lt h = tt
below_earlier a b (e ∷ es) lt h = (let more = h.0 in omega arith, below_earlier a b es lt h.1)

-- ---- members are those of the roster

-- the keys of what a look-up found
abbrev pub keys_at : Option Roster → List (List ℕ)
keys_at None = []
keys_at (Some r) = keys_in r

one_same : (id q : ℕ) (ks : List (List ℕ)) → (id == q) ≡ true → map (λ (p : ℕ × List ℕ). p.1) (filter (λ (p : ℕ × List ℕ). p.0 == q) (map (λ k. (id, k)) ks)) ≡ ks
one_same id q [] e = refl
one_same id q (k ∷ ks) e = rw e (ap (λ (xs : List (List ℕ)). k ∷ xs) (one_same id q ks e))

one_other : (id q : ℕ) (ks : List (List ℕ)) → (id == q) ≡ false → map (λ (p : ℕ × List ℕ). p.1) (filter (λ (p : ℕ × List ℕ). p.0 == q) (map (λ k. (id, k)) ks)) ≡ []
one_other id q [] e = refl
one_other id q (k ∷ ks) e = rw e (one_other id q ks e)

members_cons : (q : ℕ) (e : ℕ × Roster) (es : Rosters) → members_in q (e ∷ es) ≡ map (λ (p : ℕ × List ℕ). p.1) (filter (λ (p : ℕ × List ℕ). p.0 == q) (pairs_in e)) ++ members_in q es
members_cons q e es =
    ap (λ (ps : List (ℕ × List ℕ)). map (λ (p : ℕ × List ℕ). p.1) (filter (λ (p : ℕ × List ℕ). p.0 == q) ps)) (flat_map-cons pairs_in e es)
    ∙ ap (map (λ (p : ℕ × List ℕ). p.1)) (filter-append (λ (p : ℕ × List ℕ). p.0 == q) (pairs_in e) (joined es))
    ∙ map-append (λ (p : ℕ × List ℕ). p.1) (filter (λ (p : ℕ × List ℕ). p.0 == q) (pairs_in e)) (filter (λ (p : ℕ × List ℕ). p.0 == q) (joined es))

members_none : (q : ℕ) (es : Rosters) → IsBelow q es → members_in q es ≡ []
members_none q [] h = refl
members_none q (e ∷ es) h =
    let more = h.0 in
    let other = eq_false e.0 q (λ same. absurd (omega arith)) in
    members_cons q e es ∙ ap (λ (ks : List (List ℕ)). ks ++ members_in q es) (one_other e.0 q (keys_in e.1) other) ∙ members_none q es h.1

pub members_found : (q : ℕ) (es : Rosters) → IsRising es → members_in q es ≡ keys_at (lookup (is_at (nat_cmp q)) es)
members_found q [] h = refl
members_found q (e ∷ es) h = elim (cases_eq q e.0) [
  | inl same ↦
      let here = at_same q e.0 same in
      let yes = eq_true e.0 q (sym same) in
      let rest = members_none q es (rw same h.0) in
      rw here (members_cons q e es ∙ ap (λ (ks : List (List ℕ)). ks ++ members_in q es) (one_same e.0 q (keys_in e.1) yes)
      ∙ ap (λ (ks : List (List ℕ)). keys_in e.1 ++ ks) rest ∙ append-nil (keys_in e.1))
  | inr other ↦
      let past = at_other q e.0 other in
      let no = eq_false e.0 q (λ same. other (sym same)) in
      rw past (members_cons q e es ∙ ap (λ (ks : List (List ℕ)). ks ++ members_in q es) (one_other e.0 q (keys_in e.1) no) ∙ members_found q es h.1)
]

-- ---- the sessions

pub open_found : (id : ℕ) (es : Rosters) → is_open id (sessions_of es) ≡ is_some (lookup (is_at (nat_cmp id)) es)
open_found id [] = refl
open_found id (e ∷ es) = elim (cases_eq id e.0) [
  | inl same ↦
      let here = at_same id e.0 same in
      let yes = eq_true e.0 id (sym same) in
      rw (here, yes) refl
  | inr other ↦
      let past = at_other id e.0 other in
      let no = eq_false e.0 id (λ same. other (sym same)) in
      rw (past, no) (open_found id es)
]

lesser_none : (id : ℕ) (es : Rosters) → IsBelow id es → filter (λ (x : Session). nat_lt x.id id) (sessions_of es) ≡ []
lesser_none id [] h = refl
lesser_none id (e ∷ es) h =
    let more = h.0 in
    let no = le-ltb e.0 id (omega arith) in
    rw no (lesser_none id es h.1)

greater_all : (id : ℕ) (es : Rosters) → IsBelow id es → filter (λ (x : Session). nat_lt id x.id) (sessions_of es) ≡ sessions_of es
greater_all id [] h = refl
greater_all id (e ∷ es) h =
    let yes = lt-ltb id e.0 h.0 in
    rw yes (ap (λ (xs : List Session). record { id = e.0; timeout = e.1.timeout } ∷ xs) (greater_all id es h.1))

others_all : (id : ℕ) (es : Rosters) → IsBelow id es → sessions_of es ≡ filter (λ (x : Session). not (x.id == id)) (sessions_of es)
others_all id [] h = refl
others_all id (e ∷ es) h =
    let more = h.0 in
    let no = eq_false e.0 id (λ same. absurd (omega arith)) in
    rw no (ap (λ (xs : List Session). record { id = e.0; timeout = e.1.timeout } ∷ xs) (others_all id es h.1))

pub sessions_inserted : (id : ℕ) (r : Roster) (es : Rosters) → IsRising es → lookup (is_at (nat_cmp id)) es ≡ None
    → sessions_of (insert_entry nat_cmp es id r) ≡ with_session (record { id = id; timeout = r.timeout }) (sessions_of es)
sessions_inserted id r [] h none = refl
sessions_inserted id r (e ∷ es) h none = elim (cases_Bool (nat_lt id e.0)) [
  | inl less ↦
      let lt = from_lt id e.0 less in
      let low = lesser_none id (e ∷ es) (lt, below_earlier id e.0 es lt h.0) in
      let high = greater_all id (e ∷ es) (lt, below_earlier id e.0 es lt h.0) in
      let order = cmp_less id e.0 lt in
      rw (order, low, high) refl
  | inr more ↦ elim (cases_eq id e.0) [
    | inl same ↦
        let here = at_same id e.0 same in
        cc (rw here at none)
    | inr other ↦
        let gt = greater id e.0 more other in
        let order = cmp_greater id e.0 gt in
        let low = lt-ltb e.0 id gt in
        let past = at_other id e.0 other in
        let rest = sessions_inserted id r es h.1 (rw past at none) in
        rw (order, low, more) (ap (λ (xs : List Session). record { id = e.0; timeout = e.1.timeout } ∷ xs) rest)
  ]
]
  where
    greater : (a b : ℕ) → nat_lt a b ≡ false → (a ≡ b → ⊥) → b < a
    greater a b e ne = grind (arith, nat_tests)

pub sessions_removed : (id : ℕ) (es : Rosters) → IsRising es
    → sessions_of (remove_entry (is_at (nat_cmp id)) es) ≡ filter (λ (x : Session). not (x.id == id)) (sessions_of es)
sessions_removed id [] h = refl
sessions_removed id (e ∷ es) h = elim (cases_eq id e.0) [
  | inl same ↦
      let here = at_same id e.0 same in
      let yes = eq_true e.0 id (sym same) in
      rw (here, yes) (others_all id es (rw same h.0))
  | inr other ↦
      let past = at_other id e.0 other in
      let no = eq_false e.0 id (λ same. other (sym same)) in
      rw (past, no) (ap (λ (xs : List Session). record { id = e.0; timeout = e.1.timeout } ∷ xs) (sessions_removed id es h.1))
]

pub sessions_set : (test : ℕ → Bool) (es : Rosters) (r w : Roster) → lookup test es ≡ Some r → w.timeout ≡ r.timeout → sessions_of (set_value test es w) ≡ sessions_of es
sessions_set test [] r w found same = refl
sessions_set test (e ∷ es) r w found same = elim (cases_Bool (test e.0)) [
  | inl here ↦
      let value : e.1 ≡ r = same_Some e.1 r (rw here at found) in
      rw here (ap (λ (t : ℕ). record { id = e.0; timeout = t } ∷ sessions_of es) (same ∙ ap (λ (x : Roster). x.timeout) (sym value)))
  | inr past ↦ rw past (ap (λ (xs : List Session). record { id = e.0; timeout = e.1.timeout } ∷ xs) (sessions_set test es r w (rw past at found) same))
]

-- ---- what an edit of one roster changes

pub none_of : (id : ℕ) (es : Rosters) → is_open id (sessions_of es) ≡ false → lookup (is_at (nat_cmp id)) es ≡ None
none_of id es e = none (lookup (is_at (nat_cmp id)) es) (sym (open_found id es) ∙ e)
  where
    none : (o : Option Roster) → is_some o ≡ false → o ≡ None
    none None e = refl
    none (Some r) e = cc e

empty_keys : (r : Roster) → r.keys ≡ [] → keys_in r ≡ []
empty_keys r e = rw e refl

pub members_opened : (id q : ℕ) (r : Roster) (es fs : Rosters) → IsRising es → IsRising fs → lookup (is_at (nat_cmp id)) es ≡ None → r.keys ≡ []
    → lookup (is_at (nat_cmp q)) fs ≡ cond (is_at (nat_cmp id) q) (Some r) (lookup (is_at (nat_cmp q)) es) → members_in q fs ≡ members_in q es
members_opened id q r es fs h g none keys e = elim (cases_eq id q) [
  | inl same ↦
      let here = at_same id q same in
      let old : keys_at (lookup (is_at (nat_cmp q)) es) ≡ [] = ap keys_at (rw same at none) in
      members_found q fs g ∙ ap keys_at (rw here at e) ∙ empty_keys r keys ∙ sym old ∙ sym (members_found q es h)
  | inr other ↦
      let past = at_other id q other in
      members_found q fs g ∙ ap keys_at (rw past at e) ∙ sym (members_found q es h)
]

-- the members of a session whose roster is another, or is gone
pub members_edited : (id q : ℕ) (w : Option Roster) (es fs : Rosters) (keys : List (List ℕ)) → IsRising es → IsRising fs → keys_at w ≡ keys
    → lookup (is_at (nat_cmp q)) fs ≡ cond (is_at (nat_cmp id) q) w (lookup (is_at (nat_cmp q)) es) → members_in q fs ≡ (if q == id then keys else members_in q es)
members_edited id q w es fs keys h g is e = elim (cases_eq id q) [
  | inl same ↦
      let here = at_same id q same in
      let yes = eq_true q id (sym same) in
      rw yes (members_found q fs g ∙ ap keys_at (rw here at e) ∙ is)
  | inr other ↦
      let past = at_other id q other in
      let no = eq_false q id (λ same. other (sym same)) in
      rw no (members_found q fs g ∙ ap keys_at (rw past at e) ∙ sym (members_found q es h))
]

-- the same, by a function of the session's members
pub members_changed : (id q : ℕ) (r w : Roster) (change : List (List ℕ) → List (List ℕ)) (es fs : Rosters) → IsRising es → IsRising fs
    → lookup (is_at (nat_cmp id)) es ≡ Some r → keys_in w ≡ change (keys_in r)
    → lookup (is_at (nat_cmp q)) fs ≡ cond (is_at (nat_cmp id) q) (Some w) (lookup (is_at (nat_cmp q)) es) → members_in q fs ≡ (if q == id then change (members_in q es) else members_in q es)
members_changed id q r w change es fs h g found is e = elim (cases_eq id q) [
  | inl same ↦
      let here = at_same id q same in
      let yes = eq_true q id (sym same) in
      let old : members_in q es ≡ keys_in r = members_found q es h ∙ ap keys_at (rw same at found) in
      rw yes (members_found q fs g ∙ ap keys_at (rw here at e) ∙ is ∙ ap change (sym old))
  | inr other ↦
      let past = at_other id q other in
      let no = eq_false q id (λ same. other (sym same)) in
      rw no (members_found q fs g ∙ ap keys_at (rw past at e) ∙ sym (members_found q es h))
]

-- what was found
pub some_from : (o : Option Roster) (r : Roster) → Some r ≡ o → IsSome o
some_from None r e = cc e
some_from (Some x) r e = refl

pub sessions_absent : (id : ℕ) (es : Rosters) → lookup (is_at (nat_cmp id)) es ≡ None → sessions_of es ≡ filter (λ (x : Session). not (x.id == id)) (sessions_of es)
sessions_absent id [] none = refl
sessions_absent id (e ∷ es) none = elim (cases_eq id e.0) [
  | inl same ↦
      let here = at_same id e.0 same in
      cc (rw here at none)
  | inr other ↦
      let past = at_other id e.0 other in
      let no = eq_false e.0 id (λ same. other (sym same)) in
      rw no (ap (λ (xs : List Session). record { id = e.0; timeout = e.1.timeout } ∷ xs) (sessions_absent id es (rw past at none)))
]

pub members_absent : (id q : ℕ) (keys : List (List ℕ)) (es : Rosters) → IsRising es → lookup (is_at (nat_cmp id)) es ≡ None → keys ≡ [] → members_in q es ≡ (if q == id then keys else members_in q es)
members_absent id q keys es h none empty = elim (cases_eq id q) [
  | inl same ↦
      let yes = eq_true q id (sym same) in
      rw yes (members_found q es h ∙ ap keys_at (rw same at none) ∙ sym empty)
  | inr other ↦
      let no = eq_false q id (λ same. other (sym same)) in
      rw no refl
]

pub members_left : (id q : ℕ) (change : List (List ℕ) → List (List ℕ)) (es fs : Rosters) → fs ≡ es → IsRising es → lookup (is_at (nat_cmp id)) es ≡ None → change [] ≡ []
    → members_in q fs ≡ (if q == id then change (members_in q es) else members_in q es)
members_left id q change es fs same_rosters h none empty = elim (cases_eq id q) [
  | inl same ↦
      let yes = eq_true q id (sym same) in
      let nobody : members_in q es ≡ [] = members_found q es h ∙ ap keys_at (rw same at none) in
      rw (yes, same_rosters, nobody) (sym empty)
  | inr other ↦
      let no = eq_false q id (λ same. other (sym same)) in
      rw (no, same_rosters) refl
]

-- the members of a session whose roster was found, or of none
pub members_rise : (id : ℕ) (es : Rosters) (r : Roster) → IsRising es → lookup (is_at (nat_cmp id)) es ≡ Some r → KeysRise (keys_in r) → KeysRise (members_in id es)
members_rise id es r h found rise = subst KeysRise (sym (members_found id es h ∙ ap keys_at found)) rise

pub no_members_rise : (id : ℕ) (es : Rosters) → IsRising es → lookup (is_at (nat_cmp id)) es ≡ None → KeysRise (members_in id es)
no_members_rise id es h none = subst KeysRise (sym (members_found id es h ∙ ap keys_at none)) tt
