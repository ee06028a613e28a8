use Rattle.std.proofs.Common.{◌≡◌, ◌∙◌, ap, sym, false, Result, Ok, Err, OnOk, OnErr}
use Rattle.std.specs.Prelude.{is_some}
use Rattle.ox_ops.specs.State.{is_open}
use Rattle.std.specs.Map.{set_value}
use Rattle.std.specs.BTreeMap.{is_at}
use Rattle.std.specs.Ordering.{nat_cmp}
use Rattle.std.proofs.lemmas.Map.Steps.{set_value_same}
use Rattle.ox_session.specs.declared.roster.Roster.{Roster}
use Rattle.ox_session.specs.Keys.{with_key}
use Rattle.ox_session.specs.Members.{sessions_of}
use Rattle.ox_session.proofs.Rosters.{sessions_set, rising_from, members_changed, some_from, members_rise, no_members_rise, open_found}
use Rattle.ox_session.proofs.sessions.Sessions.join.Goals as goal

on_ok : {T E : Type 0} (r : Result T E) (P Q : Type 0) → OnOk r P → (P → Q) → OnOk r Q
on_ok (Ok x) P Q p f = f p
on_ok (Err e) P Q p f = tt

on_err : {T E : Type 0} (r : Result T E) (P Q : Type 0) → OnErr r P → (P → Q) → OnErr r Q
on_err (Ok x) P Q p f = tt
on_err (Err e) P Q p f = f p

pub returns-clause-sessions : goal.returns-clause-sessions
returns-clause-sessions c =
    let holds = c.get_mut.follows.holds c.join.new.self in
    let value = c.in-Some.ensures.value in
    rw (← c.self.view_is) (ap sessions_of holds.0 ∙ sessions_set (is_at (nat_cmp c.args.id)) c.self.inside.rosters.entries _ c.join.new.self (sym value) c.join.ensures.timeout)

pub returns-clause-members : goal.returns-clause-members
returns-clause-members c =
    let holds = c.get_mut.follows.holds c.join.new.self in
    let value = c.in-Some.ensures.value in
    rw (← c.self.view_is) (on_ok c.join.result _ _ c.join.ensures.ok (λ keys q.
    members_changed c.args.id q _ c.join.new.self (with_key c.args.key.now) c.self.inside.rosters.entries _ (rising_from _ c.get_mut.ensures.ordered) (rising_from _ holds.4)
    (sym value) keys ((holds.3 (some_from _ _ value)).0 q)))

pub returns-clause-err : goal.returns-clause-err
returns-clause-err c =
    let holds = c.get_mut.follows.holds c.join.new.self in
    let value = c.in-Some.ensures.value in
    rw (← c.self.view_is) (on_err c.join.result _ _ c.join.ensures.err (λ same.
    holds.0 ∙ ap (λ (r : Roster). set_value (is_at (nat_cmp c.args.id)) c.self.inside.rosters.entries r) same ∙ set_value_same (is_at (nat_cmp c.args.id)) c.self.inside.rosters.entries _ (sym value)))

pub returns-in_default-clause-members : goal.returns-in_default-clause-members
returns-in_default-clause-members c q =
    let closed : is_open c.args.id (sessions_of c.self.inside.rosters.entries) ≡ false = open_found c.args.id c.self.inside.rosters.entries ∙ ap is_some (sym c.in_default.ensures.value) in
    let live = rw (← c.self.view_is) at c.requires in
    absurd (cc (sym live ∙ closed))

pub returns-clause-was_in_order : goal.returns-clause-was_in_order
returns-clause-was_in_order c =
    rw (← c.self.view_is) (members_rise c.args.id c.self.inside.rosters.entries _ (rising_from _ c.get_mut.ensures.ordered) (sym c.in-Some.ensures.value) c.join.ensures.was_in_order)

pub returns-in_default-clause-was_in_order : goal.returns-in_default-clause-was_in_order
returns-in_default-clause-was_in_order c =
    rw (← c.self.view_is) (no_members_rise c.args.id c.self.inside.rosters.entries (rising_from _ c.get_mut.ensures.ordered) (sym c.in_default.ensures.value))
