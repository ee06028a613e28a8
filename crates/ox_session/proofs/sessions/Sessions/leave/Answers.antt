use Rattle.std.proofs.Common.{◌∙◌, ℕ, ap, sym, refl, BTreeMap}
use Rattle.ox_session.specs.declared.roster.Roster.{Roster}
use Rattle.std.specs.BTreeMap.{is_at}
use Rattle.std.specs.Ordering.{nat_cmp}
use Rattle.ox_session.specs.Keys.{without_key}
use Rattle.ox_session.specs.Members.{sessions_of}
use Rattle.ox_session.proofs.Rosters.{sessions_set, rising_from, members_changed, members_left, some_from, members_rise, no_members_rise}
use Rattle.ox_session.proofs.sessions.Sessions.leave.Goals as goal

pub returns-clause-sessions : goal.returns-clause-sessions
returns-clause-sessions c =
    let holds = c.get_mut.follows.holds c.leave.new.self in
    let value = c.in-Some.ensures.value in
    rw (← c.self.view_is) (ap sessions_of holds.0 ∙ sessions_set (is_at (nat_cmp c.args.id)) c.self.inside.rosters.entries _ c.leave.new.self (sym value) c.leave.ensures.timeout)

pub returns-clause-members : goal.returns-clause-members
returns-clause-members c q =
    let holds = c.get_mut.follows.holds c.leave.new.self in
    let value = c.in-Some.ensures.value in
    rw (← c.self.view_is)
    (members_changed c.args.id q _ c.leave.new.self (without_key c.args.key.now) c.self.inside.rosters.entries _ (rising_from _ c.get_mut.ensures.ordered) (rising_from _ holds.4)
    (sym value) c.leave.ensures.keys ((holds.3 (some_from _ _ value)).0 q))

pub returns-in_default-clause-members : goal.returns-in_default-clause-members
returns-in_default-clause-members c q =
    rw (← c.self.view_is)
    (members_left c.args.id q (without_key c.args.key.now) c.self.inside.rosters.entries _ (ap (λ (m : BTreeMap ℕ Roster). m.entries) c.get_mut.follows.holds-at-none)
    (rising_from _ c.get_mut.ensures.ordered) (sym c.in_default.ensures.value) refl)

pub returns-clause-was_in_order : goal.returns-clause-was_in_order
returns-clause-was_in_order c =
    rw (← c.self.view_is) (members_rise c.args.id c.self.inside.rosters.entries _ (rising_from _ c.get_mut.ensures.ordered) (sym c.in-Some.ensures.value) c.leave.ensures.was_in_order)

pub returns-in_default-clause-was_in_order : goal.returns-in_default-clause-was_in_order
returns-in_default-clause-was_in_order c =
    rw (← c.self.view_is) (no_members_rise c.args.id c.self.inside.rosters.entries (rising_from _ c.get_mut.ensures.ordered) (sym c.in_default.ensures.value))
