use Rattle.std.proofs.Common.{◌≡◌, ◌∙◌, [], Some, None, true, false, ap, sym, refl}
use Rattle.std.specs.Prelude.{is_some}
use Rattle.ox_ops.specs.State.{is_open}
use Rattle.ox_session.specs.Members.{sessions_of}
use Rattle.ox_session.proofs.Rosters.{rising_from, open_found, members_found, keys_at, sessions_absent, members_absent, sessions_removed, members_edited}
use Rattle.ox_session.proofs.sessions.Sessions.close_session.Goals as goal

pub returns-in-None-clause-keys : goal.returns-in-None-clause-keys
returns-in-None-clause-keys c =
    let closed : is_open c.args.id (sessions_of c.self.inside.rosters.entries) ≡ false = open_found c.args.id c.self.inside.rosters.entries ∙ ap is_some (sym c.in-None.ensures.value) in
    rw (← c.self.view_is, closed) refl

pub returns-in-None-clause-sessions : goal.returns-in-None-clause-sessions
returns-in-None-clause-sessions c = rw (← c.self.view_is) (sessions_absent c.args.id c.self.inside.rosters.entries (sym c.in-None.ensures.value))

pub returns-in-None-clause-members : goal.returns-in-None-clause-members
returns-in-None-clause-members c q =
    rw (← c.self.view_is) (members_absent c.args.id q [] c.self.inside.rosters.entries (rising_from _ c.self.invariant) (sym c.in-None.ensures.value) refl)

pub returns-clause-keys : goal.returns-clause-keys
returns-clause-keys c =
    let value = c.in-Some.ensures.value in
    let live : is_open c.args.id (sessions_of c.self.inside.rosters.entries) ≡ true = open_found c.args.id c.self.inside.rosters.entries ∙ ap is_some (sym value) in
    let members = members_found c.args.id c.self.inside.rosters.entries (rising_from _ c.self.invariant) ∙ ap keys_at (sym value) in
    rw (← c.self.view_is, live) (ap Some (c.in_ok-keys-in-Some.ensures ∙ sym members))

pub returns-clause-sessions : goal.returns-clause-sessions
returns-clause-sessions c = rw (← c.self.view_is) (ap sessions_of c.remove.ensures.entries ∙ sessions_removed c.args.id c.self.inside.rosters.entries (rising_from _ c.self.invariant))

pub returns-clause-members : goal.returns-clause-members
returns-clause-members c q =
    rw (← c.self.view_is)
    (members_edited c.args.id q None c.self.inside.rosters.entries c.remove.new.self.entries [] (rising_from _ c.self.invariant) (rising_from _ c.remove.ensures.ordered) refl (c.remove.ensures.updates.0 q))
