use Rattle.ox_session.proofs.Rosters.{sessions_inserted, rising_from, none_of, members_opened}
use Rattle.ox_session.proofs.sessions.Sessions.open_session.Goals as goal

pub returns-clause-sessions : goal.returns-clause-sessions
returns-clause-sessions c =
    let none = none_of c.args.id c.self.inside.rosters.entries (rw (← c.self.view_is) at c.requires) in
    let timeout = c.in_ok-roster.ensures.0 in
    rw (← c.self.view_is, c.in_ok-insert.ensures.entries, ← timeout)
    (sessions_inserted c.args.id c.in_ok-roster.roster c.self.inside.rosters.entries (rising_from _ c.in_ok-insert.ensures.was_ordered) none)

pub returns-clause-members : goal.returns-clause-members
returns-clause-members c q =
    let none = none_of c.args.id c.self.inside.rosters.entries (rw (← c.self.view_is) at c.requires) in
    rw (← c.self.view_is)
    (members_opened c.args.id q c.in_ok-roster.roster c.self.inside.rosters.entries c.insert.new.self.entries (rising_from _ c.in_ok-insert.ensures.was_ordered) (rising_from _ c.in_ok-insert.ensures.ordered)
    none c.in_ok-roster.ensures.1 (c.in_ok-insert.ensures.updates.0 q))
