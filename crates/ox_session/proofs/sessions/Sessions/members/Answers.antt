use Rattle.std.proofs.Common.{◌∙◌, ap, sym}
use Rattle.ox_session.proofs.Rosters.{rising_from, members_found, keys_at}
use Rattle.ox_session.proofs.sessions.Sessions.members.Goals as goal

pub returns-in-None : goal.returns-in-None
returns-in-None c = rw (← c.self.view_is) (c.new.ensures ∙ ap keys_at c.in-None.ensures.value ∙ sym (members_found c.args.id c.self.inside.rosters.entries (rising_from _ c.self.invariant)))

pub returns-in-Some : goal.returns-in-Some
returns-in-Some c =
    let members = ap keys_at c.in-Some.ensures.value ∙ sym (members_found c.args.id c.self.inside.rosters.entries (rising_from _ c.self.invariant)) in
    rw (← c.self.view_is, ← members) c.copies.ensures
