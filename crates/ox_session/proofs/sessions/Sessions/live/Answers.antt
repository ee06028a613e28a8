use Rattle.std.proofs.Common.{◌∙◌, sym}
use Rattle.ox_session.proofs.Rosters.{open_found}
use Rattle.ox_session.proofs.sessions.Sessions.live.Goals as goal

pub returns : goal.returns
returns c = rw (← c.self.view_is) (c.contains_key.ensures ∙ sym (open_found c.args.id c.self.inside.rosters.entries))
