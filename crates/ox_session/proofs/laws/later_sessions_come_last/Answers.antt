use Rattle.ox_session.specs.KeyLaws.{with_session-last}
use Rattle.ox_session.proofs.laws.later_sessions_come_last.Goals as goal

pub returns : goal.returns
returns c = with_session-last
