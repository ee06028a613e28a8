use Rattle.ox_session.specs.KeyLaws.{with_key-there, without_key-absent}
use Rattle.ox_session.proofs.laws.repeated_edits_change_nothing.Goals as goal

pub returns-clause-join : goal.returns-clause-join
returns-clause-join c = with_key-there

pub returns-clause-leave : goal.returns-clause-leave
returns-clause-leave c = without_key-absent
