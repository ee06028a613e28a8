use Rattle.ox_session.proofs.KeyLists.{keys_removed, keys_rise}
use Rattle.ox_session.proofs.roster.Roster.leave.Goals as goal

pub returns-clause-keys : goal.returns-clause-keys
returns-clause-keys c = rw c.remove.ensures.after (keys_removed c.args.self.now.keys c.args.key.now)

pub returns-clause-was_in_order : goal.returns-clause-was_in_order
returns-clause-was_in_order c = keys_rise c.args.self.now.keys c.remove.ensures.was_rising
