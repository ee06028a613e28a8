use Rattle.ox_timer.proofs.Facts.{retimed_ids, retimed_since}
use Rattle.ox_timer.proofs.law.law_retimed_are_the_machines.Goals as goal

pub returns : goal.returns
returns c = record { ids = retimed_ids; since = retimed_since }
