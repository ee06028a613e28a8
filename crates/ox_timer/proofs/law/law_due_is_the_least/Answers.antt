use Rattle.ox_timer.proofs.Facts.{due_found, due_least, due_none}
use Rattle.ox_timer.proofs.law.law_due_is_the_least.Goals as goal

pub returns : goal.returns
returns c = record { found = due_found; least = due_least; none = due_none }
