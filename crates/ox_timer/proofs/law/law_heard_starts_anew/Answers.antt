use Rattle.ox_timer.proofs.Facts.{heard_starts}
use Rattle.ox_timer.proofs.law.law_heard_starts_anew.Goals as goal

pub returns : goal.returns
returns c = heard_starts
