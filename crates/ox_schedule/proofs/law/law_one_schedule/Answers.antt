use Rattle.ox_schedule.proofs.ScheduleLemmas.{one_schedule}
use Rattle.ox_schedule.proofs.law.law_one_schedule.Goals as goal

pub returns : goal.returns
returns c = one_schedule
