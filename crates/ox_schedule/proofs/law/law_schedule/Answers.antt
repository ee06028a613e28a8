use Rattle.ox_schedule.proofs.ScheduleLemmas.{schedule_found, schedule_again}
use Rattle.ox_schedule.proofs.law.law_schedule.Goals as goal

pub returns : goal.returns
returns c = λ bytes s. (schedule_found bytes s, schedule_again bytes s)
