use Rattle.ox_schedule.proofs.BadLineLemmas.{bad_found, bad_again}
use Rattle.ox_schedule.proofs.law.law_first_bad_line.Goals as goal

pub returns : goal.returns
returns c = λ bytes n r. (bad_found bytes n r, bad_again bytes n r)
