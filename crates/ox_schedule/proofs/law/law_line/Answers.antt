use Rattle.ox_schedule.proofs.LineLemmas.{line_found, line_again}
use Rattle.ox_schedule.proofs.law.law_line.Goals as goal

pub returns : goal.returns
returns c = λ p line e. (line_found p line e, line_again p line e)
