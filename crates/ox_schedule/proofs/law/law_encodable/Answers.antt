use Rattle.ox_schedule.proofs.LawfulLemmas.{all_encodable}
use Rattle.ox_schedule.proofs.law.law_encodable.Goals as goal

pub returns : goal.returns
returns c = all_encodable
