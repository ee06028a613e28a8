use Rattle.ox_agreement.proofs.Matching.{matching, numbered}
use Rattle.ox_agreement.proofs.law.law_matching_logs.Goals as goal

pub returns-clause-matching : goal.returns-clause-matching
returns-clause-matching c = matching

pub returns-clause-numbered : goal.returns-clause-numbered
returns-clause-numbered c = numbered
