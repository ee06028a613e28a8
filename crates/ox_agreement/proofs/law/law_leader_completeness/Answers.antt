use Rattle.ox_agreement.proofs.Keeping.{story_complete, story_candidates, story_agrees, story_recoverable}
use Rattle.ox_agreement.proofs.law.law_leader_completeness.Goals as goal

pub returns-clause-complete : goal.returns-clause-complete
returns-clause-complete c = story_complete

pub returns-clause-candidates : goal.returns-clause-candidates
returns-clause-candidates c = story_candidates

pub returns-clause-one_history : goal.returns-clause-one_history
returns-clause-one_history c = story_agrees

pub returns-clause-recoverable : goal.returns-clause-recoverable
returns-clause-recoverable c = story_recoverable
