use Rattle.ox_quorum.proofs.Nodes.{ensemble_lawful}
use Rattle.ox_quorum.proofs.law.law_ensemble.Goals as goal

pub returns : goal.returns
returns c = ensemble_lawful
