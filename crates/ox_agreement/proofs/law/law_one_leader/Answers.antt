use Rattle.ox_agreement.proofs.Leaders.{one_node, one, base_rises}
use Rattle.ox_agreement.proofs.law.law_one_leader.Goals as goal

pub returns-clause-one_leader : goal.returns-clause-one_leader
returns-clause-one_leader c = one_node

pub returns-clause-grows : goal.returns-clause-grows
returns-clause-grows c = one

pub returns-clause-base_rises : goal.returns-clause-base_rises
returns-clause-base_rises c = base_rises
