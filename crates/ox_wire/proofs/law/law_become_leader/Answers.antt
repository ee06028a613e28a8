use Rattle.ox_wire.proofs.Ruled.{become_leader_is, become_leader_from}
use Rattle.ox_wire.proofs.law.law_become_leader.Goals as goal

pub returns : goal.returns
returns c = λ term config followers. (become_leader_is term config followers, become_leader_from term config followers)
