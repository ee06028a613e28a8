use Rattle.oxia_top.proofs.world.World.deliver.Goals as goal

pub returns-in-Nothing : goal.returns-in-Nothing
returns-in-Nothing c = rw c.in-Nothing.ensures c.miss.ensures

pub returns-in-ToCoordinator : goal.returns-in-ToCoordinator
returns-in-ToCoordinator c = let found = c.in-ToCoordinator.ensures in rw (found.2, found.3) c.is_down.ensures

pub returns-in-NewTerm : goal.returns-in-NewTerm
returns-in-NewTerm c = rw c.in-NewTerm.ensures c.bring_fence.ensures

pub returns-in-BecomeLeader : goal.returns-in-BecomeLeader
returns-in-BecomeLeader c = rw c.in-BecomeLeader.ensures c.bring_lead.ensures
