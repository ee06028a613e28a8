use Rattle.ox_report.proofs.message.add_body.Goals as goal

pub returns-in-AddFollower : goal.returns-in-AddFollower
returns-in-AddFollower c = rw c.in-AddFollower.is c.add_term_node.ensures
