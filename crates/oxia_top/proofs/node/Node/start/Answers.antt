use Rattle.oxia_top.proofs.NodeLemmas.{started_is, stands_either}
use Rattle.oxia_top.proofs.node.Node.start.Goals as goal

pub returns-in-Ok : goal.returns-in-Ok
returns-in-Ok c =
    let held = c.law_kept.ensures.seen tt c.self.invariant.kept in
    let found = c.in-Ok.ensures.found c.self.inside.replica.disk tt (stands_either _ _ _ _ _ c.law_either_order.ensures held c.close-first.ensures.either) in
    started_is c.self.inside.blocks c.self.inside.power c.self.inside.replica c.in-Ok.replica c.args.self c.self.view_is c.requires found c.in-Ok.ensures.opened.3
