use Rattle.ox_types.specs.Durable.{blank}
use Rattle.oxia_top.proofs.NodeLemmas.{blank_stands, opened_is}
use Rattle.oxia_top.proofs.node.Node.blank.Goals as goal

pub returns-in-Ok : goal.returns-in-Ok
returns-in-Ok c =
    let found = c.in-Ok.ensures.found blank tt (blank_stands _ _ c.in_ok-first.ensures.blank c.in_ok-second.ensures.blank) in
    opened_is c.args.blocks c.in-Ok.replica blank found c.in-Ok.ensures.opened.3
