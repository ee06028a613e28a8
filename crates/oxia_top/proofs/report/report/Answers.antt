use Rattle.std.proofs.Common.{◌≡◌, ◌++◌, ◌∙◌, ap}
use Rattle.ox_report.specs.History.{history_text}
use Rattle.oxia_top.proofs.ScheduleLemmas.{blocks_within}
use Rattle.oxia_top.proofs.ReportLemmas.{in_step, report_is}
use Rattle.oxia_top.proofs.report.report.Goals as goal

pub opening-requires-clause-some : goal.opening-requires-clause-some
opening-requires-clause-some c = rw c.blocks_in.ensures (blocks_within c.args.schedule.first (c.law_places.ensures.blocks c.args.schedule c.requires.valid)).0

pub opening-requires-clause-small : goal.opening-requires-clause-small
opening-requires-clause-small c = rw c.blocks_in.ensures (blocks_within c.args.schedule.first (c.law_places.ensures.blocks c.args.schedule c.requires.valid)).1

pub tell_events-requires-clause-there : goal.tell_events-requires-clause-there
tell_events-requires-clause-there c = c.law_places.ensures.events c.args.schedule c.requires.valid

pub add_history-requires : goal.add_history-requires
add_history-requires c =
    let opens = rw c.blocks_in.ensures at c.in_ok-opening.ensures in
    rw (c.history.ensures, c.origins.ensures)
    (in_step c.args.schedule _ _ _ _ opens c.in_ok-world.ensures c.law_in_step.ensures (c.law_places.ensures.events c.args.schedule c.requires.valid))

pub returns : goal.returns
returns c =
    let opens = rw c.blocks_in.ensures at c.in_ok-opening.ensures in
    let all = rw c.new-text.ensures at c.in_ok-world.ensures in
    let added : c.add_history.new.text ≡ c.tell_events.new.text ++ history_text c.in_ok-world.world.world.origins 0 c.in_ok-world.world.world.history = (let a = rw (c.history.ensures, c.origins.ensures) at c.in_ok-add_history.ensures in a) in
    report_is c.args.schedule _ _ _ _ opens all added
