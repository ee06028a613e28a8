use Rattle.std.proofs.Common.{[]}
use Rattle.ox_disk_tests.proofs.journal_tests.rewritten.Goals as goal

pub fill-requires-clause-told : goal.fill-requires-clause-told
fill-requires-clause-told c told filling =
    let prepared = c.in-Ok-prepare.ensures.done [] tt c.in-Ok-prepare.ensures.state_ok.0 (c.in-Ok.ensures.open tt) in
    (_, c.in-Ok-fill_start.ensures.done [] tt c.in-Ok-fill_start.ensures.state_ok.0 prepared.1)

pub switch-requires-clause-told : goal.switch-requires-clause-told
switch-requires-clause-told c told filling =
    let prepared = c.in-Ok-prepare.ensures.done [] tt c.in-Ok-prepare.ensures.state_ok.0 (c.in-Ok.ensures.open tt) in
    let started = c.in-Ok-fill_start.ensures.done [] tt c.in-Ok-fill_start.ensures.state_ok.0 prepared.1 in
    (_, c.in-Ok-fill.ensures.done [] [] tt c.in-Ok-fill.ensures.state_ok.0 started)
