use Rattle.ox_journal.proofs.Switching.{filled_more, fill_leaves, with_spare}
use Rattle.std.proofs.Common.{arith}
use Rattle.ox_journal.proofs.Turns.{held_turn}
use Rattle.ox_journal.proofs.journal.Journal.fill.Goals as goal

pub returns-in-Ok-clause-done : goal.returns-in-Ok-clause-done
returns-in-Ok-clause-done g c new part told filling rewriting =
    let lacks = c.requires.lacks filling in
    filled_more _ _ _ _ _ _ new part c.args.bytes.now (omega arith) rewriting.sizes (c.in-Ok.ensures.done _ told rewriting.gathers)

pub returns-in-Ok-clause-keeps : goal.returns-in-Ok-clause-keeps
returns-in-Ok-clause-keeps g c payloads new told filling is_open rewriting =
    with_spare _ _ _ _ payloads is_open _ (c.in-Ok.ensures.aside _ _ told rewriting.gathers is_open.aside)

pub returns-in-Ok-clause-any_moment : goal.returns-in-Ok-clause-any_moment
returns-in-Ok-clause-any_moment g c payloads new told filling is_open rewriting =
    fill_leaves _ _ _ _ payloads is_open _ (c.fill_all.ensures.any_moment _ told rewriting.gathers)

pub returns-in-Err-clause-any_moment : goal.returns-in-Err-clause-any_moment
returns-in-Err-clause-any_moment g c payloads new told filling is_open rewriting =
    fill_leaves _ _ _ _ payloads is_open _ (c.fill_all.ensures.any_moment _ told rewriting.gathers)

pub returns-in-Ok-clause-in_turn : goal.returns-in-Ok-clause-in_turn
returns-in-Ok-clause-in_turn g c payloads new told filling is_open rewriting = held_turn g.D.Disk.shows _ _ _ _ _ payloads (returns-in-Ok-clause-any_moment g c payloads new told filling is_open rewriting)

pub returns-in-Err-clause-in_turn : goal.returns-in-Err-clause-in_turn
returns-in-Err-clause-in_turn g c payloads new told filling is_open rewriting = held_turn g.D.Disk.shows _ _ _ _ _ payloads (returns-in-Err-clause-any_moment g c payloads new told filling is_open rewriting)
