use Rattle.ox_schedule.proofs.ScheduleLemmas.{answers_found, answers_only}
use Rattle.ox_schedule.proofs.BadLineLemmas.{answers_first}
use Rattle.ox_schedule.proofs.reading.read_schedule.Goals as goal

pub returns-clause-found : goal.returns-clause-found
returns-clause-found c = answers_found c.args.bytes.now c.read_all.result c.read_all.ensures.exact

pub returns-clause-only : goal.returns-clause-only
returns-clause-only c = answers_only c.args.bytes.now c.read_all.result c.read_all.ensures.exact

pub returns-clause-first : goal.returns-clause-first
returns-clause-first c = answers_first c.args.bytes.now c.read_all.result c.read_all.ensures.exact
