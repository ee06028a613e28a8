use Rattle.std.proofs.lemmas.Result.{err_from_is_err_and}
use Rattle.ox_bytes.specs.ListLaws.{course_goes_on, course_fails, course_is_done}
use Rattle.ox_wire.specs.BodyForms.{entries_course, entries_from}
use Rattle.ox_wire.proofs.fields.append.take_entries.Goals as goal

pub returns-in_err-entry : goal.returns-in_err-entry
returns-in_err-entry c =
    let p = err_from_is_err_and c.from_residual-in_err-entry.result c.from_residual-in_err-entry.ensures.1 in
    rw (p.1, p.2) (course_fails (entries_course c.args.top) c.loop.entries c.in_ok-count.count c.loop.counter c.loop.next c.loop.from ((entries_from c.args.top c.args.offset).at c.args.from.now) c.in_err-entry.field-0.0 c.loop-test.true c.in_err-entry.ensures.read c.loop.invariant)

pub loop-preserved : goal.loop-preserved
loop-preserved c =
    rw (c.in_ok-push.ensures.ok, c.past-next.ensures) (course_goes_on (entries_course c.args.top) c.loop.entries c.in_ok-count.count c.loop.counter c.loop.next c.loop.from ((entries_from c.args.top c.args.offset).at c.args.from.now) c.in_ok-entry.entry c.take_entry.new.from c.loop-test.true c.in_ok-entry.ensures.read c.loop.invariant)

pub returns : goal.returns
returns c = course_is_done (entries_course c.args.top) c.loop.entries c.in_ok-count.count c.loop.counter c.loop.next c.loop.from ((entries_from c.args.top c.args.offset).at c.args.from.now) c.loop-test.false c.loop.invariant
