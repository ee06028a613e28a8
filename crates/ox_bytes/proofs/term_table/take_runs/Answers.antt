use Rattle.std.proofs.lemmas.Result.{err_from_is_err_and}
use Rattle.ox_bytes.specs.LogForms.{runs_course, runs_behind}
use Rattle.ox_bytes.specs.ListLaws.{course_goes_on, course_fails, course_is_done}
use Rattle.ox_bytes.proofs.term_table.take_runs.Goals as goal

pub returns-in_err-run : goal.returns-in_err-run
returns-in_err-run c =
    let p = err_from_is_err_and c.from_residual-in_err-run.result c.from_residual-in_err-run.ensures.1 in
    rw (p.1, p.2) (course_fails runs_course c.loop.runs c.in_ok-count.count c.loop.counter c.loop.least c.loop.from ((runs_behind c.args.base.now).at c.args.from.now) c.in_err-run.field-0.0 c.loop-test.true c.in_err-run.ensures.read c.loop.invariant)

pub loop-preserved : goal.loop-preserved
loop-preserved c =
    rw (c.in_ok-push.ensures.ok, c.past-least.ensures) (course_goes_on runs_course c.loop.runs c.in_ok-count.count c.loop.counter c.loop.least c.loop.from ((runs_behind c.args.base.now).at c.args.from.now) c.in_ok-run.run' c.take_run.new.from c.loop-test.true c.in_ok-run.ensures.read c.loop.invariant)

pub returns : goal.returns
returns c = course_is_done runs_course c.loop.runs c.in_ok-count.count c.loop.counter c.loop.least c.loop.from ((runs_behind c.args.base.now).at c.args.from.now) c.loop-test.false c.loop.invariant
