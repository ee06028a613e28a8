use Rattle.std.proofs.lemmas.Result.{err_from_is_err_and}
use Rattle.ox_bytes.specs.ListLaws.{course_goes_on, course_fails, course_is_done}
use Rattle.ox_wire.specs.BodyForms.{followers_course, followers}
use Rattle.ox_wire.proofs.fields.followers.take_followers.Goals as goal

pub returns-in_err-follower : goal.returns-in_err-follower
returns-in_err-follower c =
    let p = err_from_is_err_and c.from_residual-in_err-follower.result c.from_residual-in_err-follower.ensures.1 in
    rw (p.1, p.2) (course_fails followers_course c.loop.followers c.in_ok-count.count c.loop.counter c.loop.least c.loop.from (followers.at c.args.from.now) c.in_err-follower.field-0.0 c.loop-test.true c.in_err-follower.ensures c.loop.invariant)

pub loop-preserved : goal.loop-preserved
loop-preserved c =
    rw (c.in_ok-push.ensures.ok, c.past-least.ensures) (course_goes_on followers_course c.loop.followers c.in_ok-count.count c.loop.counter c.loop.least c.loop.from (followers.at c.args.from.now) c.in_ok-follower.follower c.take_follower.new.from c.loop-test.true c.in_ok-follower.ensures c.loop.invariant)

pub returns : goal.returns
returns c = course_is_done followers_course c.loop.followers c.in_ok-count.count c.loop.counter c.loop.least c.loop.from (followers.at c.args.from.now) c.loop-test.false c.loop.invariant
