use Rattle.std.proofs.Common.{◌<◌, ◌^◌}
use Rattle.std.proofs.lemmas.List.Elements.{All-push}
use Rattle.std.proofs.lemmas.Result.{err_from_is_err_and}
use Rattle.ox_bytes.specs.ListLaws.{course_goes_on, course_fails, course_is_done}
use Rattle.ox_quorum.specs.Forms.{nodes_course, ensemble}
use Rattle.ox_quorum.proofs.Nodes.{ensemble_read}
use Rattle.ox_quorum.proofs.bytes.take_nodes.Goals as goal

pub returns-in_err-node-clause-read : goal.returns-in_err-node-clause-read
returns-in_err-node-clause-read c =
    let p = err_from_is_err_and c.from_residual-in_err-node.result c.from_residual-in_err-node.ensures.1 in
    rw (p.1, p.2) (course_fails nodes_course c.loop.nodes c.in_ok-count.count c.loop.counter c.loop.least c.loop.from (ensemble.at c.args.from.now) c.in_err-node.field-0.0 c.loop-test.true c.in_err-node.ensures.read c.loop.invariant.0)

pub loop-preserved : goal.loop-preserved
loop-preserved c = (
  rw (c.in_ok-push.ensures.ok, c.past-least.ensures) (course_goes_on nodes_course c.loop.nodes c.in_ok-count.count c.loop.counter c.loop.least c.loop.from (ensemble.at c.args.from.now) c.in_ok-node.node c.take_node.new.from c.loop-test.true c.in_ok-node.ensures.read c.loop.invariant.0),
  rw c.in_ok-push.ensures.ok (All-push (λ n. n < 2 ^ 32) c.loop.nodes c.in_ok-node.node c.loop.invariant.1 c.in_ok-node.ensures.small),
)

pub returns-clause-read : goal.returns-clause-read
returns-clause-read c = course_is_done nodes_course c.loop.nodes c.in_ok-count.count c.loop.counter c.loop.least c.loop.from (ensemble.at c.args.from.now) c.loop-test.false c.loop.invariant.0

pub returns-clause-lawful : goal.returns-clause-lawful
returns-clause-lawful c = ensemble_read c.args.from.now c.loop.nodes c.loop.from c.loop.invariant.1 (course_is_done nodes_course c.loop.nodes c.in_ok-count.count c.loop.counter c.loop.least c.loop.from (ensemble.at c.args.from.now) c.loop-test.false c.loop.invariant.0)
