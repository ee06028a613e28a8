use Rattle.std.proofs.lemmas.Result.{err_from_is_err_and}
use Rattle.ox_bytes.specs.Fields.{list_at}
use Rattle.ox_bytes.proofs.Items.{goes_on, ends, is_done}
use Rattle.ox_bytes.proofs.lists.ListField.read.Goals as goal

pub returns-in_err-item : goal.returns-in_err-item
returns-in_err-item g c =
    let p = err_from_is_err_and c.from_residual-in_err-item.result c.from_residual-in_err-item.ensures.1 in
    rw (p.1, p.2) (ends g.T.Field.form c.in_err-item.field-0.0 c.loop.items c.in_ok-count.count c.loop.counter c.loop.from (list_at g.T.Field.form c.args.from.now) c.loop-test.true c.in_err-item.ensures.0 c.loop.invariant)

pub loop-preserved : goal.loop-preserved
loop-preserved g c =
    rw c.in_ok-push.ensures.ok (goes_on g.T.Field.form c.loop.items c.in_ok-count.count c.loop.counter c.loop.from c.in_ok-item.item c.take.new.from (list_at g.T.Field.form c.args.from.now) c.loop-test.true c.in_ok-item.ensures c.loop.invariant)

pub returns : goal.returns
returns g c = is_done g.T.Field.form c.loop.items c.in_ok-count.count c.loop.counter c.loop.from (list_at g.T.Field.form c.args.from.now) c.loop-test.false c.loop.invariant
