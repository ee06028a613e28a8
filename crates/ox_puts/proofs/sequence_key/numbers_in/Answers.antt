use Rattle.std.proofs.lemmas.List.{take_rest}
use Rattle.ox_puts.proofs.Bytes.{left_fails, left_more, left_none}
use Rattle.ox_puts.proofs.sequence_key.numbers_in.Goals as goal

pub returns-in-None : goal.returns-in-None
returns-in-None c = left_fails c.args.count c.loop.counter c.args.bytes.now c.loop.numbers c.loop.rest.now c.loop-test.true c.loop.invariant c.in-None.ensures

pub loop-preserved : goal.loop-preserved
loop-preserved c =
    left_more c.args.count c.loop.counter c.in-Some.number c.args.bytes.now c.loop.numbers c.loop.rest.now c.push.new.self _ c.loop-test.true c.loop.invariant c.in-Some.ensures c.in_ok-push-in-Some.ensures.ok (take_rest c.loop.rest.now 21)

pub returns : goal.returns
returns c = left_none c.args.count c.loop.counter c.args.bytes.now c.loop.numbers c.loop.rest.now c.loop-test.false c.loop.invariant
