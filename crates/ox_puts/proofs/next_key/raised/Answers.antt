use Rattle.std.proofs.Common.{arith}
use Rattle.ox_puts.proofs.Raised.{raised_all}
use Rattle.ox_puts.proofs.next_key.raised.Goals as goal

pub returns : goal.returns
returns c = raised_all c.args.numbers.now c.args.deltas.now c.loop-group.sums c.loop-group.group (omega arith) c.loop-group.invariant
