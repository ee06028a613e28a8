use Rattle.ox_puts.proofs.Raised.{IsRaised}
use Rattle.ox_puts.proofs.next_key.raised.Given as goal

abbrev pub invariant-loop-group : goal.invariant-loop-group
invariant-loop-group l = IsRaised l.numbers l.deltas l.sums l.group
