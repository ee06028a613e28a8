use Rattle.ox_puts.proofs.Bytes.{IsLeft}
use Rattle.ox_puts.proofs.sequence_key.numbers_in.Given as goal

abbrev pub invariant-loop : goal.invariant-loop
invariant-loop l = IsLeft l.count l.bytes l.numbers l.rest l.counter
