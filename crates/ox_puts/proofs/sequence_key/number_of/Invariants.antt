use Rattle.ox_puts.proofs.Bytes.{IsRead}
use Rattle.ox_puts.proofs.sequence_key.number_of.Given as goal

abbrev pub invariant-loop-digit : goal.invariant-loop-digit
invariant-loop-digit l = IsRead l.digits l.digit-index l.number
