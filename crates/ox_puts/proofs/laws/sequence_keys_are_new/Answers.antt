use Rattle.ox_puts.proofs.Fresh.{fresh}
use Rattle.ox_puts.proofs.laws.sequence_keys_are_new.Goals as goal

pub returns : goal.returns
returns c = fresh
