use Rattle.ox_puts.proofs.Bytes.{stripped}
use Rattle.ox_puts.proofs.sequence_key.rest_of.Goals as goal

pub returns : goal.returns
returns c = stripped c.args.prefix.now c.args.key.now c.strip_prefix.result c.strip_prefix.ensures.cases
