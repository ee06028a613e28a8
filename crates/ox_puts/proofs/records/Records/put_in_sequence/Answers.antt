use Rattle.ox_puts.proofs.Lawful.{light-put}
use Rattle.ox_puts.proofs.records.Records.put_in_sequence.Goals as goal

pub put_at_key-requires-clause-small : goal.put_at_key-requires-clause-small
put_at_key-requires-clause-small c = light-put c.args.put.now c.requires.lawful c.requires.faultless
