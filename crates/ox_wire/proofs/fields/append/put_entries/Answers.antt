use Rattle.ox_wire.proofs.Listed.{entries_text, entries_lawful}
use Rattle.ox_wire.proofs.fields.append.put_entries.Goals as goal

pub put-requires : goal.put-requires
put-requires c = entries_lawful c.args.top c.args.offset c.args.entries.now c.requires

pub returns : goal.returns
returns c = rw (← entries_text c.args.top c.args.offset c.args.entries.now) c.put.ensures
