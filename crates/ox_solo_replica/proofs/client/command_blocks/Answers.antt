use Rattle.std.proofs.Common.{sym}
use Rattle.ox_solo_replica.proofs.Entries.{command_blocks}
use Rattle.ox_solo_replica.proofs.client.command_blocks.Goals as goal

pub returns : goal.returns
returns c = λ e bytes is long. command_blocks e bytes c.args.len is (sym long)
