use Rattle.std.proofs.Common.{sym}
use Rattle.ox_bytes.specs.SizeLaws.{pass_blocks, command_blocks}
use Rattle.ox_wal.proofs.action.entry_blocks.Goals as goal

pub returns-in-Pass : goal.returns-in-Pass
returns-in-Pass c = sym (pass_blocks c.args.entry.now c.in-Pass.is)

pub returns-in-Command : goal.returns-in-Command
returns-in-Command c = command_blocks c.args.entry.now c.in-Command.bytes c.len-len.result c.in-Command.is c.len-len.ensures
