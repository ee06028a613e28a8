use Rattle.std.proofs.Common.{◌≡◌, take}
use Rattle.ox_wal.specs.Blocks.{blocks_used}
use Rattle.ox_wal.proofs.entries.count_blocks.Given as goal

abbrev pub invariant-loop-entry : goal.invariant-loop-entry
invariant-loop-entry l = l.blocks ≡ blocks_used (take l.entry-index l.entries)
