use Rattle.std.proofs.Common.{◌≤◌, arith}
use Rattle.ox_types.specs.Limits.{offset_limit}
use Rattle.ox_wal.proofs.Following.{item_offset}
use Rattle.ox_wal.proofs.entries.follow.Goals as goal

pub overflow_add-next : goal.overflow_add-next
overflow_add-next c =
    let below : c.entry-item.result.offset ≤ offset_limit = item_offset _ _ _ c.requires (omega arith) c.entry-item.is in
    omega arith
