use Rattle.std.proofs.Common.{arith}
use Rattle.ox_wal.proofs.Folding.{item_lawful, restore_lawful}
use Rattle.ox_wal.proofs.log.Log.fold.Goals as goal

pub restore-requires : goal.restore-requires
restore-requires c =
    restore_lawful c.action-item.result _ _ _ _ c.in-Restore.is (item_lawful c.args.actions.now 0 c.action-item.result c.requires (omega arith) c.action-item.is)
