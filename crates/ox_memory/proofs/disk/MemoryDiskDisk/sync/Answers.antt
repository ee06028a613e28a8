use Rattle.std.proofs.Common.{◌∙◌, ◌++◌, ◌∷◌, [], List, ap}
use Rattle.ox_memory.specs.declared.log.Call.{Call}
use Rattle.ox_memory.specs.declared.log.Call.TheVariants.{Sync}
use Rattle.ox_memory.proofs.Moments.{synced}
use Rattle.ox_memory.proofs.disk.MemoryDiskDisk.sync.Goals as goal

pub returns-clause-syncs : goal.returns-clause-syncs
returns-clause-syncs c =
    synced c.args.self.now.log.items _ _ _ _ (c.note.ensures.items ∙ ap (λ (l : List Call). l ++ Sync ∷ []) c.try_reserve.ensures.items) c.fails.ensures.counted
