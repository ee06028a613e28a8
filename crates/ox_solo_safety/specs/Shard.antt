-- The notices of a shard.
use Rattle.ox_ops.specs.declared.write.ShardCommand.{ShardCommand}
use Rattle.ox_ops.specs.State.{ShardState}
use Rattle.ox_ops.specs.Apply.{apply_entry}
use Rattle.ox_solo_safety.specs.Notices.{Noticing}

abbrev pub shard_noticing : Noticing ShardState ShardCommand
shard_noticing = record {
  given = λ s id time c. (apply_entry s id.offset time c).notices;
  low = λ s. s.low;
}
