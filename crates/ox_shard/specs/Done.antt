-- What the operations of a command have made so far.
use Rattle.ox_ops.specs.State.{ShardState}
use Rattle.ox_ops.specs.Apply.{Applied}
use Rattle.ox_shard.specs.declared.done.Done.{Done}

-- the state, with the replies and the notices so far
abbrev pub applied_of : ShardState → Done → Applied
applied_of s d = record { state = s; replies = d.replies; notices = d.notices }
