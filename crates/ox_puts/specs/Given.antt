-- A put where what else was charged, and whether its session is open, are given.
use Rattle.std.specs.Prelude.{ℕ, ◌+◌, Bool, List, sum_by, Option, Some, None, Result, Ok, Err, if◌then◌else◌}
use Rattle.ox_ops.specs.declared.write.Put.{Put}
use Rattle.ox_ops.specs.declared.reply.OpReply.TheVariants as reply
use Rattle.ox_ops.specs.State.{ShardState, record_of, with_record}
use Rattle.ox_ops.specs.Weight.{record_weight}
use Rattle.ox_ops.specs.Operation.{Effect, refused, meets, version_of, put_record, unless_full, put_key}

-- the weight with the record that the put makes under the key
abbrev pub weight_given : ShardState → ℕ → Put → List ℕ → ℕ
weight_given s other p key = sum_by record_weight (with_record (put_record s p key) s.records) + other

-- a put under its key: the expectation first, and then the weight
abbrev pub put_at_given : ShardState → ℕ → Put → List ℕ → Effect
put_at_given s other p key =
    if meets p.expect (record_of key s.records)
    then unless_full s (put_record s p key) (weight_given s other p key)
    else refused s (reply.UnexpectedVersion (version_of (record_of key s.records)))

-- a put whose key is known, or whose sequence is spent
abbrev pub put_under_given : ShardState → ℕ → Put → Result (List ℕ) ℕ → Effect
put_under_given s other p (Ok key) = put_at_given s other p key
put_under_given s other p (Err group) = refused s (reply.SequenceSpent group)

-- a put whose session, if it names one, is open
abbrev pub put_in_session_given : ShardState → ℕ → Bool → Put → Option ℕ → Effect
put_in_session_given s other live p None = put_under_given s other p (put_key s p p.deltas)
put_in_session_given s other live p (Some id) =
    if live then put_under_given s other p (put_key s p p.deltas) else refused s (reply.SessionDoesNotExist id)

-- A put of a shard that weighs so much beside its records: its session, its sequence, its expectation and its weight are
-- tested in this order.
unfoldable pub put_given : ShardState → ℕ → Bool → Put → Effect
put_given s other live p = put_in_session_given s other live p p.session
