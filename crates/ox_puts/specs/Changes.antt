-- What a change says of the operation that made it.
use Rattle.std.specs.Prelude.{◌≡◌, ℕ, ◌+◌, not, List, [], length, filter, Option, Some, None, option_to_list}
use Rattle.ox_order.specs.declared.range.KeyRange.{KeyRange}
use Rattle.ox_order.specs.Range.{in_range}
use Rattle.ox_ops.specs.declared.reply.OpReply.{OpReply}
use Rattle.ox_ops.specs.declared.reply.OpReply.TheVariants as reply
use Rattle.ox_ops.specs.declared.notice.Notice.{Notice}
use Rattle.ox_ops.specs.declared.notice.Notice.TheVariants as notice
use Rattle.ox_ops.specs.declared.answer.Record.{Record}
use Rattle.ox_ops.specs.State.{ShardState, record_of, with_record, without_key}
use Rattle.ox_ops.specs.Operation.{Effect, put_notice, range_notice}
use Rattle.ox_puts.specs.declared.change.Change.{Change}
use Rattle.ox_puts.specs.Records.{RecordsState, IsOf}

-- the change, and the shard with these records and this next version
abbrev pub effect : ShardState → RecordsState → Change → Effect
effect s after change = record {
  state = record s { records = after.records; next_version = after.next_version };
  reply = change.reply;
  notice = change.notice;
}

-- the operation makes this change of every shard that has the records before it
abbrev pub Makes : (ShardState → Effect) → RecordsState → RecordsState → Change → Type 0
Makes operation before after change = (s : ShardState) → IsOf s before → operation s ≡ effect s after change

-- the same of every shard with this time
abbrev pub MakesAt : ℕ → (ShardState → Effect) → RecordsState → RecordsState → Change → Type 0
MakesAt time operation before after change = (s : ShardState) → IsOf s before → s.time ≡ time → operation s ≡ effect s after change

-- nothing changed but the reply
abbrev pub refusal_of : OpReply → Change
refusal_of reply = record { reply = reply; gone = []; notice = None }

-- the record is stored
pub record IsStored (added : Record) (before after : RecordsState) (change : Change) : Type 0 where
  pub reply : change.reply ≡ reply.Put added.key added.meta
  pub gone : change.gone ≡ option_to_list (record_of added.key before.records)
  pub notice : change.notice ≡ Some (put_notice (record_of added.key before.records) added.key added.meta.version)
  pub then : after ≡ record { records = with_record added before.records; next_version = before.next_version + 1; other = before.other }

-- the record of the key is removed
pub record IsRemoved (key : List ℕ) (before after : RecordsState) (change : Change) : Type 0 where
  pub reply : change.reply ≡ reply.Deleted
  pub gone : change.gone ≡ option_to_list (record_of key before.records)
  pub notice : change.notice ≡ Some (notice.Deleted key)
  pub then : after ≡ record before { records = without_key key before.records }

-- the records of the range are removed
pub record IsRanged (range : KeyRange) (before after : RecordsState) (change : Change) : Type 0 where
  pub reply : change.reply ≡ reply.Ranged (length (filter (λ (r : Record). in_range range r.key) before.records))
  pub gone : change.gone ≡ filter (λ (r : Record). in_range range r.key) before.records
  pub notice : change.notice ≡ range_notice range (length (filter (λ (r : Record). in_range range r.key) before.records))
  pub then : after ≡ record before { records = filter (λ (r : Record). not (in_range range r.key)) before.records }
