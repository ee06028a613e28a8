-- Which states fit a number of entries, and which commands a log holds.
use Rattle.std.specs.Prelude.{ℕ, ◌*◌, ◌<◌, ◌≤◌, ◌&&◌, Bool, true, false, is_none, All}
use Rattle.ox_ops.specs.declared.write.Put.{Put}
use Rattle.ox_ops.specs.declared.write.ShardCommand.{ShardCommand}
use Rattle.ox_ops.specs.declared.write.ShardCommand.TheVariants.{Expire}
use Rattle.ox_ops.specs.declared.notice.NoticeBatch.{NoticeBatch}
use Rattle.ox_ops.specs.State.{ShardState, Session}
use Rattle.ox_ops.specs.Check.{put_fault}
use Rattle.ox_ops.specs.Forms.{put}

-- so many entries can have made the state: each stores 1,000 puts at most, and a batch of notices and a session have the
-- offset of an entry
pub record FitsCount (count : ℕ) (s : ShardState) : Type 0 where
  pub versions : s.next_version ≤ 1000 * count
  pub offsets : All (λ (b : NoticeBatch). b.offset < count) s.batches
  pub sessions : All (λ (x : Session). x.id < count) s.sessions

-- is it an expiry, which a leader makes?
abbrev pub is_expire : ShardCommand → Bool
is_expire (Expire id) = true
is_expire _ = false

-- a put that the records take: lawful, and without a fault
abbrev pub is_ready : Put → Bool
is_ready p = put.is_lawful p && is_none (put_fault p)
