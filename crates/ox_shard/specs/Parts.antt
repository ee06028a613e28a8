-- The parts of a shard, as its state, and what ties them to each other.
use Rattle.std.specs.Prelude.{◌≡◌, ℕ, ◌+◌, ◌*◌, ◌≤◌, ◌<◌, false, All, List, [], ◌∷◌, length}
use Rattle.ox_ops.specs.declared.answer.Record.{Record}
use Rattle.ox_ops.specs.declared.notice.NoticeBatch.{NoticeBatch}
use Rattle.ox_ops.specs.State.{ShardState, Session, is_open}
use Rattle.ox_ops.specs.Weight.{session_weight}
use Rattle.ox_ops.specs.Check.{has_repeated}
use Rattle.ox_session.specs.Members.{sessions_of}
use Rattle.ox_shard.specs.declared.parts.Parts.{Parts}
use Rattle.ox_shard.specs.Lists.{IsListed}

-- the parts are of this state
abbrev pub state_of : Parts → ShardState
state_of p = record {
  time = p.time;
  next_version = p.records.next_version;
  low = p.notices.low;
  sessions = sessions_of p.lists.sessions;
  records = p.records.records;
  batches = p.notices.batches;
}

-- no session is there twice
abbrev pub AreDistinct : List Session → Type 0
AreDistinct [] = Unit {0}
AreDistinct (x ∷ sessions) = (is_open x.id sessions ≡ false) × AreDistinct sessions

-- a record has no two equal index entries
abbrev pub HasDistinctEntries : Record → Type 0
HasDistinctEntries r = has_repeated r.indexes ≡ false

-- what holds of the parts of a shard
pub record IsTied (p : Parts) : Type 0 where
  pub listed : IsListed p.lists p.records.records
  pub entries : All HasDistinctEntries p.records.records
  pub sessions : AreDistinct (sessions_of p.lists.sessions)
  -- what is charged beside the records is what the sessions weigh
  pub charged : session_weight * length (sessions_of p.lists.sessions) ≡ p.records.other
  pub times : All (λ (b : NoticeBatch). b.time ≤ p.time) p.notices.batches

-- a write changes neither of these
pub record IsBeside (before after : Parts) : Type 0 where
  pub time : after.time ≡ before.time
  pub sessions : sessions_of after.lists.sessions ≡ sessions_of before.lists.sessions
  pub notices : after.notices ≡ before.notices

-- what the command of an entry at this offset makes of the parts, before notices are kept
pub record IsStep (offset : ℕ) (before after : Parts) : Type 0 where
  pub time : after.time ≡ before.time
  pub notices : after.notices ≡ before.notices
  pub versions : after.records.next_version ≤ before.records.next_version + 1000
  pub ids : All (λ (x : Session). x.id < offset) (sessions_of before.lists.sessions) → All (λ (x : Session). x.id < offset + 1) (sessions_of after.lists.sessions)
