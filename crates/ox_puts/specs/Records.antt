-- The records of a shard, and what they and its sessions weigh.
use Rattle.std.specs.Prelude.{◌≡◌, ◌≤◌, ◌<◌, ◌+◌, ℕ, Bool, All, List, [], map, sum_by, Option, Some, None, option_to_list}
use Rattle.ox_table.specs.Table.{IsRising}
use Rattle.ox_ops.specs.declared.reply.OpReply.{OpReply}
use Rattle.ox_ops.specs.declared.reply.OpReply.TheVariants as reply
use Rattle.ox_ops.specs.declared.answer.Record.{Record}
use Rattle.ox_ops.specs.State.{ShardState, Session, record_of, is_open}
use Rattle.ox_ops.specs.Weight.{record_weight, weight_limit}

pub record RecordsState : Type 0 where
  -- with different keys, by rising key
  pub records : List Record
  -- the version of the next stored put
  pub next_version : ℕ
  -- what was charged and not refunded
  pub other : ℕ

-- each record behind its key
abbrev pub keyed : List Record → List (List ℕ × Record)
keyed records = map (λ (r : Record). (r.key, r)) records

-- the records behind the keys
abbrev pub records_in : List (List ℕ × Record) → List Record
records_in pairs = map (λ p. p.1) pairs

-- the weight of the records and of what was charged
abbrev pub weight_in : RecordsState → ℕ
weight_in t = sum_by record_weight t.records + t.other

-- the weight of a record that may be missing
abbrev pub old_weight : Option Record → ℕ
old_weight old = sum_by record_weight (option_to_list old)

-- a version below the next one, and no more modifications than versions
pub record IsCounted (next : ℕ) (r : Record) : Type 0 where
  pub version : r.meta.version < next
  pub modifications : r.meta.modifications ≤ r.meta.version

-- what holds of the records of a shard at every time
pub record IsSound (t : RecordsState) : Type 0 where
  pub rising : IsRising (keyed t.records)
  pub counted : All (IsCounted t.next_version) t.records
  pub light : weight_in t ≤ weight_limit

-- the weight of the records is kept
pub record IsKept (t : RecordsState) (held : ℕ) : Type 0 where
  pub sound : IsSound t
  pub weight : held ≡ sum_by record_weight t.records

-- the shard has these records and this next version
pub record IsOf (s : ShardState) (t : RecordsState) : Type 0 where
  pub records : s.records ≡ t.records
  pub next_version : s.next_version ≡ t.next_version

-- a shard with these records and this time, and no session
abbrev pub shard_at : ℕ → RecordsState → ShardState
shard_at time t = record { time = time; next_version = t.next_version; low = 0; sessions = []; records = t.records; batches = [] }

-- whether the session that a put names, if it does, is open
abbrev pub IsLive : Bool → Option ℕ → List Session → Type 0
IsLive live None sessions = Unit {0}
IsLive live (Some id) sessions = live ≡ is_open id sessions

-- the record that a put replaced, from its reply and the records before it
abbrev pub replaced_by : OpReply → List Record → List Record
replaced_by (reply.Put key meta) records = option_to_list (record_of key records)
replaced_by _ records = []

-- the record that a delete of the key removed, from its reply and the records before it
abbrev pub deleted_by : OpReply → List ℕ → List Record → List Record
deleted_by reply.Deleted key records = option_to_list (record_of key records)
deleted_by _ key records = []
