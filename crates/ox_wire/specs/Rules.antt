-- The rules that join the fields of a message, each by itself.
use Rattle.std.specs.Prelude.{◌≡◌, ℕ, ◌<◌, ◌≤◌, ◌^◌, List, length, map, All, IsTrue}
use Rattle.std.specs.List.{list_all}
use Rattle.std.specs.List.Sorted.{IsStrictlyIncreasing}
use Rattle.ox_types.specs.Limits.{term_limit, count_limit}
use Rattle.ox_types.specs.declared.log.Entry.{Entry}
use Rattle.ox_types.specs.declared.log.TermRun.{TermRun}
use Rattle.ox_types.specs.declared.log.TermTable.{TermTable}
use Rattle.ox_types.specs.declared.snapshot.Chunk.{Chunk}
use Rattle.ox_types.specs.Durable.{may_follow, saved_limit}
use Rattle.ox_bytes.specs.LogForms.{entry, pieces_of, piece_length}
use Rattle.ox_quorum.specs.declared.config.Config.{Config}
use Rattle.ox_quorum.specs.Forms.{config as config_form}
use Rattle.ox_wire.specs.declared.body.Follower.{Follower}
use Rattle.ox_wire.specs.BodyForms.{follower}

-- an Append of this term, from this offset on, with this number of committed entries
pub record IsAppend (term from commit : ℕ) (entries : List Entry) : Type 0 where
  pub small_term : term ≤ term_limit
  pub small_from : from ≤ count_limit
  pub small_commit : commit ≤ count_limit
  pub few : length entries ≤ 64
  -- each entry keeps its own rules
  pub each : IsTrue (list_all entry.is_lawful entries)
  -- offsets go on by ones from `from`; terms never fall and are at most the message's
  pub in_order : IsTrue (may_follow term 0 from entries)

-- a BecomeLeader of this term
pub record IsBecomeLeader (term : ℕ) (config : Config) (followers : List Follower) : Type 0 where
  pub small_term : term ≤ term_limit
  pub lawful_config : IsTrue (config_form.is_lawful config)
  pub countable : length followers < 2 ^ 32
  -- each follower keeps its own rules
  pub each : IsTrue (list_all follower.is_lawful followers)
  -- ids rise from follower to follower
  pub rising : IsStrictlyIncreasing (map (λ f. f.node) followers)

-- a run of a table with this base: within its bounds, and not below the base
pub record IsRunBehind (table : TermTable) (r : TermRun) : Type 0 where
  pub small_term : r.term ≤ term_limit
  pub small_last : r.last < count_limit
  pub from_term : table.base.term ≤ r.term
  pub from_count : table.base.count ≤ r.last

-- a term table
pub record IsTable (table : TermTable) : Type 0 where
  pub small_term : table.base.term ≤ term_limit
  pub small_count : table.base.count ≤ count_limit
  pub countable : length table.runs < 2 ^ 32
  pub each : All (IsRunBehind table) table.runs
  -- terms and last offsets rise from run to run
  pub terms : IsStrictlyIncreasing (map (λ r. r.term) table.runs)
  pub lasts : IsStrictlyIncreasing (map (λ r. r.last) table.runs)

-- a piece of a snapshot
pub record IsPiece (c : Chunk) : Type 0 where
  pub small_term : c.term ≤ term_limit
  -- the snapshot ends in no term above the message's
  pub head_term : c.head.term ≤ c.term
  pub head_count : c.head.count ≤ count_limit
  pub small_total : c.total ≤ saved_limit
  -- it is one of the pieces of so many bytes, and has the bytes of that piece
  pub one_of : c.index < pieces_of c.total
  pub whole : length c.bytes ≡ piece_length c.total c.index
