-- What a log in memory stands for, alone and with a draft of what comes next.
use Rattle.std.specs.Prelude.{◌≡◌, ◌+◌, ◌≤◌, true, List, ◌++◌, length, take}
use Rattle.ox_types.specs.declared.log.Entry.{Entry}
use Rattle.ox_types.specs.Durable.{DurableState, may_follow}
use Rattle.ox_types.specs.Limits.{count_limit}
use Rattle.ox_wal.specs.Blocks.{blocks_used}
use Rattle.ox_wal.specs.declared.log.Log.{Log}
use Rattle.ox_wal.specs.declared.draft.Draft.{Draft}

-- the state of a log
abbrev pub state_of : Log → DurableState
state_of log = record { term = log.term; seat = log.seat; base = log.base; saved = log.saved; entries = log.entries.items }

-- the entries that a draft keeps, and those that it adds
abbrev pub drafted_entries : Log → Draft → List Entry
drafted_entries log draft = take draft.keep log.entries.items ++ draft.staged.items

-- the state of the log once the draft is taken
abbrev pub drafted : Log → Draft → DurableState
drafted log draft = record { term = draft.term; seat = draft.seat; base = log.base; saved = log.saved; entries = drafted_entries log draft }

-- a draft of this log, which leaves a lawful one
pub record IsDraft (log : Log) (draft : Draft) : Type 0 where
  pub keeps : draft.keep ≤ length log.entries.items
  pub counted : draft.used ≡ blocks_used (drafted_entries log draft)
  pub follows : may_follow draft.term log.base.term log.base.count (drafted_entries log draft) ≡ true
  pub small : log.base.count + length (drafted_entries log draft) ≤ count_limit
