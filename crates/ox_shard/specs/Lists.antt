-- What the lists of sessions and of index entries say of the records.
use Rattle.std.specs.Prelude.{◌≡◌, ℕ, true, List, [], ◌∷◌, map, Option, Some, None, if◌then◌else◌}
use Rattle.std.specs.List.{flat_map}
use Rattle.ox_ops.specs.declared.write.IndexEntry.{IndexEntry}
use Rattle.ox_ops.specs.declared.reply.OpReply.{OpReply}
use Rattle.ox_ops.specs.declared.reply.OpReply.TheVariants as reply
use Rattle.ox_ops.specs.declared.answer.Record.{Record}
use Rattle.ox_ops.specs.State.{Session, is_member, members_of, is_open}
use Rattle.ox_session.specs.declared.roster.Roster.{Roster}
use Rattle.ox_session.specs.Keys.{with_key, without_key}
use Rattle.ox_session.specs.Members.{members_in}
use Rattle.ox_index.specs.declared.added.Added.{Added}
use Rattle.ox_index.specs.Pairs.{has_added}
use Rattle.ox_shard.specs.declared.lists.Lists.{Lists}

-- these entries of a record with this key
abbrev pub entries_at : List ℕ → List IndexEntry → List Added
entries_at key entries = map (λ (e : IndexEntry). record { entry = e; key = key }) entries

-- the entries of a record
abbrev pub added_by : Record → List Added
added_by r = entries_at r.key r.indexes

-- the entries of all records
abbrev pub all_added : List Record → List Added
all_added records = flat_map added_by records

-- the index has the entries of the records
abbrev pub HasEntriesOf : List Added → List Record → Type 0
HasEntriesOf index records = (q : Added) → has_added q index ≡ has_added q (all_added records)

-- the members of each session are the keys of its records
abbrev pub HasMembersOf : List (ℕ × Roster) → List Record → Type 0
HasMembersOf sessions records = (q : ℕ) → members_in q sessions ≡ map (λ (r : Record). r.key) (members_of q records)

-- the lists are those of the records
pub record IsListed (lists : Lists) (records : List Record) : Type 0 where
  pub members : HasMembersOf lists.sessions records
  pub entries : HasEntriesOf lists.index records

-- ---- records that go

-- the keys of a session when a record leaves it
abbrev pub left_by : ℕ → Record → List (List ℕ) → List (List ℕ)
left_by id gone keys = if is_member id gone then without_key gone.key keys else keys

-- the keys of a session when these records leave it
abbrev pub left_by_all : ℕ → List Record → List (List ℕ) → List (List ℕ)
left_by_all id [] keys = keys
left_by_all id (g ∷ gone) keys = left_by_all id gone (left_by id g keys)

-- ---- a record that comes

-- the key of a record that was stored, from the reply
abbrev pub stored_key : OpReply → Option (List ℕ)
stored_key (reply.Put key meta) = Some key
stored_key _ = None

-- the keys of a session when this record, if it was stored under a key, joins it
abbrev pub joined_by : ℕ → Record → Option (List ℕ) → List (List ℕ) → List (List ℕ)
joined_by id r None keys = keys
joined_by id r (Some key) keys = if is_member id r then with_key key keys else keys

-- the entries of a record that was stored under this key, if one was
abbrev pub stored_entries : List IndexEntry → Option (List ℕ) → List Added
stored_entries entries None = []
stored_entries entries (Some key) = entries_at key entries

-- the session is open, if there is one
abbrev pub IsOpenIfSome : Option ℕ → List Session → Type 0
IsOpenIfSome None sessions = Unit {0}
IsOpenIfSome (Some id) sessions = is_open id sessions ≡ true

-- a record that was stored has no session but an open one
abbrev pub IsOpenFor : Option (List ℕ) → Option ℕ → List Session → Type 0
IsOpenFor None session sessions = Unit {0}
IsOpenFor (Some key) session sessions = IsOpenIfSome session sessions
