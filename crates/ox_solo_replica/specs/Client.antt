-- The rows of a client's requests: the refusals in their order, a write, and a read.
use Rattle.std.specs.Prelude.{ℕ, ◌-◌, ◌==◌, nat_lt, nat_le, true, false, List, [], ◌∷◌, ◌++◌, length, Option, Some, None, option_map, Result, Ok, Err, if◌then◌else◌}
use Rattle.ox_types.specs.declared.bad.Bad.{Bad}
use Rattle.ox_types.specs.declared.bad.Part.TheVariants.{Bytes}
use Rattle.ox_types.specs.declared.bad.Rule.TheVariants.{Grammar}
use Rattle.ox_types.specs.declared.bad.MachineFault.{MachineFault}
use Rattle.ox_types.specs.declared.log.Entry.{Entry}
use Rattle.ox_types.specs.declared.log.EntryBody.TheVariants.{Command}
use Rattle.ox_types.specs.declared.durable.Action.TheVariants.{Append}
use Rattle.ox_types.specs.declared.durable.LogView.{LogView}
use Rattle.ox_types.specs.declared.refusal.Refusal.{Refusal}
use Rattle.ox_types.specs.declared.refusal.Refusal.TheVariants.{NotLeader, Recovering, TooManyPending, LogSpent, LogFull, BadRequest}
use Rattle.ox_bytes.specs.LogForms.{entry_blocks}
use Rattle.ox_bytes.specs.Texts.{value_in}
use Rattle.ox_wire.specs.declared.message.Outcome.TheVariants as outcome
use Rattle.ox_machine.specs.Meaning.{Meaning}
use Rattle.ox_timer.specs.Timers.{heard}
use Rattle.ox_solo_replica.specs.declared.leading.Leading.{Leading}
use Rattle.ox_solo_replica.specs.declared.live.Live.{Live}
use Rattle.ox_solo_replica.specs.State.{Row, quiet, reserve_of, clock_limit}

-- the client is refused
abbrev pub refuses_client : {S : Type 0} → Live S → ℕ → Refusal → Row S
refuses_client live tag refusal = record (quiet live) { replies = record { tag = tag; outcome = outcome.Refused refusal } ∷ [] }

-- it doesn't lead, or has entries of former terms that aren't committed yet
abbrev pub not_ready_by : LogView → Option ℕ → Option Leading → Option Refusal
not_ready_by v hint None = Some (NotLeader v.term hint)
not_ready_by v hint (Some l) = if nat_lt v.commit l.begin then Some (Recovering v.term l.begin v.commit) else None

abbrev pub not_ready : {S : Type 0} → LogView → Live S → Option Refusal
not_ready v live = not_ready_by v live.hint live.leading

-- the first of two refusals
abbrev pub first_of : Option Refusal → Option Refusal → Option Refusal
first_of None other = other
first_of (Some refusal) other = Some refusal

abbrev pub bad_request : Option Bad → Option Refusal
bad_request bad = option_map BadRequest bad

-- the blocks that are left for clients' entries
abbrev pub room_of : LogView → ℕ
room_of v = v.free - reserve_of v.all

-- the log has room for one more entry, which needs so many blocks
abbrev pub no_room : LogView → ℕ → Option Refusal
no_room v need =
    if v.count == clock_limit then Some (LogSpent v.count)
    else (if nat_lt (room_of v) need then Some (LogFull need (room_of v)) else None)

abbrev pub too_many_by : LogView → Option Leading → Option Refusal
too_many_by v None = None
too_many_by v (Some l) = if nat_le 1024 (length l.pending) then Some (TooManyPending 1024) else None

-- the entry of a command
abbrev pub command_entry : {S : Type 0} → LogView → Live S → List ℕ → Entry
command_entry v live bytes = record { term = v.term; offset = v.count; time = live.now; body = Command bytes }

-- a client waits for this offset
abbrev pub waits : ℕ → ℕ → Leading → Leading
waits tag offset l = record l { pending = l.pending ++ record { tag = tag; offset = offset } ∷ [] }

-- the bytes are no command or query
abbrev pub grammar : Bad
grammar = record { part = Bytes; index = 0; rule = Grammar }

-- a timer starts anew
abbrev pub hears_by : ℕ → Option ℕ → Leading → Leading
hears_by now None l = l
hears_by now (Some id) l = record l { timers = heard id now l.timers }

module _ {S C R Q A : Type 0} (M : Meaning S C R Q A) where
  -- the first fault of a command, or that the bytes aren't one
  abbrev pub fault_of : Result C MachineFault → Option Bad
  fault_of (Ok c) = M.fault c
  fault_of (Err fault) = Some grammar

  -- the first refusal of a write
  abbrev pub write_refusal : LogView → Live S → List ℕ → Option Refusal
  write_refusal v live bytes =
      first_of (bad_request (fault_of (value_in M.commands bytes)))
      (first_of (not_ready v live) (first_of (too_many_by v live.leading) (no_room v (entry_blocks (command_entry v live bytes)))))

  -- the entry is appended, and the client waits for it
  abbrev pub takes : LogView → Live S → ℕ → List ℕ → Row S
  takes v live tag bytes = record {
    kept = Append (command_entry v live bytes ∷ []) ∷ [];
    live = record live { leading = option_map (waits tag v.count) live.leading };
    advances = true;
    sends = [];
    replies = [];
  }

  abbrev pub write_by : LogView → Live S → ℕ → List ℕ → Option Refusal → Row S
  write_by v live tag bytes None = takes v live tag bytes
  write_by v live tag bytes (Some refusal) = refuses_client live tag refusal

  abbrev pub write : LogView → Live S → ℕ → List ℕ → Row S
  write v live tag bytes = write_by v live tag bytes (write_refusal v live bytes)

  -- a query may start a timer anew
  abbrev pub hears : Live S → Q → Option Leading
  hears live query = option_map (hears_by live.now (M.heard query)) live.leading

  -- the answer at the committed entries
  abbrev pub answers : LogView → Live S → ℕ → Q → Row S
  answers v live tag query = record {
    kept = [];
    live = record live { leading = hears live query };
    advances = false;
    sends = [];
    replies = record { tag = tag; outcome = outcome.Read v.term v.commit (M.answers.text (M.answer live.machine query)) } ∷ [];
  }

  abbrev pub answers_or : LogView → Live S → ℕ → Q → Option Refusal → Row S
  answers_or v live tag query None = answers v live tag query
  answers_or v live tag query (Some refusal) = refuses_client live tag refusal

  abbrev pub read_by : LogView → Live S → ℕ → Result Q MachineFault → Row S
  read_by v live tag (Ok query) = answers_or v live tag query (not_ready v live)
  read_by v live tag (Err fault) = refuses_client live tag (BadRequest grammar)

  abbrev pub read : LogView → Live S → ℕ → List ℕ → Row S
  read v live tag bytes = read_by v live tag (value_in M.queries bytes)
