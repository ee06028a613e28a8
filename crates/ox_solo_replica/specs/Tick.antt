-- The row of a tick: the clock moves, and a leader appends the expiry of a timer that ran out.
use Rattle.std.specs.Prelude.{ℕ, nat_lt, nat_le, Bool, true, ◌&&◌, [], ◌∷◌, min, max, Option, Some, None, option_map, if◌then◌else◌}
use Rattle.ox_types.specs.declared.log.Entry.{Entry}
use Rattle.ox_types.specs.declared.durable.Action.TheVariants.{Append}
use Rattle.ox_types.specs.declared.durable.LogView.{LogView}
use Rattle.ox_bytes.specs.LogForms.{entry_blocks}
use Rattle.ox_machine.specs.Meaning.{Meaning}
use Rattle.ox_timer.specs.Timers.{due, noted}
use Rattle.ox_solo_replica.specs.declared.leading.Leading.{Leading}
use Rattle.ox_solo_replica.specs.declared.live.Live.{Live}
use Rattle.ox_solo_replica.specs.State.{Row, quiet, clock_limit}
use Rattle.ox_solo_replica.specs.Client.{command_entry, room_of}

-- the clock never goes back, and stands at its limit
abbrev pub time_at : {S : Type 0} → Live S → ℕ → Live S
time_at live ms = record live { now = max live.now (min ms clock_limit) }

-- the leader advances, and nothing is kept
abbrev pub only_advances : {S : Type 0} → Live S → Row S
only_advances live = record (quiet live) { advances = true }

-- the expiry of a timer is noted
abbrev pub notes : ℕ → Leading → Leading
notes id l = record l { timers = noted id l.timers }

module _ {S C R Q A : Type 0} (M : Meaning S C R Q A) (v : LogView) where
  -- the expiry of a timer as an entry
  abbrev pub expiry_entry : Live S → ℕ → Entry
  expiry_entry live id = command_entry v live (M.commands.text (M.expiry id))

  -- the log has room for it as for a client's entry
  abbrev pub has_room : Live S → ℕ → Bool
  has_room live id = nat_lt v.count clock_limit && nat_le (entry_blocks (expiry_entry live id)) (room_of v)

  -- the expiry is appended, and noted
  abbrev pub expires : Live S → ℕ → Row S
  expires live id = record {
    kept = Append (expiry_entry live id ∷ []) ∷ [];
    live = record live { leading = option_map (notes id) live.leading };
    advances = true;
    sends = [];
    replies = [];
  }

  abbrev pub expires_at : Live S → ℕ → Row S
  expires_at live id = if has_room live id then expires live id else only_advances live

  abbrev pub expires_due : Live S → Option ℕ → Row S
  expires_due live None = only_advances live
  expires_due live (Some id) = expires_at live id

  -- no timer runs out while commit is below begin
  abbrev pub ticks_leading : Live S → Option Leading → Row S
  ticks_leading live None = quiet live
  ticks_leading live (Some l) = if nat_lt v.commit l.begin then only_advances live else expires_due live (due live.now l.timers)

  abbrev pub tick_at : Live S → Row S
  tick_at live = ticks_leading live live.leading

  abbrev pub tick : Live S → ℕ → Row S
  tick live ms = tick_at (time_at live ms)
