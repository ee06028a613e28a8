-- The timer that has run out at a leader.
use Rattle.std.specs.Prelude.{ℕ, Option, Some, None}
use Rattle.ox_timer.specs.Timers.{due}
use Rattle.ox_solo_replica.specs.declared.leading.Leading.{Leading}
use Rattle.ox_solo_replica.specs.declared.live.Live.{Live}
use Rattle.ox_solo_replica.specs.Tick.{time_at}

-- a replica that doesn't lead has no timers
abbrev pub due_by : ℕ → Option Leading → Option ℕ
due_by now None = None
due_by now (Some l) = due now l.timers

-- the id of the timer that has run out where the clock comes to this time (ms), if one has
abbrev pub due_at : {S : Type 0} → Live S → ℕ → Option ℕ
due_at live ms = due_by (time_at live ms).now live.leading
