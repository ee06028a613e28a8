-- The timers that run at a leader: what changes them, and which one ran out.
use Rattle.std.specs.Prelude.{ℕ, ◌+◌, ◌==◌, nat_lt, nat_le, Bool, true, false, not, ◌&&◌, List, [], ◌∷◌, map, find, Option, Some, None, if◌then◌else◌}
use Rattle.ox_types.specs.declared.timer.Timer.{Timer}
use Rattle.ox_timer.specs.declared.running.Running.{Running}

-- a timer that starts now
abbrev pub starts : ℕ → Timer → Running
starts now t = record { id = t.id; timeout = t.timeout; since = now; expired = false }

-- the timers of a machine, all of which start now
abbrev pub started : ℕ → List Timer → List Running
started now timers = map (starts now) timers

-- the timer that runs with this id
abbrev pub running_at : ℕ → List Running → Option Running
running_at id running = find (λ r. r.id == id) running

-- a timer that ran already goes on, and another one starts now
abbrev pub goes_on : ℕ → Timer → Option Running → Running
goes_on now t None = starts now t
goes_on now t (Some r) = record { id = t.id; timeout = t.timeout; since = r.since; expired = r.expired }

-- the timers of a machine: those that ran already go on, the other ones start now, and those that are gone run no more
abbrev pub retimed : ℕ → List Timer → List Running → List Running
retimed now timers running = map (λ t. goes_on now t (running_at t.id running)) timers

-- a timer starts anew where it has this id
abbrev pub heard_one : ℕ → ℕ → Running → Running
heard_one id now r = if r.id == id then record r { since = now } else r

-- the timer with this id starts anew, where there is one
abbrev pub heard : ℕ → ℕ → List Running → List Running
heard id now running = map (heard_one id now) running

-- a timer is noted where it has this id
abbrev pub noted_one : ℕ → Running → Running
noted_one id r = if r.id == id then record r { expired = true } else r

-- the expiry of the timer with this id is noted, where there is one
abbrev pub noted : ℕ → List Running → List Running
noted id running = map (noted_one id) running

-- has it run out, and is its expiry not noted yet?
abbrev pub is_due : ℕ → Running → Bool
is_due now r = not r.expired && nat_le (r.since + r.timeout) now

-- the id of the first timer that is due: by rising id, the least one
abbrev pub due : ℕ → List Running → Option ℕ
due now [] = None
due now (r ∷ running) = if is_due now r then Some r.id else due now running

-- the timers from this id on
abbrev pub from_id : ℕ → List Running → List Running
from_id id [] = []
from_id id (r ∷ running) = if nat_lt r.id id then from_id id running else r ∷ running
