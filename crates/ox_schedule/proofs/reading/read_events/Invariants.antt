use Rattle.std.proofs.Common.{◌≡◌, ◌≤◌, ◌+◌, length}
use Rattle.ox_schedule.specs.Schedule.{events_at, with_front, lines_of}
use Rattle.ox_schedule.proofs.reading.read_events.Given as goal

abbrev pub invariant-loop-rest : goal.invariant-loop-rest
invariant-loop-rest l =
    record {
      same : events_at l.places 2 (lines_of l.text) ≡ with_front l.events (events_at l.places (length l.events + 2) (lines_of l.rest));
      short : length l.events + length l.rest ≤ length l.text;
    }

abbrev pub decreases-loop-rest : goal.decreases-loop-rest
decreases-loop-rest l = length l.rest
