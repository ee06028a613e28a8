use Rattle.std.proofs.Common.{◌≡◌, drop}
use Rattle.ox_timer.specs.Timers.{from_id}
use Rattle.ox_timer.proofs.merge.place_from.Given as goal

abbrev pub invariant-loop-i : goal.invariant-loop-i
invariant-loop-i l = from_id l.id (drop l.i l.running) ≡ from_id l.id (drop l.at l.running)
