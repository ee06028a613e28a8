use Rattle.std.proofs.Common.{◌≡◌, ◌≤◌, ◌++◌, drop, length}
use Rattle.ox_types.specs.Timers.{IdsRise}
use Rattle.ox_timer.specs.Timers.{retimed}
use Rattle.ox_timer.proofs.merge.merged.Given as goal

-- the timers so far and those to come are the whole
abbrev pub invariant-loop-timer : goal.invariant-loop-timer
invariant-loop-timer l = record {
  within : l.at ≤ length l.running;
  rise : IdsRise (drop l.timer-index l.timers);
  whole : l.next.items ++ retimed l.now (drop l.timer-index l.timers) (drop l.at l.running) ≡ retimed l.now l.timers l.running;
}
