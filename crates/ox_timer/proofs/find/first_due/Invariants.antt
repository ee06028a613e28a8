use Rattle.std.proofs.Common.{◌≡◌, drop}
use Rattle.ox_timer.specs.Timers.{due}
use Rattle.ox_timer.proofs.find.first_due.Given as goal

abbrev pub invariant-loop-timer : goal.invariant-loop-timer
invariant-loop-timer l = due l.now (drop l.timer-index l.running) ≡ due l.now l.running
