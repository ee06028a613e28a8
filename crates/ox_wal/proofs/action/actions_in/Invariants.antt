use Rattle.std.proofs.Common.{◌≡◌}
use Rattle.ox_wal.proofs.action.actions_in.Given as goal

abbrev pub invariant-loop-step : goal.invariant-loop-step
invariant-loop-step l = l.actions ≡ l.yielded
