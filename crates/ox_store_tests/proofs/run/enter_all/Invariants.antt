use Rattle.std.specs.Prelude.{◌<◌}
use Rattle.ox_store_tests.proofs.run.enter_all.Given as goal

abbrev pub invariant-loop-step : goal.invariant-loop-step
invariant-loop-step g l = g.M.Machine.meaning.fits l.count l.machine × (l.count < 1000)
