use Rattle.std.proofs.Common.{length}
use Rattle.ox_ops.proofs.rules.+repeats.Given as goal

abbrev pub decreases-repeats : goal.decreases-repeats
decreases-repeats l = length l.entries.now
