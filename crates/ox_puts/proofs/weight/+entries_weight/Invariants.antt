use Rattle.std.proofs.Common.{length}
use Rattle.ox_puts.proofs.weight.+entries_weight.Given as goal

abbrev pub decreases-entries_weight : goal.decreases-entries_weight
decreases-entries_weight l = length l.entries.now
