use Rattle.std.proofs.Common.{length}
use Rattle.ox_ops.proofs.rules.+check_puts.Given as goal

abbrev pub decreases-check_puts : goal.decreases-check_puts
decreases-check_puts l = length l.puts.now
