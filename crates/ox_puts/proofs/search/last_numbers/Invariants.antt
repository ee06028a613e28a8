use Rattle.std.specs.Option.{option_copied}
use Rattle.ox_puts.specs.Search.{IsLast}
use Rattle.ox_puts.proofs.Greatest.{ahead}
use Rattle.ox_puts.proofs.search.last_numbers.Given as goal

abbrev pub invariant-loop-found : goal.invariant-loop-found
invariant-loop-found l = IsLast l.prefix l.count l.table (option_copied l.found)

abbrev pub decreases-loop-found : goal.decreases-loop-found
decreases-loop-found l = ahead l.table (option_copied l.found)
