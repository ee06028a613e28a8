use Rattle.ox_index.specs.OrderLaws.{in_order-with, in_order-without}
use Rattle.ox_index.specs.PairLaws.{has-with, has-without}
use Rattle.ox_index.proofs.laws.edits_change_one_entry.Goals as goal

pub returns-clause-added : goal.returns-clause-added
returns-clause-added c = has-with

pub returns-clause-dropped : goal.returns-clause-dropped
returns-clause-dropped c = has-without

pub returns-clause-added_in_order : goal.returns-clause-added_in_order
returns-clause-added_in_order c = in_order-with

pub returns-clause-dropped_in_order : goal.returns-clause-dropped_in_order
returns-clause-dropped_in_order c = in_order-without
