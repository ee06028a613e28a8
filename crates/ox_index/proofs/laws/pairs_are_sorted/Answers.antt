use Rattle.ox_index.specs.PairLaws.{pairs_sorted, has-in_order_of, in_order-in_order_of}
use Rattle.ox_index.proofs.laws.pairs_are_sorted.Goals as goal

pub returns-clause-pairs : goal.returns-clause-pairs
returns-clause-pairs c = pairs_sorted

pub returns-clause-entries : goal.returns-clause-entries
returns-clause-entries c = has-in_order_of

pub returns-clause-in_order : goal.returns-clause-in_order
returns-clause-in_order c = in_order-in_order_of
