use Rattle.ox_schedule.proofs.PlaceLemmas.{all_of_one_node, all_blocks_fit}
use Rattle.ox_schedule.proofs.law.law_places.Goals as goal

pub returns-clause-events : goal.returns-clause-events
returns-clause-events c = all_of_one_node

pub returns-clause-blocks : goal.returns-clause-blocks
returns-clause-blocks c = all_blocks_fit
