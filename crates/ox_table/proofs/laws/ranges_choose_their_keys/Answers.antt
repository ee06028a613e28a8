use Rattle.ox_table.specs.TableLaws.{table_get-within, table_get-without}
use Rattle.ox_table.proofs.laws.ranges_choose_their_keys.Goals as goal

pub returns-clause-within : goal.returns-clause-within
returns-clause-within g c = table_get-within

pub returns-clause-without : goal.returns-clause-without
returns-clause-without g c = table_get-without
