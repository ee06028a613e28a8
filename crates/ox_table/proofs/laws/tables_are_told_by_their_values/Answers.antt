use Rattle.ox_table.specs.TableLaws.{same_pairs}
use Rattle.ox_table.proofs.laws.tables_are_told_by_their_values.Goals as goal

pub returns : goal.returns
returns g c = same_pairs
