use Rattle.ox_table.specs.TableLaws.{table_get-inserted, table_get-inserted_other, table_get-removed, table_get-removed_other}
use Rattle.ox_table.proofs.laws.edits_change_one_key.Goals as goal

pub returns-clause-inserted : goal.returns-clause-inserted
returns-clause-inserted g c = table_get-inserted

pub returns-clause-inserted_other : goal.returns-clause-inserted_other
returns-clause-inserted_other g c = table_get-inserted_other

pub returns-clause-removed : goal.returns-clause-removed
returns-clause-removed g c = table_get-removed

pub returns-clause-removed_other : goal.returns-clause-removed_other
returns-clause-removed_other g c = table_get-removed_other
