use Rattle.ox_wire.proofs.Tabled.{table_is, table_from}
use Rattle.ox_wire.proofs.law.law_table.Goals as goal

pub returns : goal.returns
returns c = λ table. (table_is table, table_from table)
