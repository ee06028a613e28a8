use Rattle.ox_bytes.specs.ListLaws.{list_by_exact}
use Rattle.ox_bytes.proofs.law.law_list_by.Goals as goal

pub returns : goal.returns
returns g c = λ count course s counted exact. list_by_exact course exact count s counted
