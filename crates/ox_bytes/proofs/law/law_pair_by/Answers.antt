use Rattle.ox_bytes.specs.FormLaws.{pair_by_exact}
use Rattle.ox_bytes.proofs.law.law_pair_by.Goals as goal

pub returns : goal.returns
returns g c = λ first second one two. pair_by_exact first second one two
