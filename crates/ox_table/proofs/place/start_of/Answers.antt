use Rattle.ox_table.proofs.Cuts.{cut_agree, not-le, not-lt}
use Rattle.ox_table.proofs.place.start_of.Goals as goal

pub returns-in-At : goal.returns-in-At
returns-in-At g c = rw c.in-At.is (cut_agree _ c.count_before.ensures _ (λ p. not-le _ p.0))

pub returns-in-Past : goal.returns-in-Past
returns-in-Past g c = rw c.in-Past.is (cut_agree _ c.count_up_to.ensures _ (λ p. not-lt _ p.0))
