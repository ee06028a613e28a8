use Rattle.std.proofs.Common.{◌∙◌, sym, ap, slice_get}
use Rattle.std.proofs.lemmas.List.{take_rest}
use Rattle.ox_table.proofs.Cuts.{cut_find, gt-not_le}
use Rattle.ox_table.proofs.table.Table.higher.Goals as goal

pub returns-clause-pair : goal.returns-clause-pair
returns-clause-pair g c =
    let rest = take_rest c.as_slice-pairs.result.now c.count_up_to.result in
    rw (← c.self.view_is, ← c.as_slice-pairs.ensures.value)
    (c.first.ensures ∙ ap (λ ps. slice_get ps 0) rest ∙ sym (cut_find _ c.count_up_to.ensures _ (λ p. gt-not_le _)))
