use Rattle.std.proofs.Common.{◌∙◌, sym, ap, slice_get}
use Rattle.std.proofs.lemmas.List.{take_rest}
use Rattle.ox_table.proofs.Cuts.{cut_find, ge-not_lt}
use Rattle.ox_table.proofs.table.Table.ceiling.Goals as goal

pub returns-clause-pair : goal.returns-clause-pair
returns-clause-pair g c =
    let rest = take_rest c.as_slice-pairs.result.now c.count_before.result in
    rw (← c.self.view_is, ← c.as_slice-pairs.ensures.value)
    (c.first.ensures ∙ ap (λ ps. slice_get ps 0) rest ∙ sym (cut_find _ c.count_before.ensures _ (λ p. ge-not_lt _)))
