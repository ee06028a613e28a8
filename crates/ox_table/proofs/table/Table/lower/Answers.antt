use Rattle.std.proofs.Common.{◌∙◌, sym, ap, None}
use Rattle.std.specs.List.{last_or}
use Rattle.ox_table.proofs.Cuts.{cut_front}
use Rattle.ox_table.proofs.table.Table.lower.Goals as goal

pub returns-clause-pair : goal.returns-clause-pair
returns-clause-pair g c =
    rw (← c.self.view_is, ← c.as_slice-pairs.ensures.value) (c.last.ensures ∙ ap (last_or None) (sym (cut_front _ c.count_before.ensures)))
