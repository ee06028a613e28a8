use Rattle.std.proofs.Common.{◌∙◌, ap, ◌-◌, ◌^◌, sum_by}
use Rattle.std.specs.Prelude.{min}
use Rattle.ox_ops.specs.Weight.{entry_weight}
use Rattle.ox_ops.proofs.Sizes.{record_size-is, capped}
use Rattle.ox_ops.proofs.size.RecordMeasured.size.Goals as goal

pub returns : goal.returns
returns c =
    capped c.fixed_bytes.result c.weigh_entries.result (sum_by entry_weight c.args.self.now.indexes) _ _
    (c.weigh_entries.ensures ∙ ap (λ es. min (sum_by entry_weight es) (2 ^ 64 - 1)) c.as_slice.ensures)
    c.saturating_add.ensures
    (record_size-is c.args.self.now c.fixed_bytes.result c.fixed_bytes.ensures)
