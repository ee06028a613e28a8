use Rattle.std.proofs.Common.{◌∙◌, sym, ap, ◌+◌, ◌*◌, ◌-◌, ◌^◌, length, sum_by}
use Rattle.std.specs.Prelude.{min}
use Rattle.ox_ops.specs.Weight.{entry_weight}
use Rattle.ox_ops.proofs.WriteSizes.{put_size-is, capped-put}
use Rattle.ox_ops.proofs.write_size.PutMeasured.size.Goals as goal

pub returns : goal.returns
returns c =
    capped-put c.fixed_bytes.result c.saturating_mul-deltas.result c.weigh_entries-indexes.result (length c.args.self.now.deltas) (sum_by entry_weight c.args.self.now.indexes) _ _
    (c.saturating_mul-deltas.ensures ∙ ap (λ n. min (n * 8) (2 ^ 64 - 1)) c.len.ensures)
    (c.weigh_entries-indexes.ensures ∙ ap (λ es. min (sum_by entry_weight es) (2 ^ 64 - 1)) c.as_slice.ensures)
    (c.saturating_add-2.ensures ∙ ap (λ n. min (n + c.weigh_entries-indexes.result) (2 ^ 64 - 1)) c.saturating_add.ensures)
    (put_size-is c.args.self.now ∙ ap (λ n. n + 8 * length c.args.self.now.deltas + sum_by entry_weight c.args.self.now.indexes) (sym c.fixed_bytes.ensures))
