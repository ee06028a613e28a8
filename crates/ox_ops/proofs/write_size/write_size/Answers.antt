use Rattle.std.proofs.Common.{◌∙◌, ap, ◌+◌, ◌-◌, ◌^◌, sum_by}
use Rattle.std.specs.Prelude.{min}
use Rattle.ox_ops.specs.Size.{put_size, delete_size, range_size}
use Rattle.ox_ops.proofs.WriteSizes.{write_size-is, capped-write}
use Rattle.ox_ops.proofs.write_size.write_size.Goals as goal

pub returns : goal.returns
returns c =
    capped-write c.list_bytes-puts.result c.list_bytes-deletes.result c.list_bytes-ranges.result _ _ _ _ _
    (c.list_bytes-puts.ensures ∙ ap (λ ps. min (4 + sum_by put_size ps) (2 ^ 64 - 1)) c.as_slice.ensures)
    (c.list_bytes-deletes.ensures ∙ ap (λ ds. min (4 + sum_by delete_size ds) (2 ^ 64 - 1)) c.as_slice-2.ensures)
    (c.list_bytes-ranges.ensures ∙ ap (λ rs. min (4 + sum_by range_size rs) (2 ^ 64 - 1)) c.as_slice-3.ensures)
    (c.saturating_add-3.ensures ∙ ap (λ n. min (n + 1) (2 ^ 64 - 1)) (c.saturating_add-2.ensures ∙ ap (λ n. min (n + c.list_bytes-ranges.result) (2 ^ 64 - 1)) c.saturating_add.ensures))
    (write_size-is c.args.batch.now)
