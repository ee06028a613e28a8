use Rattle.std.proofs.Common.{refl}
use Rattle.ox_types.specs.Order.{key_cmp, parts_cmp}
use Rattle.ox_ops.specs.Operation.{put_on, delete_on, range_on}
use Rattle.ox_ops.specs.Sequence.{next_key}
use Rattle.ox_ops.specs.Apply.{apply_entry}
use Rattle.ox_ops.specs.Answer.{answer_to}
use Rattle.ox_ops.specs.Forms.{notice_item, notice, record_form, meta, index_entry}
use Rattle.ox_order.specs.Forms.{key_range, lo, hi}
use Rattle.std.specs.Fmt.{digits}
use Rattle.ox_rows.proofs.row_of_sequence_keys.Goals as goal

pub returns : goal.returns
unfolding key_cmp parts_cmp put_on delete_on range_on next_key apply_entry answer_to notice_item notice record_form meta index_entry key_range lo hi digits
returns c = refl
