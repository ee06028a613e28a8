use Rattle.std.proofs.Common.{sym}
use Rattle.ox_ops.proofs.Sizes.{item_size-is}
use Rattle.ox_ops.proofs.size.notice_size.Goals as goal

pub returns : goal.returns
returns c = λ offset. sym (item_size-is (record { offset = offset; notice = c.args.of.now }) _ c.notice_bytes.ensures.exact)
