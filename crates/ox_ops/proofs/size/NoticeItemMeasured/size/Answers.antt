use Rattle.std.proofs.Common.{arith}
use Rattle.ox_ops.proofs.Sizes.{item_size-is}
use Rattle.ox_ops.proofs.size.NoticeItemMeasured.size.Goals as goal

pub returns : goal.returns
returns c = omega (arith, item_size-is c.args.self.now _ c.notice_bytes.ensures.exact)
