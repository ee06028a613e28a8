use Rattle.std.proofs.Common.{◌++◌, List, map, take}
use Rattle.ox_ops.specs.declared.notice.NoticeItem.{NoticeItem}
use Rattle.ox_ops.specs.Page.{item_size}
use Rattle.ox_ops.specs.Filling.{Holds}
use Rattle.ox_notice.specs.Kept.{item_at}
use Rattle.ox_notice.proofs.reading.add_notices.Given as goal

abbrev pub invariant-loop-notice : goal.invariant-loop-notice
invariant-loop-notice l = (offered : List NoticeItem) → Holds item_size l.fn.page offered → Holds item_size l.page (offered ++ map (item_at l.offset) (take l.notice-index l.notices))
