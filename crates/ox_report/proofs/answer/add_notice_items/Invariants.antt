use Rattle.std.proofs.Common.{◌≡◌, ◌++◌, take}
use Rattle.std.specs.List.{flat_map}
use Rattle.ox_report.specs.Answer.{notice_item}
use Rattle.ox_report.proofs.answer.add_notice_items.Given as goal

abbrev pub invariant-loop-item : goal.invariant-loop-item
invariant-loop-item l = l.text ≡ l.fn.text ++ flat_map notice_item (take l.item-index l.items)
