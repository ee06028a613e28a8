use Rattle.std.proofs.Common.{◌≡◌, ◌++◌, take}
use Rattle.std.specs.List.{flat_map}
use Rattle.ox_report.specs.Answer.{record_item}
use Rattle.ox_report.proofs.answer.add_record_items.Given as goal

abbrev pub invariant-loop-found : goal.invariant-loop-found
invariant-loop-found l = l.text ≡ l.fn.text ++ flat_map record_item (take l.found-index l.records)
