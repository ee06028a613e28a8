use Rattle.std.proofs.Common.{◌≡◌, ◌++◌, take}
use Rattle.std.specs.List.{flat_map}
use Rattle.ox_report.specs.Answer.{index_text}
use Rattle.ox_report.proofs.answer.add_indexes.Given as goal

abbrev pub invariant-loop-entry : goal.invariant-loop-entry
invariant-loop-entry l = l.text ≡ l.fn.text ++ flat_map index_text (take l.entry-index l.entries)
