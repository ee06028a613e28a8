use Rattle.std.proofs.Common.{◌≡◌, ◌++◌, map, drop, decimal}
use Rattle.std.specs.List.{flat_map}
use Rattle.ox_schedule.specs.Line.{behind_comma}
use Rattle.ox_schedule.proofs.writer.add_further.Given as goal

abbrev pub invariant-loop-number : goal.invariant-loop-number
invariant-loop-number l = l.text ++ flat_map behind_comma (map decimal (drop l.number-index l.numbers)) ≡ l.fn.text ++ flat_map behind_comma (map decimal l.numbers)
