use Rattle.std.proofs.Common.{◌≡◌, ◌++◌, map, drop}
use Rattle.ox_schedule.specs.Spelling.{range_op}
use Rattle.ox_text.specs.Words.{spaced}
use Rattle.ox_schedule.specs.Line.{ops_behind}
use Rattle.ox_schedule.proofs.writer.add_ranges.Given as goal

abbrev pub invariant-loop-range : goal.invariant-loop-range
invariant-loop-range l = l.text ++ spaced (ops_behind l.follows (map range_op (drop l.range-index l.ranges))) ≡ l.fn.text ++ spaced (ops_behind l.fn.follows (map range_op l.ranges))
