use Rattle.std.proofs.Common.{◌≡◌, ◌++◌, map, drop}
use Rattle.ox_schedule.specs.Spelling.{put_op}
use Rattle.ox_text.specs.Words.{spaced}
use Rattle.ox_schedule.specs.Line.{ops_behind}
use Rattle.ox_schedule.proofs.writer.add_puts.Given as goal

abbrev pub invariant-loop-put : goal.invariant-loop-put
invariant-loop-put l = l.text ++ spaced (ops_behind l.follows (map put_op (drop l.put-index l.puts))) ≡ l.fn.text ++ spaced (ops_behind l.fn.follows (map put_op l.puts))
