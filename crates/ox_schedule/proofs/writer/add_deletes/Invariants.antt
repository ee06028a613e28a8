use Rattle.std.proofs.Common.{◌≡◌, ◌++◌, map, drop}
use Rattle.ox_schedule.specs.Spelling.{delete_op}
use Rattle.ox_text.specs.Words.{spaced}
use Rattle.ox_schedule.specs.Line.{ops_behind}
use Rattle.ox_schedule.proofs.writer.add_deletes.Given as goal

abbrev pub invariant-loop-delete : goal.invariant-loop-delete
invariant-loop-delete l = l.text ++ spaced (ops_behind l.follows (map delete_op (drop l.delete-index l.deletes))) ≡ l.fn.text ++ spaced (ops_behind l.fn.follows (map delete_op l.deletes))
