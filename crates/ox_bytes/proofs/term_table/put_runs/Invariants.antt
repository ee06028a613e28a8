use Rattle.std.proofs.Common.{◌≡◌, ◌++◌, length, take}
use Rattle.std.specs.List.{flat_map}
use Rattle.ox_bytes.specs.Numbers.{be32}
use Rattle.ox_bytes.specs.LogForms.{run_text}
use Rattle.ox_bytes.proofs.term_table.put_runs.Given as goal

abbrev pub invariant-loop-run : goal.invariant-loop-run
invariant-loop-run l = l.to ≡ l.fn.to ++ (be32 (length l.run-items) ++ flat_map run_text (take l.run-index l.run-items))
