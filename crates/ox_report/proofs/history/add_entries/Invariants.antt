use Rattle.std.proofs.Common.{◌≡◌, ◌++◌, take}
use Rattle.std.specs.List.{flat_map}
use Rattle.ox_report.specs.History.{entry_line}
use Rattle.ox_report.proofs.history.add_entries.Given as goal

abbrev pub invariant-loop-at : goal.invariant-loop-at
invariant-loop-at l = l.text ≡ l.fn.text ++ flat_map (entry_line l.origins 0) (take l.at l.history)
