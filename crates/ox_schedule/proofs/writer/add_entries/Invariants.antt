use Rattle.std.proofs.Common.{◌≡◌, ◌++◌, map, drop}
use Rattle.ox_schedule.specs.Spelling.{entry_word}
use Rattle.ox_text.specs.Words.{spaced}
use Rattle.ox_schedule.proofs.writer.add_entries.Given as goal

abbrev pub invariant-loop-entry : goal.invariant-loop-entry
invariant-loop-entry l = l.text ++ spaced (map entry_word (drop l.entry-index l.entries)) ≡ l.fn.text ++ spaced (map entry_word l.entries)
