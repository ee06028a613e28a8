use Rattle.std.proofs.Common.{◌≡◌, drop}
use Rattle.ox_schedule.specs.Reading.{each_of, entry_option}
use Rattle.ox_schedule.proofs.OptionLemmas.{behind, texts}
use Rattle.ox_schedule.proofs.options.read_entries.Given as goal

abbrev pub invariant-loop-word : goal.invariant-loop-word
invariant-loop-word l = each_of entry_option (texts l.words) ≡ behind l.entries (each_of entry_option (texts (drop l.word-index l.words)))
