use Rattle.std.proofs.Common.{◌≡◌, drop}
use Rattle.ox_schedule.specs.Reading.{each_of, number_of}
use Rattle.ox_schedule.proofs.OptionLemmas.{behind, texts}
use Rattle.ox_schedule.proofs.options.read_numbers.Given as goal

abbrev pub invariant-loop-word : goal.invariant-loop-word
invariant-loop-word l = each_of number_of (texts l.words) ≡ behind l.numbers (each_of number_of (texts (drop l.word-index l.words)))
