use Rattle.std.proofs.Common.{◌∙◌, sym, List, ℕ, Bor}
use Rattle.std.proofs.lemmas.List.Folds.{list_all-map}
use Rattle.ox_schedule.specs.Spelling.{is_word}
use Rattle.ox_schedule.proofs.line.are_words.Goals as goal

pub returns : goal.returns
returns c = c.each_is_word.ensures ∙ sym (list_all-map is_word (λ (w : Bor (List ℕ)). w.now) c.args.words.now)
