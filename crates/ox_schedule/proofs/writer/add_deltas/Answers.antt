use Rattle.std.proofs.Common.{◌≡◌, ◌++◌, ℕ, List, map, decimal}
use Rattle.std.specs.List.{flat_map}
use Rattle.std.proofs.lemmas.Result.{IfOk-weaker}
use Rattle.ox_schedule.specs.Spelling.{deltas_words}
use Rattle.ox_text.specs.Words.{spaced}
use Rattle.ox_schedule.specs.Line.{behind_comma}
use Rattle.ox_schedule.proofs.WriterLemmas.{deltas_text}
use Rattle.ox_schedule.proofs.writer.add_deltas.Goals as goal

pub returns : goal.returns
returns c =
    let others : List ℕ = flat_map behind_comma (map decimal c.in-Some.rest.now) in
    let P : Unit {0} → Type 0 = λ _. c.add_further.new.text ≡ c.add_number.new.text ++ others in
    let Q : Unit {0} → Type 0 = λ _. c.add_further.new.text ≡ c.args.text.now ++ spaced (deltas_words c.args.deltas.now) in
    let all : c.add_number.new.text ++ others ≡ c.args.text.now ++ spaced (deltas_words c.args.deltas.now) =
    rw (c.in_ok-add_number.ensures, c.in_ok-extend.ensures.ok) (deltas_text c.args.text.now c.args.deltas.now c.in-Some.first c.in-Some.rest.now c.in-Some.ensures) in
    IfOk-weaker c.add_further.result P Q (λ _ e. cc) c.add_further.ensures
