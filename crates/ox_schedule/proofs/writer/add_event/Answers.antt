use Rattle.std.proofs.Common.{◌≡◌, ◌++◌}
use Rattle.std.proofs.lemmas.Result.{IfOk-weaker}
use Rattle.ox_schedule.specs.Spelling.{event_line}
use Rattle.ox_schedule.proofs.WriterLemmas.{line_text}
use Rattle.ox_schedule.proofs.writer.add_event.Goals as goal

pub returns-clause-ok : goal.returns-clause-ok
returns-clause-ok c =
    let P : Unit {0} → Type 0 = λ _. c.extend.new.self ≡ c.args.text.now ++ c.after_first.result.now in
    let Q : Unit {0} → Type 0 = λ _. c.extend.new.self ≡ c.args.text.now ++ event_line c.args.event.now in
    let line : c.after_first.result.now ≡ event_line c.args.event.now = rw (c.after_first.ensures, c.as_slice.ensures, c.in_ok-add_words.ensures, c.new-line.ensures) (line_text c.args.event.now) in
    IfOk-weaker c.extend.result P Q (λ _ e. cc) c.extend.ensures.ok
