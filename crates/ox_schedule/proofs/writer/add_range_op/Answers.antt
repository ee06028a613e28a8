use Rattle.std.proofs.Common.{◌≡◌, ◌++◌, codes, append_assoc}
use Rattle.std.proofs.lemmas.Result.{IfOk-weaker}
use Rattle.ox_text.specs.Words.{range_words, spaced}
use Rattle.ox_schedule.specs.Spelling.{range_op}
use Rattle.ox_schedule.proofs.writer.add_range_op.Goals as goal

pub returns : goal.returns
returns c =
    let P : Unit {0} → Type 0 = λ _. c.add_range.new.text ≡ c.extend.new.self ++ spaced (range_words c.args.range.now) in
    let Q : Unit {0} → Type 0 = λ _. c.add_range.new.text ≡ c.args.text.now ++ spaced (range_op c.args.range.now) in
    let all : c.extend.new.self ++ spaced (range_words c.args.range.now) ≡ c.args.text.now ++ spaced (range_op c.args.range.now) = rw c.in_ok-extend.ensures.ok (append_assoc c.args.text.now (codes " deleterange") (spaced (range_words c.args.range.now))) in
    IfOk-weaker c.add_range.result P Q (λ _ e. cc) c.add_range.ensures
