use Rattle.std.proofs.Common.{◌≡◌, ◌++◌, List, ℕ, map}
use Rattle.std.proofs.lemmas.Result.{IfOk-weaker}
use Rattle.ox_schedule.specs.Spelling.{range_op, joined, batch_ops}
use Rattle.ox_text.specs.Words.{spaced}
use Rattle.ox_schedule.specs.Line.{ops_behind}
use Rattle.ox_schedule.proofs.WriterLemmas.{batch_text}
use Rattle.ox_schedule.proofs.writer.add_ops.Goals as goal

pub returns : goal.returns
returns c =
    let b = c.args.batch.now in
    let ranges : List ℕ = spaced (ops_behind c.follow_others.result (map range_op c.as_slice-2.result.now)) in
    let P : Unit {0} → Type 0 = λ _. c.add_ranges.new.text ≡ c.add_deletes.new.text ++ ranges in
    let Q : Unit {0} → Type 0 = λ _. c.add_ranges.new.text ≡ c.args.text.now ++ spaced (joined (batch_ops b)) in
    let all : c.add_deletes.new.text ++ ranges ≡ c.args.text.now ++ spaced (joined (batch_ops b)) =
    rw (c.follow_others.ensures, c.as_slice-2.ensures, c.in_ok-add_deletes.ensures, c.has_items.ensures, c.as_slice.ensures, c.in_ok-add_puts.ensures, c.as_slice-puts.ensures) (batch_text c.args.text.now b) in
    IfOk-weaker c.add_ranges.result P Q (λ _ e. cc) c.add_ranges.ensures
