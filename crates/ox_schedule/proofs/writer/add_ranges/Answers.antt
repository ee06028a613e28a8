use Rattle.std.proofs.Common.{◌≡◌, ◌∙◌, ◌++◌, ◌∷◌, ◌+◌, List, drop, map, sym, ap, arith}
use Rattle.std.proofs.lemmas.Grind.{common_steps}
use Rattle.ox_order.specs.declared.range.KeyRange.{KeyRange}
use Rattle.ox_schedule.specs.Spelling.{range_op}
use Rattle.ox_text.specs.Words.{spaced}
use Rattle.ox_schedule.specs.Line.{ops_behind}
use Rattle.ox_schedule.proofs.WriterLemmas.{op_text}
use Rattle.ox_schedule.proofs.writer.add_ranges.Goals as goal

pub loop-range-preserved : goal.loop-range-preserved
loop-range-preserved c =
    let front : drop c.loop-range.range-index c.args.ranges.now ≡ c.range-item.result ∷ drop (c.loop-range.range-index + 1) c.args.ranges.now = grind (arith, common_steps) in
    rw (c.in_ok-add_range_op.ensures, c.in_ok-add_plus.ensures) (op_text c.loop-range.text c.loop-range.follows (range_op c.range-item.result) (map range_op (drop (c.loop-range.range-index + 1) c.args.ranges.now)) ∙ ap (λ (rs : List KeyRange). c.loop-range.text ++ spaced (ops_behind c.loop-range.follows (map range_op rs))) (sym front) ∙ c.loop-range.invariant)
