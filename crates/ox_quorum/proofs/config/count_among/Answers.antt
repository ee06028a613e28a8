use Rattle.std.proofs.Common.{rules, arith, ◌≡◌, ◌+◌, ap, sym, ◌∙◌, true, false, get_or, ℕ}
use Rattle.std.proofs.lemmas.List.Sums.{count_by_more_yes, count_by_more_no}
use Rattle.ox_quorum.specs.Ensemble.{has}
use Rattle.ox_quorum.proofs.config.count_among.Goals as goal
use Rattle.ox_quorum.proofs.config.count_among.Goals.{then-is_among, else-is_among}

pub overflow_add-count : goal.overflow_add-count
overflow_add-count c = search rules

pub loop-node-preserved : goal.loop-node-preserved
loop-node-preserved c = elim c.if-is_among.branch [
  | then-is_among w ↦
      let h : has c.args.nodes.now (get_or c.nodes-node-items.result.now c.loop-node.node-index c.node-item.result) ≡ true =
      ap (has c.args.nodes.now) (sym c.node-item.is) ∙ sym c.is_among.ensures ∙ w.if-is_among.true in
      let more = count_by_more_yes (has c.args.nodes.now) c.nodes-node-items.result.now c.loop-node.node-index c.node-item.result c.loop-node-test.true h in
      (w.count-is ∙ ap (λ (n : ℕ). n + 1) c.loop-node.invariant.0 ∙ sym more, omega (arith, w.count-is, c.loop-node.invariant.1))
  | else-is_among w ↦
      let h : has c.args.nodes.now (get_or c.nodes-node-items.result.now c.loop-node.node-index c.node-item.result) ≡ false =
      ap (has c.args.nodes.now) (sym c.node-item.is) ∙ sym c.is_among.ensures ∙ w.if-is_among.false in
      let more = count_by_more_no (has c.args.nodes.now) c.nodes-node-items.result.now c.loop-node.node-index c.node-item.result c.loop-node-test.true h in
      (w.count-is ∙ c.loop-node.invariant.0 ∙ sym more, omega (arith, w.count-is, c.loop-node.invariant.1))
]
