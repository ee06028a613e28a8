use Rattle.std.proofs.Common.{◌∙◌, ◌++◌, ◌∷◌, [], ap, sym, arith, append_assoc}
use Rattle.oxia_top.specs.Node.{between}
use Rattle.oxia_top.proofs.LogLemmas.{next_between}
use Rattle.oxia_top.proofs.node.copy_from.Goals as goal

pub loop-offset-preserved : goal.loop-offset-preserved
loop-offset-preserved c =
    let here = rw c.in-Some.is at c.in_ok-entry.ensures in
    let next = next_between c.args.replica.now.disk c.args.from c.loop-offset.offset c.in-Some.entry (let base = rw c.view.ensures at c.if-from-view.false in base) c.loop-offset.auto.offset (sym here) in
    record {
      copied =
          c.in_ok-push-in-Some.ensures.ok ∙ ap (λ es. es ++ c.in-Some.entry ∷ []) c.loop-offset.invariant.copied ∙ append_assoc c.args.into.now (between c.args.replica.now.disk c.args.from c.loop-offset.offset) (c.in-Some.entry ∷ [])
          ∙ ap (λ es. c.args.into.now ++ es) (sym next);
      reach = omega (arith, c.loop-offset-test.true);
    }
