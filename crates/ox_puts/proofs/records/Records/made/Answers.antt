use Rattle.std.proofs.Common.{◌≡◌, ◌≤◌, ◌<◌, ◌∙◌, sym, ap, arith, sum_by}
use Rattle.std.specs.Option.{option_copied, ForSome}
use Rattle.ox_ops.specs.declared.answer.Record.{Record}
use Rattle.ox_ops.specs.State.{with_record, record_of}
use Rattle.ox_ops.specs.Weight.{record_weight}
use Rattle.ox_ops.specs.Operation.{meta_over}
use Rattle.ox_puts.specs.Records.{old_weight}
use Rattle.ox_puts.proofs.Puts.{counted_below, modifications-over}
use Rattle.ox_puts.proofs.Weights.{weight-of_one, weight_after}
use Rattle.ox_puts.proofs.records.Records.made.Goals as goal

pub meta_over-meta-requires : goal.meta_over-meta-requires
meta_over-meta-requires c x e = counted_below _ _ _ c.self.invariant.sound.counted x (sym c.get-old.ensures.found ∙ e)

pub weight_with-held-requires-clause-within : goal.weight_with-held-requires-clause-within
weight_with-held-requires-clause-within c =
    rw (c.get-old.ensures.found, c.self.invariant.weight) (weight-of_one _ _ c.self.invariant.sound.rising)

pub returns-clause-weight : goal.returns-clause-weight
returns-clause-weight c =
    rw (← c.self.view_is)
    (weight_after c.self.inside.table _ c.args.key.now (option_copied c.get-old.result) c.self.inside.held _ c.self.invariant.sound.rising c.in_ok-try_clone.ensures c.get-old.ensures.found c.self.invariant.weight c.weight_with-held.ensures)

pub returns-clause-modifications : goal.returns-clause-modifications
returns-clause-modifications c =
    rw (← c.self.view_is, c.meta_over-meta.ensures)
    (modifications-over _ _ _ (λ x e. counted_below _ _ _ c.self.invariant.sound.counted x (sym c.get-old.ensures.found ∙ e)))
