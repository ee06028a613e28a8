use Rattle.std.proofs.Common.{◌≡◌, ◌≤◌, ◌∙◌, sym, ap, arith, sum_by, filter}
use Rattle.ox_order.specs.Range.{in_range}
use Rattle.ox_ops.specs.declared.answer.Record.{Record}
use Rattle.ox_ops.specs.Weight.{record_weight}
use Rattle.ox_puts.proofs.Puts.{kept-fewer}
use Rattle.ox_puts.proofs.Weights.{weight-range}
use Rattle.ox_puts.proofs.records.Records.remove_range.Goals as goal

weight : (c : goal.After-as_slice) → sum_by record_weight c.as_slice.result.now ≡ sum_by record_weight (filter (λ (r : Record). in_range c.args.range.now r.key) c.self.inside.table)
weight c = ap (sum_by record_weight) (c.as_slice.ensures ∙ c.in_ok-gone.ensures.taken)

pub records_weight-requires : goal.records_weight-requires
records_weight-requires c =
    let both = weight-range c.args.range.now c.self.inside.table in
    let light = c.self.invariant.sound.light in
    omega (arith, weight c)

weight-2 : (c : goal.After-records_weight) → sum_by record_weight c.as_slice.result.now ≡ sum_by record_weight (filter (λ (r : Record). in_range c.args.range.now r.key) c.self.inside.table)
weight-2 c = ap (sum_by record_weight) (c.as_slice.ensures ∙ c.in_ok-gone.ensures.taken)

pub overflow_sub-self : goal.overflow_sub-self
overflow_sub-self c =
    let both = weight-range c.args.range.now c.self.inside.table in
    let all = c.self.invariant.weight in
    omega (arith, weight-2 c)

weight-3 : (c : goal.After-range_notice) → sum_by record_weight c.as_slice.result.now ≡ sum_by record_weight (filter (λ (r : Record). in_range c.args.range.now r.key) c.self.inside.table)
weight-3 c = ap (sum_by record_weight) (c.as_slice.ensures ∙ c.in_ok-gone.ensures.taken)

pub invariant_of-self-2 : goal.invariant_of-self-2
invariant_of-self-2 c =
    kept-fewer _ _ _ _ _ _ _ c.self.invariant c.in_ok-gone.ensures.ok c.in_ok-gone.ensures.rising
    (let both = weight-range c.args.range.now c.self.inside.table in omega (arith, weight-3 c))
