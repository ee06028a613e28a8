use Rattle.std.proofs.Common.{◌≡◌, ◌≤◌, ◌∙◌, sym, ap, arith, sum_by, option_to_list}
use Rattle.ox_ops.specs.State.{record_of}
use Rattle.ox_ops.specs.Weight.{record_weight}
use Rattle.ox_puts.specs.Records.{old_weight}
use Rattle.ox_puts.proofs.Puts.{kept-fewer}
use Rattle.ox_puts.proofs.Weights.{weight-of_one, weight-without}
use Rattle.ox_puts.proofs.records.Records.remove.Goals as goal

weight : (c : goal.After-as_slice) → sum_by record_weight c.as_slice.result.now ≡ old_weight (record_of c.args.key.now c.self.inside.table)
weight c = ap (sum_by record_weight) (c.as_slice.ensures ∙ c.list_of-gone.ensures ∙ ap option_to_list c.remove-old.ensures.removed)

weight-2 : (c : goal.After-records_weight) → sum_by record_weight c.as_slice.result.now ≡ old_weight (record_of c.args.key.now c.self.inside.table)
weight-2 c = ap (sum_by record_weight) (c.as_slice.ensures ∙ c.list_of-gone.ensures ∙ ap option_to_list c.remove-old.ensures.removed)

pub records_weight-requires : goal.records_weight-requires
records_weight-requires c =
    let one = weight-of_one c.self.inside.table c.args.key.now c.self.invariant.sound.rising in
    let light = c.self.invariant.sound.light in
    omega (arith, weight c)

pub overflow_sub-self : goal.overflow_sub-self
overflow_sub-self c =
    let one = weight-of_one c.self.inside.table c.args.key.now c.self.invariant.sound.rising in
    let all = c.self.invariant.weight in
    omega (arith, weight-2 c)

weight-3 : (c : goal.After-self-1) → sum_by record_weight c.as_slice.result.now ≡ old_weight (record_of c.args.key.now c.self.inside.table)
weight-3 c = ap (sum_by record_weight) (c.as_slice.ensures ∙ c.list_of-gone.ensures ∙ ap option_to_list c.remove-old.ensures.removed)

pub invariant_of-self : goal.invariant_of-self
invariant_of-self c =
    kept-fewer _ _ _ _ _ _ _ c.self.invariant c.remove-old.ensures.after c.remove-old.ensures.rising
    (let law = weight-without c.self.inside.table c.args.key.now c.self.invariant.sound.rising in omega (arith, weight-3 c))
