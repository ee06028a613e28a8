use Rattle.std.proofs.Common.{◌≡◌, ◌≤◌, ◌∙◌, sym, ap, arith, sum_by}
use Rattle.std.specs.Option.{option_copied}
use Rattle.ox_ops.specs.State.{record_of}
use Rattle.ox_puts.specs.Records.{old_weight}
use Rattle.ox_puts.proofs.Puts.{kept-fewer}
use Rattle.ox_puts.proofs.Weights.{weight-of_one, weight-without}
use Rattle.ox_puts.proofs.records.Records.take.Goals as goal

pub weight_if_some-requires : goal.weight_if_some-requires
weight_if_some-requires c =
    let one = weight-of_one c.self.inside.table c.args.key.now c.self.invariant.sound.rising in
    let light = c.self.invariant.sound.light in
    omega (arith, ap old_weight (c.as_ref.ensures.value ∙ c.remove-old.ensures.removed))

weighed : (c : goal.After-weight_if_some) → c.weight_if_some.result ≡ old_weight (record_of c.args.key.now c.self.inside.table)
weighed c = c.weight_if_some.ensures ∙ ap old_weight (c.as_ref.ensures.value ∙ c.remove-old.ensures.removed)

pub overflow_sub-self : goal.overflow_sub-self
overflow_sub-self c =
    let one = weight-of_one c.self.inside.table c.args.key.now c.self.invariant.sound.rising in
    let all = c.self.invariant.weight in
    omega (arith, weighed c)

pub invariant_of-self : goal.invariant_of-self
invariant_of-self c =
    kept-fewer _ _ _ _ _ _ _ c.self.invariant c.remove-old.ensures.after c.remove-old.ensures.rising
    (let law = weight-without c.self.inside.table c.args.key.now c.self.invariant.sound.rising in omega (arith, c.weight_if_some.ensures ∙ ap old_weight (c.as_ref.ensures.value ∙ c.remove-old.ensures.removed)))
