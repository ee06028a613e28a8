use Rattle.std.proofs.Common.{true, sym, ◌∙◌, ap, arith}
use Rattle.std.specs.Ordering.{is_eq}
use Rattle.ox_types.specs.Comparisons.{equal_of}
use Rattle.ox_index.specs.declared.added.Added.{Added}
use Rattle.ox_index.specs.Order.{added_cmp}
use Rattle.ox_index.proofs.Edits.{at_place, at_gap, at_end}
use Rattle.ox_index.proofs.place.place_of.Goals as goal

pub returns-in-None : goal.returns-in-None
returns-in-None c = let look = c.in-None.ensures.lookup in
    at_end _ _ _ c.count_before_added-place.ensures c.requires (omega arith)

pub returns-then-is_eq : goal.returns-then-is_eq
returns-then-is_eq c =
    let look = c.in-Some.ensures.lookup in
    let tie = ap (λ (y : Added). added_cmp y (record { entry = c.args.entry.now; key = c.args.key.now })) (sym look.1) ∙ sym c.order.ensures ∙ equal_of _ (sym c.is_eq.ensures ∙ c.if-is_eq.true) in
    at_place _ _ _ c.count_before_added-place.ensures c.requires c.in-Some.added.now look.3.0 tie

pub returns-else-is_eq : goal.returns-else-is_eq
returns-else-is_eq c =
    let look = c.in-Some.ensures.lookup in
    let other = ap (λ (y : Added). is_eq (added_cmp y (record { entry = c.args.entry.now; key = c.args.key.now }))) (sym look.1) ∙ ap is_eq (sym c.order.ensures) ∙ sym c.is_eq.ensures ∙ c.if-is_eq.false in
    at_gap _ _ _ c.count_before_added-place.ensures c.requires c.in-Some.added.now look.3.0 other
