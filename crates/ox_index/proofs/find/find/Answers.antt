use Rattle.std.proofs.Common.{◌∙◌, List, ap}
use Rattle.std.specs.Ordering.{is_le}
use Rattle.std.proofs.lemmas.List.{take_rest}
use Rattle.ox_types.specs.Order.{bytes_cmp}
use Rattle.ox_types.specs.Lists.{first_of}
use Rattle.ox_index.specs.declared.added.Added.{Added}
use Rattle.ox_index.specs.Order.{entry_cmp}
use Rattle.ox_index.specs.Place.{kept}
use Rattle.ox_index.proofs.Found.{found_equal, found_floor, found_ceiling, found_lower, found_higher}
use Rattle.ox_index.proofs.find.find.Goals as goal

pub returns-in-Equal : goal.returns-in-Equal
returns-in-Equal c =
    let rest = take_rest c.args.entries.now c.count_before.result in
    rw c.in-Equal.is (c.first_up_to.ensures
    ∙ ap (λ (xs : List Added). kept (λ (a : Added). is_le (entry_cmp a.entry (record { name = c.args.name.now; key = c.args.second.now }))) (first_of xs)) rest
    ∙ found_equal _ _ _ _ c.requires c.count_before.ensures)

pub returns-in-Floor : goal.returns-in-Floor
returns-in-Floor c = rw c.in-Floor.is (c.last_from_name.ensures ∙ found_floor c.args.name.now c.args.second.now _ _ c.requires c.count_up_to.ensures)

pub returns-in-Ceiling : goal.returns-in-Ceiling
returns-in-Ceiling c =
    let rest = take_rest c.args.entries.now c.count_before-in-Ceiling.result in
    rw c.in-Ceiling.is (c.first_up_to_name.ensures
    ∙ ap (λ (xs : List Added). kept (λ (a : Added). is_le (bytes_cmp a.entry.name c.args.name.now)) (first_of xs)) rest
    ∙ found_ceiling c.args.name.now c.args.second.now _ _ c.requires c.count_before-in-Ceiling.ensures)

pub returns-in-Lower : goal.returns-in-Lower
returns-in-Lower c =
    rw c.in-Lower.is (c.last_from_name-in-Lower.ensures ∙ found_lower c.args.name.now c.args.second.now _ _ c.requires c.count_before-in-Lower.ensures)

pub returns-in-Higher : goal.returns-in-Higher
returns-in-Higher c =
    let rest = take_rest c.args.entries.now c.count_up_to-in-Higher.result in
    rw c.in-Higher.is (c.first_up_to_name-in-Higher.ensures
    ∙ ap (λ (xs : List Added). kept (λ (a : Added). is_le (bytes_cmp a.entry.name c.args.name.now)) (first_of xs)) rest
    ∙ found_higher c.args.name.now c.args.second.now _ _ c.requires c.count_up_to-in-Higher.ensures)
