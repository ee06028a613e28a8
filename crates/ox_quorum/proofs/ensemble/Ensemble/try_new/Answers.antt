use Rattle.std.proofs.Common.{rules, ◌<◌, ◌≤◌, ◌^◌, All, [], length, sym, ap, subst, ◌∙◌}
use Rattle.std.proofs.lemmas.List.Sorted.{IsNonDecreasingBy-from_sort_by_key}
use Rattle.ox_quorum.specs.Ensemble.{first_again}
use Rattle.ox_quorum.proofs.Again.{ensemble_told}
use Rattle.ox_quorum.proofs.ensemble.Ensemble.try_new.Goals as goal

-- the sort moves the nodes, of which none stands again, so that they rise
pub returns : goal.returns
returns c =
    let sort = c.sort_unstable_by_key.ensures in
    let rising = IsNonDecreasingBy-from_sort_by_key (λ n. n) c.sort_unstable_by_key.new.self.items sort.sorted (λ a r q k. search rules) in
    let some : 0 < length c.args.nodes.items = search rules in
    let few : length c.args.nodes.items ≤ 7 = search rules in
    let none = ap (first_again []) (sym c.as_slice.ensures.value) ∙ sym c.first_repeated.ensures.first ∙ c.in_default.is in
    let small : All (λ n. n < 2 ^ 32) c.args.nodes.items = subst (All (λ n. n < 2 ^ 32)) c.as_slice.ensures.value c.in_default.ensures.ids in
    ensemble_told c.args.nodes.items _ some few none small sort.permutation rising

pub invariant_of-result : goal.invariant_of-result
invariant_of-result c = (returns c).0
