use Rattle.std.proofs.Common.{◌∙◌, ap, nat_le, filter, rules}
use Rattle.std.proofs.lemmas.Fn.{filter_same}
use Rattle.ox_solo_replica.specs.declared.leading.Pending.{Pending}
use Rattle.ox_solo_replica.proofs.applying.drop_settled.Goals as goal

pub returns : goal.returns
returns c =
    c.from_vec.ensures
    ∙ filter_same _ (λ (x : Pending). nat_le c.args.commit x.offset) _ (λ x b q r. (search rules, search rules)) _ _ c.retain.ensures.filtered
    ∙ ap (filter (λ (x : Pending). nat_le c.args.commit x.offset)) (c.into_vec-waiting.ensures ∙ c.replace-clients.ensures.value)
