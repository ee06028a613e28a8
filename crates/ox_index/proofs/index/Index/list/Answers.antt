use Rattle.std.proofs.Common.{◌≡◌, ◌∙◌, ap, subst, ℕ, List, map}
use Rattle.std.specs.Prelude.{IfOk}
use Rattle.ox_ops.specs.Answer.{IndexPair}
use Rattle.ox_index.proofs.Ranges.{keys_behind}
use Rattle.ox_index.proofs.index.Index.list.Goals as goal

pub returns-clause-keys : goal.returns-clause-keys
returns-clause-keys c = subst (λ (ks : List (List ℕ)). IfOk c.keys_of.result (λ keys. keys ≡ ks)) (keys_behind c.within.result.now ∙ ap (map (λ (p : IndexPair). p.key)) c.within.ensures.pairs) c.keys_of.ensures
