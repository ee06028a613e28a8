use Rattle.std.proofs.Common.{◌≡◌, ◌∙◌, ◌∷◌, ◌++◌, [], ap, refl}
use Rattle.oxia_top.proofs.LetterLemmas.{alone}
use Rattle.oxia_top.proofs.letter.leader_body.Goals as goal

pub returns-in-Ok : goal.returns-in-Ok
returns-in-Ok c =
    let nodes : c.push.new.self.items ≡ 1 ∷ [] = c.in_ok-push.ensures.items ∙ ap (λ ns. ns ++ 1 ∷ []) c.new-nodes.ensures.items in
    let only : c.in-Ok.ensemble ≡ 1 ∷ [] = alone c.push.new.self.items c.in-Ok.ensemble nodes c.in-Ok.ensures.1 in
    rw (only, c.new.ensures) refl
