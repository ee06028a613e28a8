use Rattle.std.proofs.Common.{◌∙◌, ap, refl, ℕ, List, Some, None}
use Rattle.std.proofs.lemmas.Result.{IfOk-weaker}
use Rattle.ox_index.specs.Pairs.{pairs_under}
use Rattle.ox_shard.specs.Parts.{state_of}
use Rattle.ox_shard.proofs.Entries.{pairs-are, got-by}
use Rattle.ox_shard.proofs.parts.Parts.get_by.Goals as goal

pub returns-in-None : goal.returns-in-None
returns-in-None c =
    let index = c.args.self.now.lists.index in
    let pairs = ap (λ (name : List ℕ). pairs_under name index) c.as_slice.ensures ∙ pairs-are index c.args.self.now.records.records c.requires.listed.entries c.in-None.ensures.in_order c.records_are_sound.ensures.rising c.requires.entries c.args.name.now in
    got-by (state_of c.args.self.now) c.args.compare c.args.second.now c.args.name.now (pairs_under c.as_slice.result.now index) None pairs c.in-None.ensures.key None refl

pub returns-in-Some : goal.returns-in-Some
returns-in-Some c =
    let index = c.args.self.now.lists.index in
    let pairs = ap (λ (name : List ℕ). pairs_under name index) c.as_slice.ensures ∙ pairs-are index c.args.self.now.records.records c.requires.listed.entries c.in-Some.ensures.in_order c.records_are_sound.ensures.rising c.requires.entries c.args.name.now in
    IfOk-weaker c.get.result _ _ (λ found is. got-by (state_of c.args.self.now) c.args.compare c.args.second.now c.args.name.now (pairs_under c.as_slice.result.now index) (Some c.in-Some.key.now) pairs c.in-Some.ensures.key found is) c.get.ensures
