use Rattle.std.proofs.Common.{◌∙◌, ap, subst, ℕ, List, filter}
use Rattle.ox_order.specs.Range.{in_range}
use Rattle.ox_ops.specs.Answer.{IndexPair}
use Rattle.ox_ops.specs.Page.{key_size}
use Rattle.ox_ops.specs.Filling.{Holds}
use Rattle.ox_index.specs.Pairs.{pairs_under}
use Rattle.ox_shard.specs.Parts.{state_of}
use Rattle.ox_shard.proofs.Entries.{listed-by}
use Rattle.ox_shard.proofs.Pages.{keys-told}
use Rattle.ox_shard.proofs.parts.Parts.list_by.Goals as goal

pub returns : goal.returns
returns c =
    let index = c.args.self.now.lists.index in
    let are = c.within-entries.ensures.pairs ∙ ap (λ (name : List ℕ). filter (λ (p : IndexPair). in_range c.args.range.now p.second) (pairs_under name index)) c.as_slice.ensures in
    let keys = listed-by (state_of c.args.self.now) index c.requires.listed.entries c.within-entries.ensures.in_order c.records_are_sound.ensures.rising c.requires.entries c.args.range.now c.args.name.now c.within-entries.result.now are in
    keys-told _ c.in_ok-page.page c.finish-keys.result.0 c.finish-keys.result.1 (subst (λ (ks : List (List ℕ)). Holds key_size c.in_ok-page.page ks) keys c.in_ok-page.ensures) c.finish-keys.ensures.items c.finish-keys.ensures.more
