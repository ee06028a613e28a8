use Rattle.std.proofs.Common.{◌≡◌, ◌≤◌, sym, ap, ◌∙◌, subst, false, ℕ, ltb, refl, drop, filter}
use Rattle.std.proofs.lemmas.Bool.{le-ltb}
use Rattle.std.specs.List.{flat_map}
use Rattle.ox_ops.specs.declared.notice.NoticeItem.{NoticeItem}
use Rattle.ox_ops.specs.declared.notice.NoticeBatch.{NoticeBatch}
use Rattle.ox_ops.specs.declared.answer.ShardAnswer.TheVariants as answer
use Rattle.ox_ops.specs.State.{ShardState}
use Rattle.ox_ops.specs.Answer.{items_in, notices_after}
use Rattle.ox_ops.specs.Page.{item_size}
use Rattle.ox_ops.specs.Filling.{Filling, Holds}
use Rattle.ox_notice.specs.Kept.{Kept, kept_of}
use Rattle.ox_notice.proofs.notices.Notices.after.Goals as goal

-- the page of a shard that keeps these batches
paged : (s : ShardState) (k : Kept) (offset skip n : ℕ) (page : Filling NoticeItem) → kept_of s ≡ k → k.low ≤ offset → filter (λ (b : NoticeBatch). ltb offset b.offset) k.batches ≡ drop n k.batches
    → Holds item_size page (drop skip (flat_map items_in (drop n k.batches))) → notices_after s offset skip ≡ answer.Notices page.items page.more
paged s k offset skip n page is le cut holds =
    let low : s.low ≡ k.low = ap (λ (x : Kept). x.low) is in
    let batches : s.batches ≡ k.batches = ap (λ (x : Kept). x.batches) is in
    let kept : ltb offset s.low ≡ false = ap (ltb offset) low ∙ le-ltb _ _ le in
    rw (kept, batches, cut, holds.items, holds.more) refl

pub returns-clause-page : goal.returns-clause-page
returns-clause-page c =
    let same : c.batches-batches.result.now.items ≡ c.self.inside.queue.batches = c.batches-batches.ensures in
    let le : c.self.inside.queue.low ≤ c.args.offset = subst (λ n. n ≤ c.args.offset) c.low-low.ensures c.if-offset-low.false in
    let cut : filter (λ (b : NoticeBatch). ltb c.args.offset b.offset) c.self.inside.queue.batches ≡ drop c.count_up_to-from.result c.self.inside.queue.batches =
    subst (λ bs. filter (λ (b : NoticeBatch). ltb c.args.offset b.offset) bs ≡ drop c.count_up_to-from.result bs) same c.count_up_to-from.ensures in
    let holds : Holds item_size c.in_ok-page.page (drop c.args.skip (flat_map items_in (drop c.count_up_to-from.result c.self.inside.queue.batches))) =
    subst (λ bs. Holds item_size c.in_ok-page.page (drop c.args.skip (flat_map items_in (drop c.count_up_to-from.result bs)))) same c.in_ok-page.ensures in
    rw (sym c.self.view_is, c.finish-items.ensures.items, c.finish-items.ensures.more) (λ s is. paged s c.self.inside.queue c.args.offset c.args.skip c.count_up_to-from.result c.in_ok-page.page is le cut holds)
