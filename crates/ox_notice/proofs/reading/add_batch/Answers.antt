use Rattle.std.proofs.Common.{◌≡◌, sym, subst, ◌++◌, ◌∙◌, ap, drop, take, map, length, ℕ, ◌-◌, List, arith}
use Rattle.std.proofs.lemmas.List.{length-drop}
use Rattle.ox_ops.specs.declared.notice.Notice.{Notice}
use Rattle.ox_ops.specs.declared.notice.NoticeItem.{NoticeItem}
use Rattle.ox_ops.specs.Answer.{items_in}
use Rattle.ox_ops.specs.Page.{item_size}
use Rattle.ox_ops.specs.Filling.{Holds}
use Rattle.ox_notice.specs.Kept.{item_at}
use Rattle.ox_notice.proofs.Readings.{drop-map, take-whole}
use Rattle.ox_notice.proofs.reading.add_batch.Goals as goal

-- the tail of a slice
tail : (skip : ℕ) (ns : List Notice) → take (length ns - skip) (drop skip ns) ≡ drop skip ns
tail skip ns = let long : length (drop skip ns) ≡ length ns - skip = length-drop skip ns in take-whole (length ns - skip) (drop skip ns) (omega arith)

pub returns-clause-page : goal.returns-clause-page
returns-clause-page c =
    let ns = c.as_slice-notices.result.now in
    let same : map (item_at c.offset_of-offset.result) (take (length ns - c.args.skip) (drop c.args.skip ns)) ≡ drop c.args.skip (items_in c.args.batch.now) =
    ap (map (item_at c.offset_of-offset.result)) (tail c.args.skip ns)
    ∙ ap (λ xs. map (item_at c.offset_of-offset.result) (drop c.args.skip xs)) c.as_slice-notices.ensures
    ∙ ap (λ o. map (item_at o) (drop c.args.skip c.args.batch.now.notices)) c.offset_of-offset.ensures ∙ sym (drop-map (item_at c.args.batch.now.offset) c.args.skip c.args.batch.now.notices) in
    λ offered holds. subst (λ (ms : List NoticeItem). Holds item_size c.add_notices.new.page (offered ++ ms)) same (c.in_ok-add_notices.ensures offered holds)
