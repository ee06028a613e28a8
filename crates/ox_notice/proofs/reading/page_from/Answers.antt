use Rattle.ox_ops.specs.Page.{item_size}
use Rattle.ox_ops.specs.FillingLaws.{holds-empty}
use Rattle.ox_notice.proofs.Readings.{begins, goes_on, ends_with, ends_full}
use Rattle.std.proofs.Common.{refl, sym, arith}
use Rattle.ox_notice.proofs.reading.page_from.Goals as goal

pub loop-at-init : goal.loop-at-init
loop-at-init c = rw c.empty-page.ensures (begins c.args.batches.now.items c.args.from c.args.skip c.args.skip refl _ (holds-empty item_size))

pub returns-then-is_more : goal.returns-then-is_more
returns-then-is_more c = ends_full c.args.batches.now.items c.args.from c.args.skip c.loop-at.at c.loop-at.page (sym c.if-is_more.ensures) c.loop-at.invariant.0

pub loop-at-preserved : goal.loop-at-preserved
loop-at-preserved c =
    rw c.in_ok-left.ensures.left (goes_on c.args.batches.now.items c.args.from c.args.skip c.loop-at.at c.loop-at.left c.index-batch.result.now c.add_batch.new.page c.loop-at.auto.at (omega (arith, c.loop-at-test.true, c.len-at-end.ensures)) c.index-batch.ensures c.loop-at.invariant.1 (c.in_ok-left.ensures.page _ c.loop-at.invariant.0))

pub returns : goal.returns
returns c = ends_with c.args.batches.now.items c.args.from c.args.skip c.loop-at.at c.loop-at.page c.loop-at.auto.at (omega (arith, c.loop-at-test.false, c.len-at-end.ensures)) c.loop-at.invariant.0
