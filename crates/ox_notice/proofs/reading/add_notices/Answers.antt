use Rattle.std.proofs.Common.{◌∙◌, sym}
use Rattle.ox_notice.proofs.Readings.{left-out, taken, all_offered}
use Rattle.ox_notice.proofs.reading.add_notices.Goals as goal

pub returns-then-not-offer : goal.returns-then-not-offer
returns-then-not-offer c =
    let full = sym c.offer.ensures.answer ∙ c.if-not-offer.true in
    rw (c.offer.ensures.after, full) (λ offered holds. left-out c.args.offset c.args.notices.now c.loop-notice.notice-index c.notice_size.result c.notice-item.result c.loop-notice.page offered c.loop-notice-test.true c.notice-item.is c.notice_size.type_inv c.notice_size.ensures (c.loop-notice.invariant offered holds) full)

pub loop-notice-preserved : goal.loop-notice-preserved
loop-notice-preserved c =
    let room = sym c.offer.ensures.answer ∙ c.if-not-offer.false in
    rw (c.in_ok-push.ensures.ok, c.in_ok-item_of.ensures, c.offer.ensures.after, room) (λ offered holds. taken c.args.offset c.args.notices.now c.loop-notice.notice-index c.notice_size.result c.notice-item.result c.loop-notice.page offered c.loop-notice-test.true c.notice-item.is c.notice_size.type_inv c.notice_size.ensures (c.loop-notice.invariant offered holds) room)

pub returns : goal.returns
returns c = λ offered holds. all_offered c.args.offset c.args.notices.now c.loop-notice.notice-index c.loop-notice.page offered c.loop-notice-test.false (c.loop-notice.invariant offered holds)
