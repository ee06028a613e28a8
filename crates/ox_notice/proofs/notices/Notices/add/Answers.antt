use Rattle.std.proofs.Common.{◌≡◌, ◌<◌, sym, ap, refl, [], ◌++◌, ◌∷◌, sum_by, arith}
use Rattle.std.specs.Prelude.{min}
use Rattle.ox_ops.specs.declared.notice.NoticeBatch.{NoticeBatch}
use Rattle.ox_ops.specs.Weight.{notice_weight}
use Rattle.ox_notice.proofs.Trims.{adds-nothing, adds, adds-heavy, ordered-behind, trim-held}
use Rattle.ox_notice.proofs.notices.Notices.add.Goals as goal

pub invariant_of-self : goal.invariant_of-self
invariant_of-self c = rw c.drop_old.ensures (trim-held c.args.time c.self.inside.queue.low 0 0 c.self.inside.queue.batches c.self.invariant.ordered)

pub returns-then-is_empty-clause-kept : goal.returns-then-is_empty-clause-kept
returns-then-is_empty-clause-kept c =
    rw (sym c.self.view_is, c.drop_old.ensures) (λ s at mark. adds-nothing s c.args.time c.self.inside.queue.low c.self.inside.queue.batches at mark c.self.invariant c.args.offset c.args.batch (c.if-is_empty.ensures.0 refl))

pub returns-then-weight-gt-KEPT_WEIGHT-clause-kept : goal.returns-then-weight-gt-KEPT_WEIGHT-clause-kept
returns-then-weight-gt-KEPT_WEIGHT-clause-kept c =
    let heavy : 67108864 < c.weigh_all-weight.result = c.if-weight-gt-KEPT_WEIGHT.true in
    let m : c.weigh_all-weight.result ≡ min (sum_by notice_weight c.as_slice.result.now) 18446744073709551615 = c.weigh_all-weight.ensures in
    let e : sum_by notice_weight c.as_slice.result.now ≡ sum_by notice_weight c.args.batch = ap (sum_by notice_weight) c.as_slice.ensures in
    let all : 67108864 < sum_by notice_weight c.args.batch = omega arith in
    rw (sym c.self.view_is, c.drop_all.ensures) (λ s at mark. adds-heavy s c.args.time c.self.inside.queue.low c.self.inside.queue.batches at mark c.self.invariant c.args.offset c.args.batch (λ none. absurd (cc (c.if-is_empty.ensures.1 none))) (rw c.self.view_is c.requires.later) (rw c.self.view_is c.requires.not_earlier) all)

pub invariant_of-self-2 : goal.invariant_of-self-2
invariant_of-self-2 c =
    let b : NoticeBatch = record { offset = c.args.offset; time = c.args.time; notices = c.args.batch } in
    rw (c.drop_old-2.ensures, c.in_ok-push.ensures.ok) (trim-held c.args.time c.self.inside.queue.low 0 0 (c.self.inside.queue.batches ++ b ∷ []) (ordered-behind 0 0 c.self.inside.queue.batches b c.self.invariant.ordered (rw c.self.view_is c.requires.later) (rw c.self.view_is c.requires.not_earlier) (omega arith) (omega arith)))

pub returns-clause-kept : goal.returns-clause-kept
returns-clause-kept c =
    rw (sym c.self.view_is, c.drop_old-2.ensures, c.in_ok-push.ensures.ok) (λ s at mark. adds s c.args.time c.self.inside.queue.low c.self.inside.queue.batches at mark c.self.invariant c.args.offset c.args.batch (λ none. absurd (cc (c.if-is_empty.ensures.1 none))) (rw c.self.view_is c.requires.later) (rw c.self.view_is c.requires.not_earlier))
