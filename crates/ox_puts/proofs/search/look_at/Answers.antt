use Rattle.std.proofs.Common.{◌≡◌, ◌∙◌, ◌*◌, ◌-◌, Some, ap, take, drop, length}
use Rattle.std.proofs.lemmas.Result.{IfOk-weaker}
use Rattle.ox_ops.specs.Sequence.{after_prefix}
use Rattle.ox_puts.proofs.Looks.{short-seen, whole-seen, cut_apart}
use Rattle.ox_puts.proofs.search.look_at.Goals as goal

pub returns-then-rest-len : goal.returns-then-rest-len
returns-then-rest-len c =
    short-seen c.args.prefix.now c.args.count c.args.key.now c.in-Some.rest.now (c.in-Some.ensures ∙ ap (λ p. after_prefix p c.bytes.result.now) c.bytes-2.ensures.same ∙ ap (after_prefix c.args.prefix.now) c.bytes.ensures.same) c.if-rest-len.true

pub returns : goal.returns
returns c =
    IfOk-weaker c.look_behind.result _ _
    (λ look seen. whole-seen c.args.prefix.now c.args.count c.args.key.now c.in-Some.rest.now (take (21 * c.args.count) c.in-Some.rest.now) (take (length c.in-Some.rest.now - 21 * c.args.count) (drop (21 * c.args.count) c.in-Some.rest.now)) look (c.in-Some.ensures ∙ ap (λ p. after_prefix p c.bytes.result.now) c.bytes-2.ensures.same ∙ ap (after_prefix c.args.prefix.now) c.bytes.ensures.same) (cut_apart (21 * c.args.count) c.in-Some.rest.now) seen)
    c.look_behind.ensures
