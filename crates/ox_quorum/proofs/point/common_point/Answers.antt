use Rattle.std.proofs.Common.{arith, ◌∙◌, ◌≡◌, subst, ℕ}
use Rattle.std.specs.Prelude.{max}
use Rattle.ox_types.specs.Limits.{count_limit}
use Rattle.ox_types.specs.Log.{table_head}
use Rattle.ox_quorum.specs.CommonPoint.{greatest, agree_at}
use Rattle.ox_quorum.proofs.Points.{none_to, found_to, unlimited}
use Rattle.ox_quorum.proofs.Tables.{lawful_small}
use Rattle.ox_quorum.proofs.point.common_point.Goals as goal

pub returns-then-most-least-clause-every : goal.returns-then-most-least-clause-every
returns-then-most-least-clause-every c = none_to count_limit (table_head c.args.leader.now).count (table_head c.args.follower.now).count c.head_count.result c.head_count-2.result c.min-most.result c.head_count.ensures c.head_count-2.ensures c.min-most.ensures (agree_at c.args.leader.now c.args.follower.now) (max c.args.leader.now.base.count c.args.follower.now.base.count) (omega (arith, c.max-least.ensures, c.if-most-least.true))

pub returns-then-most-least-clause-lawful : goal.returns-then-most-least-clause-lawful
returns-then-most-least-clause-lawful c one two =
    none_to count_limit (table_head c.args.leader.now).count (table_head c.args.follower.now).count c.head_count.result c.head_count-2.result c.min-most.result c.head_count.ensures c.head_count-2.ensures c.min-most.ensures (agree_at c.args.leader.now c.args.follower.now) (max c.args.leader.now.base.count c.args.follower.now.base.count) (omega (arith, c.max-least.ensures, c.if-most-least.true))
    ∙ unlimited count_limit (table_head c.args.leader.now).count (table_head c.args.follower.now).count c.head_count.result c.head_count-2.result c.min-most.result c.head_count.ensures c.head_count-2.ensures c.min-most.ensures (agree_at c.args.leader.now c.args.follower.now) (max c.args.leader.now.base.count c.args.follower.now.base.count) (lawful_small c.args.leader.now one) (lawful_small c.args.follower.now two)

pub returns-clause-every : goal.returns-clause-every
returns-clause-every c = found_to count_limit (table_head c.args.leader.now).count (table_head c.args.follower.now).count c.head_count.result c.head_count-2.result c.min-most.result c.head_count.ensures c.head_count-2.ensures c.min-most.ensures (agree_at c.args.leader.now c.args.follower.now) (max c.args.leader.now.base.count c.args.follower.now.base.count) c.common_to.result (subst (λ (n : ℕ). c.common_to.result ≡ greatest (agree_at c.args.leader.now c.args.follower.now) n c.min-most.result) c.max-least.ensures c.common_to.ensures)

pub returns-clause-lawful : goal.returns-clause-lawful
returns-clause-lawful c one two =
    found_to count_limit (table_head c.args.leader.now).count (table_head c.args.follower.now).count c.head_count.result c.head_count-2.result c.min-most.result c.head_count.ensures c.head_count-2.ensures c.min-most.ensures (agree_at c.args.leader.now c.args.follower.now) (max c.args.leader.now.base.count c.args.follower.now.base.count) c.common_to.result (subst (λ (n : ℕ). c.common_to.result ≡ greatest (agree_at c.args.leader.now c.args.follower.now) n c.min-most.result) c.max-least.ensures c.common_to.ensures)
    ∙ unlimited count_limit (table_head c.args.leader.now).count (table_head c.args.follower.now).count c.head_count.result c.head_count-2.result c.min-most.result c.head_count.ensures c.head_count-2.ensures c.min-most.ensures (agree_at c.args.leader.now c.args.follower.now) (max c.args.leader.now.base.count c.args.follower.now.base.count) (lawful_small c.args.leader.now one) (lawful_small c.args.follower.now two)
