use Rattle.std.proofs.Common.{arith, ◌∙◌, sym}
use Rattle.ox_quorum.specs.CommonPoint.{agree_at}
use Rattle.ox_quorum.proofs.Points.{greatest_here, greatest_alone}
use Rattle.ox_quorum.proofs.point.common_at.Goals as goal

pub returns-then-agree : goal.returns-then-agree
returns-then-agree c = sym (greatest_here (agree_at c.args.leader.now c.args.follower.now) c.args.least c.args.least (omega arith) (sym c.agree.ensures ∙ c.if-agree.true))

pub returns : goal.returns
returns c = sym (greatest_alone (agree_at c.args.leader.now c.args.follower.now) c.args.least (sym c.agree.ensures ∙ c.if-agree.false))
