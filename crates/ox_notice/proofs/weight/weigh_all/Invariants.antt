use Rattle.std.proofs.Common.{◌≡◌, ◌-◌, ◌^◌, take, sum_by}
use Rattle.std.specs.Prelude.{min}
use Rattle.ox_ops.specs.Weight.{notice_weight}
use Rattle.ox_notice.proofs.weight.weigh_all.Given as goal

abbrev pub invariant-loop-notice : goal.invariant-loop-notice
invariant-loop-notice l = l.total ≡ min (sum_by notice_weight (take l.notice-index l.notices)) (2 ^ 64 - 1)
