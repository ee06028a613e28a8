use Rattle.std.proofs.Common.{length, ◌-◌, ◌+◌}
use Rattle.ox_quorum.proofs.Passing.{Met}
use Rattle.ox_quorum.proofs.point.common_to.Given as goal

abbrev pub invariant-loop-place : goal.invariant-loop-place
invariant-loop-place l = Met l.leader l.follower l.least l.most l.place l.other l.at l.found

abbrev pub decreases-loop-place : goal.decreases-loop-place
decreases-loop-place l = (length l.runs - l.place) + (length l.others - l.other)
