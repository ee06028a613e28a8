use Rattle.std.proofs.Common.{◌≡◌, ◌++◌, take, codes}
use Rattle.std.specs.List.{flat_map}
use Rattle.ox_report.specs.Message.{follower_text}
use Rattle.ox_report.proofs.message.add_other_followers.Given as goal

abbrev pub invariant-loop-follower : goal.invariant-loop-follower
invariant-loop-follower l = l.text ≡ l.fn.text ++ flat_map (λ f. codes "," ++ follower_text f) (take l.follower-index l.followers)
