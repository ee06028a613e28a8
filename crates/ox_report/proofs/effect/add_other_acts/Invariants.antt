use Rattle.std.proofs.Common.{◌≡◌, ◌++◌, take, codes}
use Rattle.std.specs.List.{flat_map}
use Rattle.ox_report.specs.Effect.{act_text}
use Rattle.ox_report.proofs.effect.add_other_acts.Given as goal

abbrev pub invariant-loop-act : goal.invariant-loop-act
invariant-loop-act l = l.text ≡ l.fn.text ++ flat_map (λ a. codes "," ++ act_text a) (take l.act-index l.acts)
