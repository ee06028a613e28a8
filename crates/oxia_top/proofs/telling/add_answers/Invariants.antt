use Rattle.std.proofs.Common.{◌≡◌, ◌++◌, take}
use Rattle.std.specs.List.{flat_map}
use Rattle.ox_report.specs.Effect.{effect_line}
use Rattle.ox_solo_safety.specs.Run.{answer_effects}
use Rattle.oxia_top.proofs.telling.add_answers.Given as goal

abbrev pub invariant-loop-reply : goal.invariant-loop-reply
invariant-loop-reply l = l.text ≡ l.initial.text ++ flat_map effect_line (answer_effects (take l.reply-index l.replies))
