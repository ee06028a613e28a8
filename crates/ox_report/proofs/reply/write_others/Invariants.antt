use Rattle.std.proofs.Common.{◌≡◌, ◌++◌, take, codes}
use Rattle.std.specs.List.{flat_map}
use Rattle.ox_report.specs.Reply.{reply_text}
use Rattle.ox_report.proofs.reply.write_others.Given as goal

abbrev pub invariant-loop-reply : goal.invariant-loop-reply
invariant-loop-reply l = l.text ≡ l.fn.text ++ flat_map (λ r. codes "; " ++ reply_text r) (take l.reply-index l.replies)
