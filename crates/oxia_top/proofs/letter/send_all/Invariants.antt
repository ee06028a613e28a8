use Rattle.std.proofs.Common.{◌≡◌, ◌+◌, ◌++◌, length}
use Rattle.std.specs.List.{flat_map}
use Rattle.std.specs.Vec.Iter.{into_iter_items, into_iter_len}
use Rattle.ox_report.specs.Effect.{effect_line}
use Rattle.ox_solo_safety.specs.Run.{messages_of, sent_effects}
use Rattle.oxia_top.specs.Letters.{messages_in}
use Rattle.oxia_top.proofs.LetterLemmas.{Sending}
use Rattle.oxia_top.proofs.letter.send_all.Given as goal

-- what is told and kept, with what is still to be sent
abbrev pub invariant-loop-outgoing : goal.invariant-loop-outgoing
invariant-loop-outgoing l = record {
  sending : Sending l.shard (into_iter_items l.outgoing-iterator) l.text l.letters (l.initial.text ++ flat_map effect_line (sent_effects (length l.initial.letters + 1) l.shard l.fn.sends)) (messages_in l.initial.letters ++ messages_of l.shard l.fn.sends);
  count : into_iter_len l.outgoing-iterator ≡ length (into_iter_items l.outgoing-iterator);
}
