use Rattle.std.proofs.Common.{◌≡◌, ◌++◌, take}
use Rattle.std.specs.List.{flat_map}
use Rattle.ox_ops.specs.Sequence.{group_text}
use Rattle.ox_puts.proofs.sequence_key.sequence_key.Given as goal

abbrev pub invariant-loop-number : goal.invariant-loop-number
invariant-loop-number l = l.text ≡ l.prefix ++ flat_map group_text (take l.number-index l.numbers)
