use Rattle.std.proofs.Common.{◌≡◌, ◌++◌, length, take}
use Rattle.std.specs.List.{flat_map}
use Rattle.ox_bytes.specs.Numbers.{be32}
use Rattle.ox_bytes.proofs.lists.ListField.put.Given as goal

abbrev pub invariant-loop-item : goal.invariant-loop-item
invariant-loop-item g l = l.to ≡ l.fn.to ++ (be32 (length l.item-items) ++ flat_map g.T.Field.form.text (take l.item-index l.item-items))
