use Rattle.std.proofs.Common.{◌≡◌, ◌-◌}
use Rattle.ox_bytes.specs.Fields.{list_at, items_at}
use Rattle.ox_bytes.specs.ListLaws.{with_front}
use Rattle.ox_bytes.proofs.lists.ListField.read.Given as goal

abbrev pub invariant-loop : goal.invariant-loop
invariant-loop g l = with_front l.items (items_at g.T.Field.form (l.count - l.counter) l.from) ≡ list_at g.T.Field.form l.fn.from
