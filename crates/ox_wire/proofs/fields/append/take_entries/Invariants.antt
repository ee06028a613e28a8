use Rattle.ox_bytes.specs.ListLaws.{IsSoFar}
use Rattle.ox_wire.specs.BodyForms.{entries_course, entries_from}
use Rattle.ox_wire.proofs.fields.append.take_entries.Given as goal

abbrev pub invariant-loop : goal.invariant-loop
invariant-loop l = IsSoFar (entries_course l.fn.top) l.entries l.count l.counter l.next l.from ((entries_from l.fn.top l.fn.offset).at l.fn.from)
