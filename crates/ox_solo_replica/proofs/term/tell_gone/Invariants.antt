use Rattle.std.proofs.Common.{◌≡◌, map, take}
use Rattle.ox_solo_replica.specs.Term.{gone}
use Rattle.ox_solo_replica.proofs.term.tell_gone.Given as goal

abbrev pub invariant-loop-client : goal.invariant-loop-client
invariant-loop-client l = l.told ≡ map (gone l.old l.by) (take l.client-index l.pending)
