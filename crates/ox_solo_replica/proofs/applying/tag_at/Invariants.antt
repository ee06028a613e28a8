use Rattle.std.proofs.Common.{◌≡◌, drop}
use Rattle.ox_solo_replica.specs.Advance.{waits_at}
use Rattle.ox_solo_replica.proofs.applying.tag_at.Given as goal

abbrev pub invariant-loop-client : goal.invariant-loop-client
invariant-loop-client l = waits_at l.offset (drop l.client-index l.pending) ≡ waits_at l.offset l.pending
