use Rattle.std.proofs.Common.{◌≡◌, drop}
use Rattle.ox_types.specs.Durable.{may_follow}
use Rattle.ox_wal.proofs.entries.follow.Given as goal

abbrev pub invariant-loop-entry : goal.invariant-loop-entry
invariant-loop-entry l = may_follow l.top l.last l.next (drop l.entry-index l.entries) ≡ may_follow l.top l.term l.count l.entries
