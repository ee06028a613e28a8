use Rattle.std.proofs.Common.{inr, ap, refl}
use Rattle.ox_types.specs.Durable.{blank}
use Rattle.ox_journal.specs.Head.{head_of}
use Rattle.ox_disk_tests.proofs.wal_tests.opened.Goals as goal

pub returns-in-Ok-clause-blank : goal.returns-in-Ok-clause-blank
returns-in-Ok-clause-blank c =
    c.in-Ok.ensures.found blank tt (inr (ap head_of c.in_ok-first.ensures.blank, ap head_of c.in_ok-second.ensures.blank, refl))
