use Rattle.std.proofs.Common.{refl, lit≤}
use Rattle.ox_bytes.specs.Numbers.{be32, be64}
use Rattle.ox_bytes.specs.LogForms.{entry, entry_body}
use Rattle.ox_wal.specs.ActionForms.{action}
use Rattle.ox_disk_tests.proofs.wal_tests.lead.Goals as goal

pub commit-requires-clause-spelled : goal.commit-requires-clause-spelled
unfolding action entry entry_body
commit-requires-clause-spelled c = rw (c.in_ok-push.ensures.ok, c.new-entries.ensures) refl

pub commit-requires-clause-size : goal.commit-requires-clause-size
unfolding action entry entry_body be32 be64
commit-requires-clause-size c = rw (c.in_ok-push.ensures.ok, c.new-entries.ensures) (lit≤ tt)
