use Rattle.std.proofs.Common.{refl, lit≤}
use Rattle.ox_bytes.specs.Numbers.{be32, be64}
use Rattle.ox_wal.specs.ActionForms.{action}
use Rattle.ox_disk_tests.proofs.wal_tests.begin.Goals as goal

pub commit-requires-clause-spelled : goal.commit-requires-clause-spelled
unfolding action
commit-requires-clause-spelled c = refl

pub commit-requires-clause-size : goal.commit-requires-clause-size
unfolding action be32 be64
commit-requires-clause-size c = lit≤ tt
