use Rattle.ox_ops.proofs.WriteSizes.{expect-short, expect-absent, expect-long}
use Rattle.ox_ops.proofs.write_size.expect_bytes.Goals as goal

pub returns-in-Any-clause-exact : goal.returns-in-Any-clause-exact
returns-in-Any-clause-exact c = expect-short _ c.in-Any.is

pub returns-in-Absent-clause-exact : goal.returns-in-Absent-clause-exact
returns-in-Absent-clause-exact c = expect-absent _ c.in-Absent.is

pub returns-in-Exactly-clause-exact : goal.returns-in-Exactly-clause-exact
returns-in-Exactly-clause-exact c = expect-long _ _ c.in-Exactly.is
