use Rattle.ox_ops.proofs.WriteSizes.{session-short, session-long}
use Rattle.ox_ops.proofs.write_size.session_bytes.Goals as goal

pub returns-in-None-clause-exact : goal.returns-in-None-clause-exact
returns-in-None-clause-exact c = session-short _ c.in-None.is

pub returns-in-Some-clause-exact : goal.returns-in-Some-clause-exact
returns-in-Some-clause-exact c = session-long _ _ c.in-Some.is
