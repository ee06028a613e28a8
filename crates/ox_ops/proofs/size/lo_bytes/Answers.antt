use Rattle.ox_ops.proofs.Sizes.{lo-Start, lo-At, lo-Past}
use Rattle.ox_ops.proofs.size.lo_bytes.Goals as goal

pub returns-in-Start-clause-exact : goal.returns-in-Start-clause-exact
returns-in-Start-clause-exact c = lo-Start _ c.in-Start.is

pub returns-in-At-clause-exact : goal.returns-in-At-clause-exact
returns-in-At-clause-exact c = lo-At _ _ c.key_bytes.ensures.exact _ c.in-At.is

pub returns-in-Past-clause-exact : goal.returns-in-Past-clause-exact
returns-in-Past-clause-exact c = lo-Past _ _ c.key_bytes-in-Past.ensures.exact _ c.in-Past.is
