use Rattle.ox_ops.proofs.Sizes.{hi-End, hi-Before}
use Rattle.ox_ops.proofs.size.hi_bytes.Goals as goal

pub returns-in-End-clause-exact : goal.returns-in-End-clause-exact
returns-in-End-clause-exact c = hi-End _ c.in-End.is

pub returns-in-Before-clause-exact : goal.returns-in-Before-clause-exact
returns-in-Before-clause-exact c = hi-Before _ _ c.key_bytes.ensures.exact _ c.in-Before.is
