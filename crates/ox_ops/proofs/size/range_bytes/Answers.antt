use Rattle.ox_ops.proofs.Sizes.{range-ends}
use Rattle.ox_ops.proofs.size.range_bytes.Goals as goal

pub returns-clause-exact : goal.returns-clause-exact
returns-clause-exact c = range-ends _ _ _ c.lo_bytes.ensures.exact c.hi_bytes.ensures.exact
