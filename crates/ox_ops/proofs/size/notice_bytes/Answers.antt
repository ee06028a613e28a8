use Rattle.ox_ops.proofs.Sizes.{notice-Created, notice-Modified, notice-Deleted, notice-Ranged}
use Rattle.ox_ops.proofs.size.notice_bytes.Goals as goal

pub returns-in-Created-clause-exact : goal.returns-in-Created-clause-exact
returns-in-Created-clause-exact c = notice-Created _ _ c.key_bytes.ensures.exact _ _ c.in-Created.is

pub returns-in-Modified-clause-exact : goal.returns-in-Modified-clause-exact
returns-in-Modified-clause-exact c = notice-Modified _ _ c.key_bytes-in-Modified.ensures.exact _ _ c.in-Modified.is

pub returns-in-Deleted-clause-exact : goal.returns-in-Deleted-clause-exact
returns-in-Deleted-clause-exact c = notice-Deleted _ _ c.key_bytes-in-Deleted.ensures.exact _ c.in-Deleted.is

pub returns-in-Ranged-clause-exact : goal.returns-in-Ranged-clause-exact
returns-in-Ranged-clause-exact c = notice-Ranged _ _ _ c.in-Ranged.is c.range_bytes.ensures.exact
