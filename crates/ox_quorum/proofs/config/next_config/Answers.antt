use Rattle.ox_quorum.specs.Quorum.{Same, Leaves}
use Rattle.ox_quorum.proofs.config.next_config.Goals as goal

pub returns-in_ok-try_clone-in-One-clause-follows : goal.returns-in_ok-try_clone-in-One-clause-follows
returns-in_ok-try_clone-in-One-clause-follows c = rw (c.in-One.is, c.in_ok-try_clone-in-One.ensures) (Same _ _)

pub returns-in_ok-try_clone-in-Joint-clause-follows : goal.returns-in_ok-try_clone-in-Joint-clause-follows
returns-in_ok-try_clone-in-Joint-clause-follows c = rw (c.in-Joint.is, c.in_ok-try_clone-in-Joint.ensures) (Leaves _ _ _ c.if-steady.true)

pub returns-in_ok-try_clone-in-Joint-3-clause-follows : goal.returns-in_ok-try_clone-in-Joint-3-clause-follows
returns-in_ok-try_clone-in-Joint-3-clause-follows c = rw (c.in-Joint.is, c.in_ok-try_clone-in-Joint-2.ensures, c.in_ok-try_clone-in-Joint-3.ensures) (Same _ _)
