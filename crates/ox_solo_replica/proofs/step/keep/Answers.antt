use Rattle.ox_solo_replica.proofs.step.keep.Goals as goal

pub returns-in-Ok-clause-any_moment : goal.returns-in-Ok-clause-any_moment
returns-in-Ok-clause-any_moment g c told = c.commit.ensures.any_moment _ told c.requires.up c.requires.keepable.folds

pub returns-in-Err-DiskFault-clause-any_moment : goal.returns-in-Err-DiskFault-clause-any_moment
returns-in-Err-DiskFault-clause-any_moment g c told = c.commit.ensures.any_moment _ told c.requires.up c.requires.keepable.folds

pub returns-in-Err-NoMemory-clause-any_moment : goal.returns-in-Err-NoMemory-clause-any_moment
returns-in-Err-NoMemory-clause-any_moment g c told = c.commit.ensures.any_moment _ told c.requires.up c.requires.keepable.folds
