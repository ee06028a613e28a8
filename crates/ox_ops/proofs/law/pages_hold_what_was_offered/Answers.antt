use Rattle.ox_ops.specs.FillingLaws.{holds-empty, holds-room, holds-full, holds-more}
use Rattle.ox_ops.proofs.law.pages_hold_what_was_offered.Goals as goal

pub returns-clause-empty : goal.returns-clause-empty
returns-clause-empty g c = λ size. holds-empty size

pub returns-clause-room : goal.returns-clause-room
returns-clause-room g c = λ size page offered holds x s sized h. holds-room size page offered holds x s sized h

pub returns-clause-full : goal.returns-clause-full
returns-clause-full g c = λ size page offered holds x s sized h behind. holds-full size page offered holds x s sized h behind

pub returns-clause-more : goal.returns-clause-more
returns-clause-more g c = λ size page offered holds behind is. holds-more size page offered holds behind is
