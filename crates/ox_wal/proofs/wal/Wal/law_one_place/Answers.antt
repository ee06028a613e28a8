use Rattle.ox_wal.proofs.Places.{same_place}
use Rattle.ox_wal.proofs.wal.Wal.law_one_place.Goals as goal

pub returns : goal.returns
returns g c = λ file round a b one two. same_place file round a b one two
