use Rattle.std.proofs.Common.{refl}
use Rattle.oxia_top.proofs.world.is_kept.Goals as goal

pub returns-in-Nothing : goal.returns-in-Nothing
returns-in-Nothing c = rw c.in-Nothing.is refl
