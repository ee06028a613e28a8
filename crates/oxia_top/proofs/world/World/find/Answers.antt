use Rattle.oxia_top.proofs.LetterLemmas.{finds}
use Rattle.oxia_top.proofs.world.World.find.Goals as goal

pub returns : goal.returns
returns c = rw (c.find.ensures, c.as_slice.ensures, ← c.self.view_is) (finds c.self.inside.letters c.args.number)
