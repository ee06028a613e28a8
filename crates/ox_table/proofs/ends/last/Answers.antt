use Rattle.std.proofs.Common.{◌∙◌, sym}
use Rattle.ox_table.proofs.Last.{last_or-place}
use Rattle.ox_table.proofs.ends.last.Goals as goal

pub returns-in-Some : goal.returns-in-Some
returns-in-Some g c = let place = c.in-Some.ensures.value in place ∙ sym (last_or-place c.args.pairs.now)
