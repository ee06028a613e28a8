use Rattle.std.proofs.Common.{eqb}
use Rattle.std.proofs.lemmas.Slice.Eq.{strip_prefix_is}
use Rattle.std.proofs.lemmas.Bool.Decides.{Decides-eqb}
use Rattle.ox_schedule.proofs.Steps.{after_of}
use Rattle.ox_schedule.proofs.options.option_text.Goals as goal

pub returns : goal.returns
returns c = after_of c.args.name.now c.args.word.now c.strip_prefix.result (strip_prefix_is {E = eqb} Decides-eqb c.args.word.now c.args.name.now c.strip_prefix.result c.strip_prefix.ensures.cases)
