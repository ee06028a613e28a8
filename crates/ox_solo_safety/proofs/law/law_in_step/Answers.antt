use Rattle.ox_meaning.specs.Shard.{shard_meaning}
use Rattle.ox_solo_safety.proofs.RunLemmas.{every_run_is_in_step}
use Rattle.ox_solo_safety.proofs.law.law_in_step.Goals as goal

pub returns : goal.returns
returns c = every_run_is_in_step shard_meaning
