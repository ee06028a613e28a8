use Rattle.ox_solo_safety.proofs.RunLemmas.{every_run_is_legal}
use Rattle.ox_solo_safety.proofs.law.law_legal.Goals as goal

pub returns : goal.returns
returns c = every_run_is_legal c.law_shard_is_machine.ensures
