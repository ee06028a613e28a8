use Rattle.ox_meaning.specs.ShardLaws.{shard_is_machine}
use Rattle.ox_meaning.proofs.law.law_shard_is_machine.Goals as goal

pub returns : goal.returns
returns c = shard_is_machine
