use Rattle.ox_meaning.specs.ReadLaws.{expiry_lawful, expire_read}
use Rattle.ox_shard.proofs.replicated.ShardMachineMachine.expiry.Goals as goal

pub returns-clause-lawful : goal.returns-clause-lawful
returns-clause-lawful c = expiry_lawful c.args.id c.ranges.id.fits

pub returns-clause-read : goal.returns-clause-read
returns-clause-read c = expire_read c.args.id
