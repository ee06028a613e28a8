use Rattle.std.proofs.Common.{arith}
use Rattle.ox_ops.proofs.Sizes.{key_size-is}
use Rattle.ox_ops.proofs.size.KeyMeasured.size.Goals as goal

pub returns : goal.returns
returns c = omega (arith, key_size-is c.args.self.now)
