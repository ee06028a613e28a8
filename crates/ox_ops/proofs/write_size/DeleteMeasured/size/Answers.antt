use Rattle.std.proofs.Common.{◌≤◌, arith}
use Rattle.ox_ops.proofs.WriteSizes.{delete_size-is}
use Rattle.ox_ops.proofs.write_size.DeleteMeasured.size.Goals as goal

pub returns : goal.returns
returns c =
    let key_small : c.key_bytes.result ≤ 4100 = c.key_bytes.ensures.small in
    let expect_small : c.expect_bytes.result ≤ 9 = c.expect_bytes.ensures.small in
    omega (arith, delete_size-is c.args.self.now c.key_bytes.result c.expect_bytes.result c.key_bytes.ensures.exact c.expect_bytes.ensures.exact)
