use Rattle.std.proofs.Common.{arith}
use Rattle.ox_quorum.proofs.Tables.{head_told}
use Rattle.ox_quorum.proofs.point.head_count.Goals as goal

pub returns-in-len1-up : goal.returns-in-len1-up
returns-in-len1-up c =
    let told = head_told c.args.table.now c.as_slice.result.now c.last-item.result c.as_slice.ensures c.last-item.is c.in-len1-up.len_at_least in
    omega (arith, told, c.min-in-len1-up.ensures)
