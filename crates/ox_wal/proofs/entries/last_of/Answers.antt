use Rattle.std.proofs.Common.{◌∙◌, ◌-◌, ◌<◌, length, arith}
use Rattle.std.proofs.lemmas.Bool.Decides.{nat_tests}
use Rattle.ox_wal.proofs.Following.{last_at}
use Rattle.ox_wal.proofs.entries.last_of.Goals as goal

pub returns-else-is_empty : goal.returns-else-is_empty
returns-else-is_empty c =
    let es = c.args.entries.now in
    let some : 0 < length es = grind (arith, nat_tests) in
    c.number_of.ensures ∙ last_at c.args.term es (length es - 1) c.index-entries-entries.result (omega arith)
