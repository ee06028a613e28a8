use Rattle.std.proofs.Common.{arith}
use Rattle.ox_wal.specs.State.{drafted_entries}
use Rattle.ox_wal.proofs.Following.{follow-higher}
use Rattle.ox_wal.proofs.log.Log.draft_term.Goals as goal

pub returns-clause-is : goal.returns-clause-is
returns-clause-is c =
    let log = c.args.self.now in
    let was = c.requires.is in
    record {
      keeps = was.keeps;
      counted = was.counted;
      follows = follow-higher _ _ log.base.term log.base.count (drafted_entries log c.args.draft.now) (omega arith) was.follows;
      small = was.small;
    }
