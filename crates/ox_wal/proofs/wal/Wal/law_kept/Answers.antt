use Rattle.ox_wal.proofs.Crashes.{keeps_seen, left}
use Rattle.ox_wal.proofs.wal.Wal.law_kept.Goals as goal

pub returns-clause-seen : goal.returns-clause-seen
returns-clause-seen g c = λ state told keeps. keeps_seen _ _ _ _ state keeps

pub returns-clause-left : goal.returns-clause-left
returns-clause-left g c = λ state a b told keeps at_a at_b. left _ _ _ _ state keeps a b at_a at_b
