use Rattle.std.proofs.Common.{◌≡◌, length}
use Rattle.ox_notice.specs.Trim.{trim}
use Rattle.ox_notice.proofs.queue.Queue.drop_old.Given as goal

abbrev pub decreases-loop-self : goal.decreases-loop-self
decreases-loop-self l = length l.self.batches

abbrev pub invariant-loop-self : goal.invariant-loop-self
invariant-loop-self l = trim l.fn.time l.self.low l.self.batches ≡ trim l.fn.time l.fn.self.low l.fn.self.batches
