use Rattle.std.proofs.Common.{◌≡◌, ◌≤◌, ◌-◌, ◌^◌}
use Rattle.ox_journal.specs.declared.state.State.TheVariants.{Reading}
use Rattle.ox_wal.specs.State.{state_of}
use Rattle.ox_wal.proofs.Recovering.{SoFar}
use Rattle.ox_wal.proofs.recover.read_all.Given as goal

abbrev pub invariant-loop-log : goal.invariant-loop-log
invariant-loop-log g l = record {
  state : l.journal.state ≡ Reading;
  half : l.journal.half ≡ l.fn.journal.half;
  round : l.journal.round ≡ l.fn.journal.round;
  spare : l.journal.spare ≡ l.fn.journal.spare;
  later : g.D.Disk.faults l.fn.journal.live ≤ g.D.Disk.faults l.journal.live;
  told : g.D.Disk.tells → SoFar (g.D.Disk.shows l.fn.journal.live) (g.D.Disk.shows l.journal.live) (g.D.Disk.shows l.journal.spare) l.journal.round l.journal.end (state_of l.log) l.first;
}

abbrev pub decreases-loop-log : goal.decreases-loop-log
decreases-loop-log g l = 2 ^ 63 - l.journal.end
