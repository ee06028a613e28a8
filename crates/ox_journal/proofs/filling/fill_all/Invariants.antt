use Rattle.std.proofs.Common.{◌≡◌, ◌+◌, ◌%◌, length, take, ◌-◌, ◌<◌, ◌≤◌, ◌^◌, [], ◌++◌, ℕ, List, vec_capacity}
use Rattle.std.specs.Prelude.{◌/◌}
use Rattle.ox_outside.specs.Disk.{LeavesOnly}
use Rattle.ox_journal.specs.Calls.{Calls}
use Rattle.ox_journal.specs.Filling.{Gathers}
use Rattle.ox_journal.specs.Half.{Shut}
use Rattle.ox_journal.specs.Pair.{IsAside}
use Rattle.ox_journal.proofs.filling.fill_all.Given as goal

abbrev pub invariant-loop-at : goal.invariant-loop-at
invariant-loop-at g l = record {
  within : l.at ≤ length l.bytes;
  small : l.filled < 2 ^ 63;
  gathered : length l.buffer.items < 1048576;
  room : 5242885 ≤ vec_capacity l.buffer;
  pending : length l.buffer.items ≡ (length l.fn.buffer.items + l.at) % 1048576;
  calls : g.D.Disk.tells → Calls ((length l.fn.buffer.items + l.at) / 1048576) (g.D.Disk.shows l.fn.disk) (g.D.Disk.shows l.disk);
  told : g.D.Disk.tells → (text : List ℕ) × Gathers (g.D.Disk.shows l.disk) l.filled l.buffer.items text;
  done : (text : List ℕ) → g.D.Disk.tells → Gathers (g.D.Disk.shows l.fn.disk) l.fn.filled l.fn.buffer.items text
      → Gathers (g.D.Disk.shows l.disk) l.filled l.buffer.items (text ++ take l.at l.bytes);
  any_moment : (text : List ℕ) → g.D.Disk.tells → Gathers (g.D.Disk.shows l.fn.disk) l.fn.filled l.fn.buffer.items text
      → LeavesOnly (g.D.Disk.shows l.fn.disk) (g.D.Disk.shows l.disk) (Shut []);
  aside : (round : ℕ) (text : List ℕ) → g.D.Disk.tells → Gathers (g.D.Disk.shows l.fn.disk) l.fn.filled l.fn.buffer.items text
      → IsAside round (g.D.Disk.shows l.fn.disk) → IsAside round (g.D.Disk.shows l.disk);
  later : g.D.Disk.faults l.fn.disk ≤ g.D.Disk.faults l.disk;
}

abbrev pub decreases-loop-at : goal.decreases-loop-at
decreases-loop-at g l = length l.bytes - l.at
