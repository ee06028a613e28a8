use Rattle.std.proofs.Common.{◌≡◌, ◌≤◌, length, fold, vec_capacity}
use Rattle.ox_memory.specs.Log.{wrote, Fits}
use Rattle.ox_memory.proofs.replay.replay.Given as goal

abbrev pub invariant-loop-left : goal.invariant-loop-left
invariant-loop-left l = record {
  same : fold wrote l.file.items l.left ≡ fold wrote l.fn.file.items l.fn.calls;
  fits : Fits l.file.items l.left;
  room : length l.file.items ≤ vec_capacity l.file;
  capacity : vec_capacity l.fn.file ≤ vec_capacity l.file;
  end : length (fold wrote l.file.items l.left) ≤ vec_capacity l.file;
}

abbrev pub decreases-loop-left : goal.decreases-loop-left
decreases-loop-left l = length l.left
