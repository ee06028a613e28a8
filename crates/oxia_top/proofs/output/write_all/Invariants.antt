use Rattle.std.proofs.Common.{◌≤◌, ◌-◌, length, take}
use Rattle.ox_outside.specs.Stream.{Appends}
use Rattle.oxia_top.proofs.output.write_all.Given as goal

abbrev pub invariant-pieces : goal.invariant-pieces
invariant-pieces g l =
    record {
      added : Appends ((g.W.Sink.stream l.fn.sink).told) ((g.W.Sink.stream l.sink).told) (take l.at l.bytes);
      later : (g.W.Sink.stream l.fn.sink).faults ≤ (g.W.Sink.stream l.sink).faults;
      within : l.at ≤ length l.bytes;
    }

abbrev pub decreases-pieces : goal.decreases-pieces
decreases-pieces g l = length l.bytes - l.at
