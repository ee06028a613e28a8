use Rattle.std.proofs.Common.{◌≤◌, ◌-◌, length}
use Rattle.ox_outside.specs.Stream.{Consumes}
use Rattle.oxia_top.proofs.input.read_all.Given as goal

abbrev pub invariant-pieces : goal.invariant-pieces
invariant-pieces g l =
    record {
      taken : Consumes (g.S.Source.stream l.fn.source).told (g.S.Source.stream l.source).told l.bytes;
      small : length l.bytes ≤ 67112960;
      later : (g.S.Source.stream l.fn.source).faults ≤ (g.S.Source.stream l.source).faults;
    }

abbrev pub decreases-pieces : goal.decreases-pieces
decreases-pieces g l = 67108865 - length l.bytes
