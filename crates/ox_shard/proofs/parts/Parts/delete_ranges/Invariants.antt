use Rattle.std.proofs.Common.{◌≡◌, drop}
use Rattle.ox_ops.specs.Operation.{range_on}
use Rattle.ox_ops.specs.Apply.{each_on}
use Rattle.ox_shard.specs.Done.{applied_of}
use Rattle.ox_shard.specs.Parts.{state_of, IsTied, IsBeside}
use Rattle.ox_shard.proofs.parts.Parts.delete_ranges.Given as goal

abbrev pub invariant-loop-range : goal.invariant-loop-range
invariant-loop-range l = record {
  made : each_on range_on (applied_of (state_of l.self) l.done) (drop l.range-index l.ranges) ≡ each_on range_on (applied_of (state_of l.fn.self) l.fn.done) l.ranges;
  tied : IsTied l.self;
  beside : IsBeside l.fn.self l.self;
  versions : l.self.records.next_version ≡ l.fn.self.records.next_version;
}
