use Rattle.std.proofs.Common.{◌≡◌, ◌+◌, ◌≤◌, drop}
use Rattle.ox_ops.specs.Operation.{put_on}
use Rattle.ox_ops.specs.Apply.{each_on}
use Rattle.ox_shard.specs.Done.{applied_of}
use Rattle.ox_shard.specs.Parts.{state_of, IsTied, IsBeside}
use Rattle.ox_shard.proofs.parts.Parts.put_all.Given as goal

abbrev pub invariant-loop-put : goal.invariant-loop-put
invariant-loop-put l = record {
  made : each_on put_on (applied_of (state_of l.self) l.done) (drop l.put-index l.puts) ≡ each_on put_on (applied_of (state_of l.fn.self) l.fn.done) l.puts;
  tied : IsTied l.self;
  beside : IsBeside l.fn.self l.self;
  versions : l.self.records.next_version ≤ l.fn.self.records.next_version + l.put-index;
}
