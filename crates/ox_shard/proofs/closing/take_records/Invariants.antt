use Rattle.std.proofs.Common.{◌≡◌, ◌++◌, map}
use Rattle.ox_ops.specs.declared.notice.Notice.TheVariants as notice
use Rattle.ox_shard.specs.Closing.{without_keys}
use Rattle.ox_shard.specs.Lists.{HasEntriesOf}
use Rattle.ox_shard.proofs.closing.take_records.Given as goal

abbrev pub invariant-loop-key : goal.invariant-loop-key
invariant-loop-key l = record {
  keys : l.yielded ++ l.key-iterator.rest.items ≡ l.fn.keys;
  notices : l.notices ≡ map notice.Deleted l.yielded;
  records : record l.records { records = without_keys l.key-iterator.rest.items l.records.records } ≡ record l.fn.records { records = without_keys l.fn.keys l.fn.records.records };
  entries : HasEntriesOf l.fn.index l.fn.records.records → HasEntriesOf l.index l.records.records;
}
