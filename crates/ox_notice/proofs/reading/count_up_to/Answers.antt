use Rattle.std.proofs.Common.{rules, leb}
use Rattle.std.proofs.lemmas.Fn.{always_returns_same}
use Rattle.std.proofs.lemmas.List.Sorted.{IsPartitionedBy-leb}
use Rattle.ox_ops.specs.declared.notice.NoticeBatch.{NoticeBatch}
use Rattle.ox_notice.proofs.Readings.{offsets-rise, past}
use Rattle.ox_notice.proofs.reading.count_up_to.Goals as goal

pub returns : goal.returns
returns c =
    let point = c.partition_point.ensures.partitioned (λ (b : NoticeBatch). leb b.offset c.args.offset) (always_returns_same _ _ _ (λ a r q called. search rules)) (IsPartitionedBy-leb (λ (b : NoticeBatch). b.offset) c.args.batches.now.items c.args.offset (offsets-rise 0 0 c.args.batches.now.items c.requires)) in
    past c.args.offset c.args.batches.now.items c.partition_point.result point
