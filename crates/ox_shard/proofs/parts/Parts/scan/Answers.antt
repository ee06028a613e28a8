use Rattle.std.proofs.Common.{filter}
use Rattle.ox_order.specs.Range.{in_range}
use Rattle.ox_ops.specs.declared.answer.Record.{Record}
use Rattle.ox_shard.proofs.Pages.{records-are}
use Rattle.ox_shard.proofs.parts.Parts.scan.Goals as goal

pub returns : goal.returns
returns c =
    records-are c.scan.result (filter (λ (r : Record). in_range c.args.range.now r.key) c.args.self.now.records.records) c.in_ok-page.page c.finish-records.result.0 c.finish-records.result.1 c.scan.ensures.records c.in_ok-page.ensures c.finish-records.ensures.items c.finish-records.ensures.more
