use Rattle.std.proofs.Common.{filter}
use Rattle.ox_order.specs.Range.{in_range}
use Rattle.ox_ops.specs.declared.answer.Record.{Record}
use Rattle.ox_shard.proofs.Pages.{keys-are}
use Rattle.ox_shard.proofs.parts.Parts.list.Goals as goal

pub returns : goal.returns
returns c =
    keys-are c.scan.result (filter (λ (r : Record). in_range c.args.range.now r.key) c.args.self.now.records.records) c.in_ok-page.page c.finish-keys.result.0 c.finish-keys.result.1 c.scan.ensures.records c.in_ok-page.ensures c.finish-keys.ensures.items c.finish-keys.ensures.more
