use Rattle.std.proofs.Common.{◌∙◌}
use Rattle.std.proofs.lemmas.List.{drop_all}
use Rattle.ox_shard.proofs.Loops.{drop-step}
use Rattle.ox_shard.proofs.lists.drop_entries.Goals as goal

pub loop-entry-preserved : goal.loop-entry-preserved
loop-entry-preserved c q =
    drop-step q c.args.key.now c.args.entries.now c.loop-entry.entry-index c.entry-item.result c.loop-entry.index c.drop_entry.new.self c.loop-entry-test.true c.entry-item.is c.drop_entry.ensures.after
    ∙ c.loop-entry.invariant q

pub returns : goal.returns
returns c q = rw (drop_all c.loop-entry.entry-index c.args.entries.now c.loop-entry-test.false) at (c.loop-entry.invariant q)
