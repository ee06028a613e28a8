use Rattle.std.proofs.Common.{◌∙◌}
use Rattle.std.proofs.lemmas.List.{drop_all}
use Rattle.ox_shard.proofs.Loops.{add-step}
use Rattle.ox_shard.proofs.lists.add_entries.Goals as goal

pub loop-entry-preserved : goal.loop-entry-preserved
loop-entry-preserved c q =
    add-step q c.args.key.now c.args.entries.now c.loop-entry.entry-index c.entry-item.result c.loop-entry.index c.add.new.self c.loop-entry-test.true c.entry-item.is c.in_ok-add.ensures.ok
    ∙ c.loop-entry.invariant q

pub returns : goal.returns
returns c q = rw (drop_all c.loop-entry.entry-index c.args.entries.now c.loop-entry-test.false) at (c.loop-entry.invariant q)
