use Rattle.std.proofs.Common.{◌≡◌, drop}
use Rattle.std.specs.Prelude.{◌&&◌, not}
use Rattle.ox_index.specs.declared.added.Added.{Added}
use Rattle.ox_index.specs.Pairs.{has_added}
use Rattle.ox_shard.specs.Lists.{entries_at}
use Rattle.ox_shard.proofs.lists.drop_entries.Given as goal

abbrev pub invariant-loop-entry : goal.invariant-loop-entry
invariant-loop-entry l = (q : Added) → (not (has_added q (entries_at l.key (drop l.entry-index l.entries))) && has_added q l.index) ≡ (not (has_added q (entries_at l.key l.entries)) && has_added q l.fn.index)
