use Rattle.std.proofs.Common.{◌∙◌}
use Rattle.ox_puts.proofs.Keyed.{get-keyed, removed-keyed, keyed-again}
use Rattle.ox_puts.proofs.record_table.RecordTable.remove.Goals as goal

pub invariant_of-self : goal.invariant_of-self
invariant_of-self c = (keyed-again _ _ (c.remove.ensures.after ∙ removed-keyed _ _ _ c.self.invariant)).1

pub returns-clause-removed : goal.returns-clause-removed
returns-clause-removed c = rw (← c.self.view_is) (c.remove.ensures.value ∙ get-keyed _ _ _ c.self.invariant)

pub returns-clause-after : goal.returns-clause-after
returns-clause-after c = rw (← c.self.view_is) (keyed-again _ _ (c.remove.ensures.after ∙ removed-keyed _ _ _ c.self.invariant)).0

pub returns-clause-rising : goal.returns-clause-rising
returns-clause-rising c = rw (← (keyed-again _ _ (c.remove.ensures.after ∙ removed-keyed _ _ _ c.self.invariant)).1) c.remove.ensures.rising
