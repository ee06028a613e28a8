use Rattle.std.proofs.Common.{◌∙◌, ap, sym}
use Rattle.ox_puts.specs.Records.{records_in}
use Rattle.ox_puts.proofs.Keyed.{within-keyed, without-keyed, keyed-again, records_in-keyed}
use Rattle.ox_puts.proofs.record_table.RecordTable.remove_range.Goals as goal

pub invariant_of-self-2 : goal.invariant_of-self-2
invariant_of-self-2 c = (keyed-again _ _ (c.in_ok-taken.ensures.ok ∙ without-keyed _ _ c.self.invariant _)).1

pub returns-clause-taken : goal.returns-clause-taken
returns-clause-taken c =
    rw (← c.self.view_is) (c.records_of_pairs.ensures ∙ ap records_in (c.in_ok-taken.ensures.taken ∙ within-keyed _ _ c.self.invariant _) ∙ records_in-keyed _)

pub returns-clause-ok : goal.returns-clause-ok
returns-clause-ok c = rw (← c.self.view_is) (keyed-again _ _ (c.in_ok-taken.ensures.ok ∙ without-keyed _ _ c.self.invariant _)).0

pub returns-clause-rising : goal.returns-clause-rising
returns-clause-rising c = rw (← (keyed-again _ _ (c.in_ok-taken.ensures.ok ∙ without-keyed _ _ c.self.invariant _)).1) c.in_ok-taken.ensures.rising
