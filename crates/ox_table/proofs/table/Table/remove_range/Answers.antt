use Rattle.ox_table.specs.TableLaws.{IsRising-filter}
use Rattle.ox_table.proofs.table.Table.remove_range.Goals as goal

pub invariant_of-self-2 : goal.invariant_of-self-2
invariant_of-self-2 g c =
    let run = rw c.deref.ensures.value at c.run_of-start.ensures in
    rw (c.in_ok-taken.ensures.left, run.others) (IsRising-filter _ _ c.self.invariant)

pub returns-clause-rising : goal.returns-clause-rising
returns-clause-rising g c =
    let run = rw c.deref.ensures.value at c.run_of-start.ensures in
    rw (c.in_ok-taken.ensures.left, run.others) (IsRising-filter _ _ c.self.invariant)
