use Rattle.std.proofs.Common.{◌≡◌, ◌∙◌, ap, List, ℕ}
use Rattle.ox_table.specs.Table.{Pairs, table_get, inserted}
use Rattle.ox_ops.specs.declared.answer.Record.{Record}
use Rattle.ox_ops.specs.State.{with_record}
use Rattle.ox_puts.specs.Records.{keyed, records_in}
use Rattle.ox_puts.proofs.Keyed.{get-keyed, inserted-keyed, keyed-again}
use Rattle.ox_puts.proofs.record_table.RecordTable.insert.Goals as goal

after : (c : goal.In_ok-old) → c.insert.new.self ≡ keyed (with_record c.args.added (records_in c.self.inside.table))
after c = c.in_ok-old.ensures.ok ∙ inserted-keyed _ _ c.self.invariant c.args.added c.in_ok-key.key c.in_ok-key.ensures

pub invariant_of-self-2 : goal.invariant_of-self-2
invariant_of-self-2 c = (keyed-again _ _ (after c)).1

pub returns-clause-replaced : goal.returns-clause-replaced
returns-clause-replaced c =
    rw (← c.self.view_is) (c.in_ok-old.ensures.value ∙ ap (table_get c.self.inside.table) c.in_ok-key.ensures ∙ get-keyed _ _ _ c.self.invariant)

pub returns-clause-ok : goal.returns-clause-ok
returns-clause-ok c = rw (← c.self.view_is) (keyed-again _ _ (after c)).0

pub returns-clause-rising : goal.returns-clause-rising
returns-clause-rising c = rw (← (keyed-again _ _ (after c)).1) c.in_ok-old.ensures.rising
