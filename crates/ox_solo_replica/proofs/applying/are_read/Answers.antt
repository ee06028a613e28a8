use Rattle.std.proofs.Common.{◌≡◌, true, List, [], drop, sym, ◌∙◌, ap, arith}
use Rattle.std.specs.List.{list_all}
use Rattle.std.proofs.lemmas.List.{drop_all}
use Rattle.ox_types.specs.declared.log.Entry.{Entry}
use Rattle.ox_solo_replica.specs.Advance.{is_entry}
use Rattle.ox_solo_replica.proofs.AdvanceLemmas.{runs_from}
use Rattle.ox_solo_replica.proofs.applying.are_read.Goals as goal

pub returns-clause-runs : goal.returns-clause-runs
returns-clause-runs g c =
    let M = g.M.Machine.meaning in
    let rest : drop c.loop-entry.entry-index c.args.entries.now ≡ [] = drop_all c.loop-entry.entry-index c.args.entries.now c.loop-entry-test.false in
    let all : list_all (is_entry M) c.args.entries.now ≡ true = sym (c.loop-entry.invariant.all) ∙ ap (λ (es : List Entry). list_all (is_entry M) es) rest in
    λ _ top term from follow small.
    runs_from M top term from c.args.entries.now follow all (λ k e within. c.loop-entry.invariant.bytes k e (omega arith)) small
