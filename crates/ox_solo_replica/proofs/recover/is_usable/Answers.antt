use Rattle.std.proofs.Common.{◌≡◌, Bool, List, IfOk, sym, ◌∙◌, ap, subst}
use Rattle.std.specs.List.{list_all}
use Rattle.ox_types.specs.declared.log.Entry.{Entry}
use Rattle.ox_wal.specs.State.{state_of}
use Rattle.ox_solo_replica.specs.Advance.{is_entry}
use Rattle.ox_solo_replica.proofs.RecoverLemmas.{unusable, usable_where}
use Rattle.ox_solo_replica.proofs.recover.is_usable.Goals as goal

pub returns-then-not-is_plain-clause-exact : goal.returns-then-not-is_plain-clause-exact
returns-then-not-is_plain-clause-exact g c = unusable g.M.Machine.meaning (state_of c.args.log.now) (sym c.if-not-is_plain.ensures)

pub returns-clause-exact : goal.returns-clause-exact
returns-clause-exact g c =
    let same = ap (λ (es : List Entry). list_all (is_entry g.M.Machine.meaning) es) c.as_slice.ensures.value ∙ usable_where g.M.Machine.meaning (state_of c.args.log.now) (sym c.if-not-is_plain.ensures) in
    subst (λ (x : Bool). IfOk c.are_read.result (λ b. b ≡ x)) same c.are_read.ensures.exact
