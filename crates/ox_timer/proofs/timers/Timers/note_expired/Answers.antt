use Rattle.std.proofs.Common.{true, ap, sym, ◌∙◌}
use Rattle.ox_timer.specs.declared.running.Running.{Running}
use Rattle.ox_timer.specs.Timers.{noted}
use Rattle.ox_timer.proofs.Changes.{changed-none, changed-written}
use Rattle.ox_timer.proofs.timers.Timers.note_expired.Goals as goal

pub returns-in-Some : goal.returns-in-Some
returns-in-Some c =
    let told = λ (r : Running). record r { expired = true } in
    let at = c.in-Some.ensures in
    let same = c.as_slice.ensures.value in
    changed-written c.args.id told c.self.inside.items.items c.in-Some.at c.index_mut.result.now c.self.invariant (rw same at at.within) c.index_mut.ensures.value (rw same at at.found)
    ∙ ap (noted c.args.id) c.self.view_is

pub returns-in_default : goal.returns-in_default
returns-in_default c =
    let told = λ (r : Running). record r { expired = true } in
    sym (changed-none c.args.id told c.args.self.now (rw (c.as_slice.ensures.value ∙ c.self.view_is) at c.in_default.ensures.none))
