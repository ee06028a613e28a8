use Rattle.std.proofs.Common.{ap, sym, ◌∙◌}
use Rattle.ox_timer.specs.declared.running.Running.{Running}
use Rattle.ox_timer.specs.Timers.{heard}
use Rattle.ox_timer.proofs.Changes.{changed-none, changed-written}
use Rattle.ox_timer.proofs.timers.Timers.hear.Goals as goal

pub returns-in-Some : goal.returns-in-Some
returns-in-Some c =
    let started = λ (r : Running). record r { since = c.args.now } in
    let at = c.in-Some.ensures in
    let same = c.as_slice.ensures.value in
    changed-written c.args.id started c.self.inside.items.items c.in-Some.at c.index_mut.result.now c.self.invariant (rw same at at.within) c.index_mut.ensures.value (rw same at at.found)
    ∙ ap (heard c.args.id c.args.now) c.self.view_is

pub returns-in_default : goal.returns-in_default
returns-in_default c =
    let started = λ (r : Running). record r { since = c.args.now } in
    sym (changed-none c.args.id started c.args.self.now (rw (c.as_slice.ensures.value ∙ c.self.view_is) at c.in_default.ensures.none))
