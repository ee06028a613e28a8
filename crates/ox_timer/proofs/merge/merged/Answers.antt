use Rattle.std.proofs.Common.{◌≡◌, ◌∷◌, [], suc, drop, sym, subst, drop-cons, add-one, slice_index_or}
use Rattle.std.proofs.lemmas.List.{append-nil, drop_all}
use Rattle.ox_types.specs.declared.timer.Timer.{Timer}
use Rattle.ox_types.specs.Timers.{IdsRise}
use Rattle.ox_timer.specs.Order.{RunningRise}
use Rattle.ox_timer.specs.Timers.{retimed}
use Rattle.ox_timer.proofs.Merges.{merge_step, rise_retimed}
use Rattle.ox_timer.proofs.merge.merged.Goals as goal

pub loop-timer-preserved : goal.loop-timer-preserved
loop-timer-preserved c =
    let none : Timer = record { id = 0; timeout = 0 } in
    let i = c.loop-timer.timer-index in
    let t = slice_index_or c.args.timers.now i none in
    let parts = drop-cons c.args.timers.now i none c.loop-timer-test.true in
    let rise : IdsRise (t ∷ drop (suc i) c.args.timers.now) = rw parts at c.loop-timer.invariant.rise in
    record {
      within = c.place_from-at.ensures.within;
      rise = rw add-one rise.1;
      whole = merge_step c.args.now i c.loop-timer.at c.place_from-at.result c.args.timers.now c.args.running.now c.loop-timer.next.items c.push.new.self.items (retimed c.args.now c.args.timers.now c.args.running.now) c.going_on.result none
          c.loop-timer-test.true c.loop-timer.invariant.rise c.in_ok-push.ensures.items c.going_on.ensures c.place_from-at.ensures.behind c.loop-timer.invariant.whole;
    }

pub returns-clause-rise : goal.returns-clause-rise
returns-clause-rise c =
    let rest : drop c.loop-timer.timer-index c.args.timers.now ≡ [] = drop_all c.loop-timer.timer-index c.args.timers.now c.loop-timer-test.false in
    let whole = rw (rest, append-nil) at c.loop-timer.invariant.whole in
    subst RunningRise (sym whole) (rise_retimed c.args.now c.args.timers.now c.args.running.now c.requires.timers_rise)
