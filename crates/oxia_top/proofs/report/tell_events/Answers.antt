use Rattle.std.proofs.Common.{rules, ◌≡◌, ◌++◌, ◌∷◌, [], ◌+◌, ℕ, List, length, ap, arith}
use Rattle.std.specs.Vec.Iter.{into_iter_items, into_iter_len}
use Rattle.oxia_top.proofs.ReportLemmas.{tells_first, tells_next, may_happen, tells_last, none_of}
use Rattle.oxia_top.proofs.report.tell_events.Goals as goal

pub loop-event-init : goal.loop-event-init
loop-event-init c =
    let all : into_iter_items c.into_iter-event-iterator.result ≡ c.args.events = search rules in
    record { tells = tells_first c.args.world c.args.events _ _ all c.requires.there c.requires.encodable; count = search rules }

pub tell_event-requires-clause-there : goal.tell_event-requires-clause-there
tell_event-requires-clause-there c =
    let here : into_iter_items c.loop-event.event-iterator ≡ c.in-Some.event ∷ into_iter_items c.next.new.self = search rules in
    (may_happen _ _ _ _ _ _ _ _ _ c.loop-event.invariant.tells here).there

pub tell_event-requires-clause-encodable : goal.tell_event-requires-clause-encodable
tell_event-requires-clause-encodable c =
    let here : into_iter_items c.loop-event.event-iterator ≡ c.in-Some.event ∷ into_iter_items c.next.new.self = search rules in
    (may_happen _ _ _ _ _ _ _ _ _ c.loop-event.invariant.tells here).encodable

pub loop-event-preserved : goal.loop-event-preserved
loop-event-preserved c =
    let here : into_iter_items c.loop-event.event-iterator ≡ c.in-Some.event ∷ into_iter_items c.next.new.self = search rules in
    let fewer : into_iter_len c.next.new.self + 1 ≡ into_iter_len c.loop-event.event-iterator = c.in-Some.ensures.steps.1 in
    record {
      tells = tells_next _ _ _ _ _ _ _ _ _ _ _ c.loop-event.invariant.tells here c.in_ok-behind.ensures;
      count = omega (arith, fewer, ap length here, c.loop-event.invariant.count);
    }

pub returns : goal.returns
returns c =
    let count : into_iter_len c.loop-event.event-iterator ≡ 0 = c.in-None.ensures.steps.0 in
    let none : into_iter_items c.loop-event.event-iterator ≡ [] = none_of (into_iter_items c.loop-event.event-iterator) (omega (arith, count, c.loop-event.invariant.count)) in
    tells_last _ _ _ _ _ _ _ c.loop-event.invariant.tells none
