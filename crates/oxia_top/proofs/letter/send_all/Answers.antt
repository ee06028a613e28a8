use Rattle.std.proofs.Common.{rules, ◌≡◌, ◌∷◌, [], ◌+◌, length, ap, arith}
use Rattle.std.specs.Vec.Iter.{into_iter_items, into_iter_len}
use Rattle.oxia_top.proofs.LetterLemmas.{none_left, sending_first, sending_next, sending_last}
use Rattle.oxia_top.proofs.letter.send_all.Goals as goal

pub loop-outgoing-init : goal.loop-outgoing-init
loop-outgoing-init c =
    let all : into_iter_items c.into_iter-outgoing-iterator.result ≡ c.args.sends = search rules in
    record {
      sending = sending_first c.args.shard c.args.sends _ c.args.text.now c.args.letters.now all;
      count = search rules;
    }

pub loop-outgoing-preserved : goal.loop-outgoing-preserved
loop-outgoing-preserved c =
    let here : into_iter_items c.loop-outgoing.outgoing-iterator ≡ c.in-Some.outgoing ∷ into_iter_items c.next.new.self = search rules in
    let fewer : into_iter_len c.next.new.self + 1 ≡ into_iter_len c.loop-outgoing.outgoing-iterator = c.in-Some.ensures.steps.1 in
    record {
      sending = sending_next c.args.shard _ _ c.in-Some.outgoing c.loop-outgoing.text c.send_one.new.text c.loop-outgoing.letters c.send_one.new.letters _ _ c.loop-outgoing.invariant.sending here c.in_ok-send_one.ensures.text c.in_ok-send_one.ensures.letters;
      count = omega (arith, fewer, ap length here, c.loop-outgoing.invariant.count);
    }

pub returns : goal.returns
returns c =
    let count : into_iter_len c.loop-outgoing.outgoing-iterator ≡ 0 = c.in-None.ensures.steps.0 in
    let none : into_iter_items c.loop-outgoing.outgoing-iterator ≡ [] = none_left (into_iter_items c.loop-outgoing.outgoing-iterator) (omega (arith, count, c.loop-outgoing.invariant.count)) in
    let last = sending_last c.args.shard _ c.loop-outgoing.text c.loop-outgoing.letters _ _ c.loop-outgoing.invariant.sending none in
    record { text = last.0; letters = last.1 }
