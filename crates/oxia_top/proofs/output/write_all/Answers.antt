use Rattle.std.proofs.Common.{arith}
use Rattle.std.proofs.Math.Seq.{take-add}
use Rattle.std.proofs.Common.{length-drop}
use Rattle.std.proofs.lemmas.List.{take_rest}
use Rattle.std.proofs.KnownBytes.{Appends-trans}
use Rattle.oxia_top.proofs.output.write_all.Goals as goal

pub pieces-preserved : goal.pieces-preserved
pieces-preserved g c =
    let step = rw (take_rest c.args.bytes.now c.pieces.at) at c.in_ok-at.ensures.bytes in
    let within = rw (take_rest c.args.bytes.now c.pieces.at) at c.in_ok-at.ensures.some.0 in
    record {
      added = rw (take-add c.pieces.at c.in_ok-at.field-0 c.args.bytes.now) (Appends-trans ((g.W.Sink.stream c.args.sink.now).told) ((g.W.Sink.stream c.pieces.sink).told) ((g.W.Sink.stream c.write.new.self).told) _ _ c.pieces.invariant.added step);
      later = omega (arith, c.in_ok-at.ensures.cause.later);
      within = omega (arith, within, length-drop c.pieces.at c.args.bytes.now, c.pieces.invariant.within);
    }
