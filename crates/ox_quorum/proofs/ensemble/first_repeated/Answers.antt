use Rattle.std.proofs.Common.{◌≡◌, false, sym, ap, ◌∙◌, arith}
use Rattle.std.proofs.Common.{take}
use Rattle.ox_quorum.specs.Ensemble.{has}
use Rattle.ox_quorum.proofs.Again.{again_later, small_more}
use Rattle.ox_quorum.proofs.ensemble.first_repeated.Goals as goal

pub loop-i-preserved : goal.loop-i-preserved
loop-i-preserved c =
    let id = c.id_of-id.ensures in
    let new : has (take c.loop-i.i c.args.nodes.now) c.index-nodes-i.result ≡ false = ap (has (take c.loop-i.i c.args.nodes.now)) (sym id.same) ∙ sym c.is_among.ensures ∙ c.if-is_among.false in (
      c.loop-i.invariant.0 ∙ again_later c.args.nodes.now c.loop-i.i c.index-nodes-i.result c.loop-i-test.true c.index-nodes-i.is new,
      small_more c.args.nodes.now c.loop-i.i c.index-nodes-i.result c.loop-i-test.true c.index-nodes-i.is (omega (arith, id.same, id.small)) c.loop-i.invariant.1,
    )
