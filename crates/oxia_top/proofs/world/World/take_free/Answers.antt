use Rattle.oxia_top.proofs.FollowLemmas.{free_follows}
use Rattle.oxia_top.proofs.world.World.take_free.Goals as goal

pub returns : goal.returns
returns c =
    free_follows c.args.self c.in_ok-world.world c.settle.result c.args.input c.args.shard c.cause-cause.result c.count-from.result c.in_ok-world.output c.args.text.now c.settle.new.text
    c.cause-cause.ensures c.count-from.ensures c.in_ok-world.ensures.output c.in_ok-world.ensures.world c.settle.ensures.world c.settle.ensures.text
