use Rattle.oxia_top.specs.Events.{request_of}
use Rattle.oxia_top.specs.Running.{knife_of}
use Rattle.oxia_top.proofs.ComeLemmas.{come_follows}
use Rattle.oxia_top.proofs.world.World.come.Goals as goal

pub returns : goal.returns
returns c =
    come_follows c.args.self c.in_ok-world.world c.take.result c.args.shard (request_of c.args.request.now) (knife_of c.args.knife) c.in_ok-world.tag c.in_ok-write.field-0.write c.in_ok-write.field-0.body c.args.text.now c.add_arrival.new.text c.take.new.text
    c.in_ok-world.ensures.world c.in_ok-world.ensures.number c.in_ok-write.ensures c.in_ok-add_arrival.ensures c.take.ensures
