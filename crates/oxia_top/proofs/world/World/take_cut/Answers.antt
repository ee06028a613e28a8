use Rattle.std.proofs.Common.{◌∙◌, sym}
use Rattle.oxia_top.proofs.FollowLemmas.{cut_whole, cut_down}
use Rattle.oxia_top.proofs.world.World.take_cut.Goals as goal

pub returns-in-Whole : goal.returns-in-Whole
returns-in-Whole c =
    let cut = rw c.is_kept.ensures at c.in_ok-world.ensures.cut in
    let world = rw c.is_kept.ensures at c.in_ok-world.ensures.world in
    cut_whole c.args.self c.in_ok-world.world c.settle.result c.args.input c.args.shard c.args.call c.args.image c.cause-cause.result c.count-from.result c.in-Whole.output c.args.text.now c.settle.new.text
    c.cause-cause.ensures c.count-from.ensures (sym cut ∙ c.in-Whole.is) world c.settle.ensures.world c.settle.ensures.text

pub returns-in-Down : goal.returns-in-Down
returns-in-Down c =
    let cut = rw c.is_kept.ensures at c.in_ok-world.ensures.cut in
    let world = rw c.is_kept.ensures at c.in_ok-world.ensures.world in
    let told = rw c.as_slice.ensures at c.fall.ensures.text in
    cut_down c.args.self c.in_ok-world.world c.fall.result c.args.input c.args.shard c.args.call c.args.image c.cause-cause.result c.count-from.result c.in-Down.kept c.in-Down.head c.args.text.now c.fall.new.text
    c.cause-cause.ensures c.count-from.ensures (sym cut ∙ c.in-Down.is) world c.fall.ensures.world told
