use Rattle.std.proofs.Common.{◌∙◌}
use Rattle.std.proofs.lemmas.List.{drop_all}
use Rattle.ox_session.specs.Members.{members_in}
use Rattle.ox_index.specs.Pairs.{has_added}
use Rattle.ox_shard.proofs.Loops.{left-step, gone-step}
use Rattle.ox_shard.proofs.lists.Lists.forget_all.Goals as goal

pub loop-item-preserved : goal.loop-item-preserved
loop-item-preserved c = record {
  sessions = c.forget.ensures.sessions ∙ c.loop-item.invariant.sessions;
  members = λ q. left-step c.args.gone.now c.loop-item.item-index c.item-item.result c.loop-item-test.true c.item-item.is q (members_in q c.loop-item.self.sessions) (members_in q c.forget.new.self.sessions) (c.forget.ensures.members q) ∙ c.loop-item.invariant.members q;
  entries = λ q. gone-step c.args.gone.now c.loop-item.item-index c.item-item.result c.loop-item-test.true c.item-item.is q (has_added q c.loop-item.self.index) (has_added q c.forget.new.self.index) (c.forget.ensures.entries q) ∙ c.loop-item.invariant.entries q;
}

pub returns : goal.returns
returns c =
    let none = drop_all c.loop-item.item-index c.args.gone.now c.loop-item-test.false in
    record {
      sessions = c.loop-item.invariant.sessions;
      members = λ q. rw none at (c.loop-item.invariant.members q);
      entries = λ q. rw none at (c.loop-item.invariant.entries q);
    }
