use Rattle.std.proofs.Common.{◌≡◌, ℕ, drop}
use Rattle.std.specs.Prelude.{◌&&◌, not}
use Rattle.ox_session.specs.Members.{sessions_of, members_in}
use Rattle.ox_index.specs.declared.added.Added.{Added}
use Rattle.ox_index.specs.Pairs.{has_added}
use Rattle.ox_shard.specs.Lists.{all_added, left_by_all}
use Rattle.ox_shard.proofs.lists.Lists.forget_all.Given as goal

abbrev pub invariant-loop-item : goal.invariant-loop-item
invariant-loop-item l = record {
  sessions : sessions_of l.self.sessions ≡ sessions_of l.fn.self.sessions;
  members : (q : ℕ) → left_by_all q (drop l.item-index l.gone) (members_in q l.self.sessions) ≡ left_by_all q l.gone (members_in q l.fn.self.sessions);
  entries : (q : Added) → (not (has_added q (all_added (drop l.item-index l.gone))) && has_added q l.self.index) ≡ (not (has_added q (all_added l.gone)) && has_added q l.fn.self.index);
}
