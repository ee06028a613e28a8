use Rattle.std.proofs.Common.{◌∙◌}
use Rattle.ox_shard.specs.Parts.{state_of}
use Rattle.ox_shard.proofs.Ties.{own_records, removes, delete-listed, delete-distinct}
use Rattle.ox_shard.proofs.parts.Parts.delete.Goals as goal

pub returns-clause-tied : goal.returns-clause-tied
returns-clause-tied c =
    let s = state_of c.args.self.now in
    let removed = removes s c.args.delete.now c.delete.new.self c.in_ok-change.change (c.in_ok-change.ensures.made s (own_records c.args.self.now)) in
    record {
      listed = delete-listed s c.args.delete.now c.args.self.now.lists c.forget_all.new.self c.delete.new.self.records c.as_slice.result.now c.records_are_sound.ensures.rising c.requires.listed c.forget_all.ensures.members c.forget_all.ensures.entries c.in_ok-change.change.reply removed (c.as_slice.ensures ∙ c.in_ok-change.ensures.gone);
      entries = delete-distinct s c.args.delete.now c.delete.new.self.records c.in_ok-change.change.reply removed c.requires.entries;
      sessions = rw c.forget_all.ensures.sessions c.requires.sessions;
      charged = rw (c.forget_all.ensures.sessions, c.delete.ensures.others) c.requires.charged;
      times = c.requires.times;
    }
