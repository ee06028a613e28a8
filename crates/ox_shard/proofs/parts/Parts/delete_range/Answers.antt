use Rattle.std.proofs.Common.{◌∙◌}
use Rattle.ox_order.specs.Range.{in_range}
use Rattle.ox_shard.specs.Parts.{state_of}
use Rattle.ox_shard.proofs.Ties.{own_records, ranges, listed-staying, range-distinct}
use Rattle.ox_shard.proofs.parts.Parts.delete_range.Goals as goal

pub returns-clause-tied : goal.returns-clause-tied
returns-clause-tied c =
    let s = state_of c.args.self.now in
    let left = ranges s c.args.range.now c.delete_range.new.self c.in_ok-change.change (c.in_ok-change.ensures.made s (own_records c.args.self.now)) in
    record {
      listed = rw left (listed-staying c.args.self.now.lists c.forget_all.new.self s.records c.as_slice.result.now c.records_are_sound.ensures.rising c.requires.listed c.forget_all.ensures.members c.forget_all.ensures.entries (in_range c.args.range.now) (c.as_slice.ensures ∙ c.in_ok-change.ensures.gone));
      entries = range-distinct s c.args.range.now c.delete_range.new.self.records left c.requires.entries;
      sessions = rw c.forget_all.ensures.sessions c.requires.sessions;
      charged = rw (c.forget_all.ensures.sessions, c.delete_range.ensures.others) c.requires.charged;
      times = c.requires.times;
    }
