use Rattle.std.proofs.Common.{◌∙◌, refl}
use Rattle.ox_ops.specs.Operation.{put_on}
use Rattle.ox_shard.specs.declared.parts.Parts.{Parts}
use Rattle.ox_shard.specs.Parts.{state_of}
use Rattle.ox_shard.proofs.Ready.{ready-distinct}
use Rattle.ox_shard.proofs.Ties.{own_records, own_put, made-is, stores, open-for, put-listed, put-distinct}
use Rattle.ox_shard.proofs.parts.Parts.put.Goals as goal

pub returns-clause-then : goal.returns-clause-then
returns-clause-then c =
    let s = state_of c.args.self.now in
    let after : Parts = record { alloc = c.args.self.now.alloc; time = c.args.self.now.time; records = c.put.new.self; lists = c.enter.new.self; notices = c.args.self.now.notices } in
    made-is c.args.self.now after c.args.done.now c.add.new.self c.in_ok-change.change (put_on s c.args.put.now)
    (record { time = refl; sessions = c.in_ok-enter.ensures.sessions ∙ c.forget_all.ensures.sessions; notices = refl })
    (own_put c.args.self.now c.requires.tied c.is_live-live.result c.args.put.now c.is_live-live.ensures ∙ c.in_ok-change.ensures.made s (own_records c.args.self.now) refl)
    c.in_ok-add.ensures

pub enter-requires : goal.enter-requires
enter-requires c =
    let s = state_of c.args.self.now in
    let stored = stores s c.args.put.now c.put.new.self c.in_ok-change.change (own_put c.args.self.now c.requires.tied c.is_live-live.result c.args.put.now c.is_live-live.ensures ∙ c.in_ok-change.ensures.made s (own_records c.args.self.now) refl) in
    rw c.forget_all.ensures.sessions (open-for s c.args.put.now c.put.new.self.records _ stored)

pub returns-clause-tied : goal.returns-clause-tied
returns-clause-tied c =
    let s = state_of c.args.self.now in
    let stored = stores s c.args.put.now c.put.new.self c.in_ok-change.change (own_put c.args.self.now c.requires.tied c.is_live-live.result c.args.put.now c.is_live-live.ensures ∙ c.in_ok-change.ensures.made s (own_records c.args.self.now) refl) in
    let sessions = c.in_ok-enter.ensures.sessions ∙ c.forget_all.ensures.sessions in
    record {
      listed = put-listed s c.args.put.now c.args.self.now.lists c.forget_all.new.self c.enter.new.self c.put.new.self.records c.as_slice.result.now c.records_are_sound.ensures.rising c.requires.tied.listed c.forget_all.ensures.members c.forget_all.ensures.entries
          c.in_ok-change.change.reply stored (c.as_slice.ensures ∙ c.in_ok-change.ensures.gone) c.in_ok-enter.ensures.members c.in_ok-enter.ensures.entries;
      entries = put-distinct s c.args.put.now c.put.new.self.records _ stored (ready-distinct c.args.put.now c.requires.ready) c.requires.tied.entries;
      sessions = rw sessions c.requires.tied.sessions;
      charged = rw (sessions, c.put.ensures.others) c.requires.tied.charged;
      times = c.requires.tied.times;
    }
