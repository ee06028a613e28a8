use Rattle.std.proofs.Common.{Some, refl, ◌≡◌, ◌+◌, arith}
use Rattle.ox_wal.specs.State.{state_of}
use Rattle.ox_solo_replica.proofs.MovingLemmas.{runs_behind, advance-none, still, live_moved, sends_moved, replies_moved, live_unmoved, sends_unmoved, replies_unmoved}
use Rattle.ox_solo_replica.proofs.moving.advance.Goals as goal

pub commit_from-requires-clause-runs : goal.commit_from-requires-clause-runs
commit_from-requires-clause-runs g c = let same : 0 + c.args.live.now.commit ≡ c.args.live.now.commit = omega arith in rw same at (runs_behind c.args.live.now.commit 0 c.args.log.now.entries.items c.requires.sound.runs)

pub returns-in_ok-commit_from-clause-live : goal.returns-in_ok-commit_from-clause-live
returns-in_ok-commit_from-clause-live g c =
    let did = c.in_ok-commit_from.ensures in
    live_moved g.M.Machine.meaning (state_of c.args.log.now) c.args.live.now c.in-Some.leading c.requires.sound.unsaved c.in-Some.is (omega arith) c.len-count.result c.commit_from.new.machine c.commit_from.new.leading (omega arith) did.machine did.leading

pub returns-in_ok-commit_from-clause-sends : goal.returns-in_ok-commit_from-clause-sends
returns-in_ok-commit_from-clause-sends g c =
    let did = c.in_ok-commit_from.ensures in
    sends_moved g.M.Machine.meaning (state_of c.args.log.now) c.args.live.now c.in-Some.leading c.requires.sound.unsaved c.in-Some.is (omega arith) c.args.sends.now c.commit_from.new.sends did.sends

pub returns-in_ok-commit_from-clause-replies : goal.returns-in_ok-commit_from-clause-replies
returns-in_ok-commit_from-clause-replies g c =
    let did = c.in_ok-commit_from.ensures in
    replies_moved g.M.Machine.meaning (state_of c.args.log.now) c.args.live.now c.in-Some.leading c.requires.sound.unsaved c.in-Some.is (omega arith) c.args.replies.now c.commit_from.new.replies did.replies

pub returns-else-from-count-clause-live : goal.returns-else-from-count-clause-live
returns-else-from-count-clause-live g c = live_unmoved g.M.Machine.meaning (state_of c.args.log.now) c.args.live.now (still g.M.Machine.meaning (state_of c.args.log.now) c.args.live.now c.in-Some.leading c.requires.sound.unsaved c.in-Some.is (omega arith)) (Some c.in-Some.leading) c.in-Some.is

pub returns-else-from-count-clause-sends : goal.returns-else-from-count-clause-sends
returns-else-from-count-clause-sends g c = sends_unmoved g.M.Machine.meaning (state_of c.args.log.now) c.args.live.now (still g.M.Machine.meaning (state_of c.args.log.now) c.args.live.now c.in-Some.leading c.requires.sound.unsaved c.in-Some.is (omega arith)) c.args.sends.now

pub returns-else-from-count-clause-replies : goal.returns-else-from-count-clause-replies
returns-else-from-count-clause-replies g c = replies_unmoved g.M.Machine.meaning (state_of c.args.log.now) c.args.live.now (still g.M.Machine.meaning (state_of c.args.log.now) c.args.live.now c.in-Some.leading c.requires.sound.unsaved c.in-Some.is (omega arith)) c.args.replies.now

pub returns-in_default-clause-live : goal.returns-in_default-clause-live
returns-in_default-clause-live g c = live_unmoved g.M.Machine.meaning (state_of c.args.log.now) c.args.live.now (advance-none g.M.Machine.meaning (state_of c.args.log.now) c.args.live.now c.in_default.is) c.args.live.now.leading refl

pub returns-in_default-clause-sends : goal.returns-in_default-clause-sends
returns-in_default-clause-sends g c = sends_unmoved g.M.Machine.meaning (state_of c.args.log.now) c.args.live.now (advance-none g.M.Machine.meaning (state_of c.args.log.now) c.args.live.now c.in_default.is) c.args.sends.now

pub returns-in_default-clause-replies : goal.returns-in_default-clause-replies
returns-in_default-clause-replies g c = replies_unmoved g.M.Machine.meaning (state_of c.args.log.now) c.args.live.now (advance-none g.M.Machine.meaning (state_of c.args.log.now) c.args.live.now c.in_default.is) c.args.replies.now
