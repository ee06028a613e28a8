use Rattle.std.proofs.Common.{◌<◌, ◌≤◌, slice_index_or, arith, refl, false}
use Rattle.std.proofs.lemmas.Option.{slice_get-get_or}
use Rattle.ox_timer.specs.declared.running.Running.{Running}
use Rattle.ox_timer.proofs.Merges.{running_at-greater, running_at-past}
use Rattle.ox_timer.proofs.merge.going_on.Goals.{else-at-running-via-then-at-running+else-running-at, else-at-running-via-else-at-running}
use Rattle.ox_timer.proofs.merge.going_on.Goals as goal

-- no timer with the id ran before
pub returns : goal.returns
returns c =
    let none : Running = record { id = 0; timeout = 0; since = 0; expired = false } in
    elim c.else-at-running.branch [
      | else-at-running-via-then-at-running+else-running-at w ↦
          let reached : c.args.timer.now.id ≤ (slice_index_or c.args.running.now c.args.at none).id =
          c.requires.reached (slice_index_or c.args.running.now c.args.at none) (slice_get-get_or c.args.running.now c.args.at none w.if-at-running.true) in
          let other = w.if-running-at.false in
          let greater : c.args.timer.now.id < (slice_index_or c.args.running.now c.args.at none).id = grind arith in
          rw (running_at-greater c.args.timer.now.id c.args.at c.args.running.now none c.requires.rise w.if-at-running.true greater) refl
      | else-at-running-via-else-at-running w ↦ rw (running_at-past c.args.timer.now.id c.args.at c.args.running.now w.if-at-running.false) refl
    ]
