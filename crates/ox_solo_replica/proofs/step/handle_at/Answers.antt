use Rattle.std.proofs.Common.{ap, ◌∙◌}
use Rattle.ox_types.specs.Durable.{DurableState}
use Rattle.ox_journal.specs.Pair.{LeavesPairs}
use Rattle.ox_wal.specs.Files.{BeforeOrBehind}
use Rattle.ox_wal.specs.State.{state_of}
use Rattle.ox_solo_replica.specs.State.{folded_all}
use Rattle.ox_solo_replica.specs.Step.{Stepped, output_of}
use Rattle.ox_solo_replica.proofs.Stepping.{behind, step_is}
use Rattle.ox_solo_replica.proofs.step.handle_at.Goals as goal

pub returns-in_err-keep-clause-any_moment : goal.returns-in_err-keep-clause-any_moment
returns-in_err-keep-clause-any_moment g c told =
    let now = c.args.wal.now.journal in
    let next = c.keep.new.wal.journal in
    let shows = g.D.Disk.shows in
    behind g.M.Machine.meaning c.args.me c.args.wal.now.blocks (record { disk = state_of c.args.wal.now.log; live = c.args.live.now }) c.args.input c.in_ok-plan.plan c.plan.new.live c.in_ok-plan.ensures.row
    (λ (e : DurableState). LeavesPairs (shows now.live) (shows now.spare) (shows next.live) (shows next.spare) (BeforeOrBehind (state_of c.args.wal.now.log) e))
    c.as_slice.result.now c.as_slice.ensures.value (c.keep.ensures.any_moment told)

pub returns-in_err-output-clause-any_moment : goal.returns-in_err-output-clause-any_moment
returns-in_err-output-clause-any_moment g c told =
    let now = c.args.wal.now.journal in
    let next = c.keep.new.wal.journal in
    let shows = g.D.Disk.shows in
    behind g.M.Machine.meaning c.args.me c.args.wal.now.blocks (record { disk = state_of c.args.wal.now.log; live = c.args.live.now }) c.args.input c.in_ok-plan.plan c.plan.new.live c.in_ok-plan.ensures.row
    (λ (e : DurableState). LeavesPairs (shows now.live) (shows now.spare) (shows next.live) (shows next.spare) (BeforeOrBehind (state_of c.args.wal.now.log) e))
    c.as_slice.result.now c.as_slice.ensures.value (c.keep.ensures.any_moment told)

pub returns-clause-any_moment : goal.returns-clause-any_moment
returns-clause-any_moment g c told =
    let now = c.args.wal.now.journal in
    let next = c.keep.new.wal.journal in
    let shows = g.D.Disk.shows in
    behind g.M.Machine.meaning c.args.me c.args.wal.now.blocks (record { disk = state_of c.args.wal.now.log; live = c.args.live.now }) c.args.input c.in_ok-plan.plan c.plan.new.live c.in_ok-plan.ensures.row
    (λ (e : DurableState). LeavesPairs (shows now.live) (shows now.spare) (shows next.live) (shows next.spare) (BeforeOrBehind (state_of c.args.wal.now.log) e))
    c.as_slice.result.now c.as_slice.ensures.value (c.keep.ensures.any_moment told)

pub returns-clause-output : goal.returns-clause-output
returns-clause-output g c =
    c.in_ok-output.ensures.output
    ∙ ap (λ (s : Stepped g.row.M.Denot). output_of s)
    (step_is g.M.Machine.meaning c.args.me c.args.wal.now.blocks (record { disk = state_of c.args.wal.now.log; live = c.args.live.now }) c.args.input c.in_ok-plan.plan c.plan.new.live c.in_ok-plan.ensures.row
    (state_of c.keep.new.wal.log) (c.in_ok-keep.ensures.state ∙ ap (folded_all (state_of c.args.wal.now.log)) c.as_slice.ensures.value))

pub returns-clause-state : goal.returns-clause-state
returns-clause-state g c =
    c.in_ok-output.ensures.state
    ∙ ap (λ (s : Stepped g.row.M.Denot). s.state)
    (step_is g.M.Machine.meaning c.args.me c.args.wal.now.blocks (record { disk = state_of c.args.wal.now.log; live = c.args.live.now }) c.args.input c.in_ok-plan.plan c.plan.new.live c.in_ok-plan.ensures.row
    (state_of c.keep.new.wal.log) (c.in_ok-keep.ensures.state ∙ ap (folded_all (state_of c.args.wal.now.log)) c.as_slice.ensures.value))
