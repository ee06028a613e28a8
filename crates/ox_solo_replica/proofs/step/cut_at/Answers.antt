use Rattle.std.proofs.Common.{ap, sym, ◌∙◌}
use Rattle.ox_types.specs.Durable.{DurableState}
use Rattle.ox_journal.specs.Pair.{LeavesPairs}
use Rattle.ox_wal.specs.Files.{BeforeOrBehind}
use Rattle.ox_wal.specs.State.{state_of}
use Rattle.ox_solo_replica.specs.State.{folded_all}
use Rattle.ox_solo_replica.specs.Step.{Stepped, output_of}
use Rattle.ox_solo_replica.proofs.Cuts.{whole_cut, whole_disk, kept_cut, kept_disk, lost_cut, lost_disk}
use Rattle.ox_solo_replica.proofs.Stepping.{behind, step_is}
use Rattle.ox_solo_replica.proofs.step.cut_at.Goals as goal

pub returns-in_err-keep-clause-any_moment : goal.returns-in_err-keep-clause-any_moment
returns-in_err-keep-clause-any_moment g c told =
    let now = c.args.wal.now.journal in
    let next = c.keep.new.wal.journal in
    let shows = g.D.Disk.shows in
    behind g.M.Machine.meaning c.args.me c.args.wal.now.blocks (record { disk = state_of c.args.wal.now.log; live = c.args.live.now }) c.args.input c.in_ok-plan.plan c.plan.new.live c.in_ok-plan.ensures.row
    (λ (e : DurableState). LeavesPairs (shows now.live) (shows now.spare) (shows next.live) (shows next.spare) (BeforeOrBehind (state_of c.args.wal.now.log) e))
    c.as_slice-then-is_whole.result.now c.as_slice-then-is_whole.ensures.value (c.keep.ensures.any_moment told)

pub returns-in_err-output-clause-any_moment : goal.returns-in_err-output-clause-any_moment
returns-in_err-output-clause-any_moment g c told =
    let now = c.args.wal.now.journal in
    let next = c.keep.new.wal.journal in
    let shows = g.D.Disk.shows in
    behind g.M.Machine.meaning c.args.me c.args.wal.now.blocks (record { disk = state_of c.args.wal.now.log; live = c.args.live.now }) c.args.input c.in_ok-plan.plan c.plan.new.live c.in_ok-plan.ensures.row
    (λ (e : DurableState). LeavesPairs (shows now.live) (shows now.spare) (shows next.live) (shows next.spare) (BeforeOrBehind (state_of c.args.wal.now.log) e))
    c.as_slice-then-is_whole.result.now c.as_slice-then-is_whole.ensures.value (c.keep.ensures.any_moment told)

pub returns-then-is_whole-clause-any_moment : goal.returns-then-is_whole-clause-any_moment
returns-then-is_whole-clause-any_moment g c told =
    let now = c.args.wal.now.journal in
    let next = c.keep.new.wal.journal in
    let shows = g.D.Disk.shows in
    behind g.M.Machine.meaning c.args.me c.args.wal.now.blocks (record { disk = state_of c.args.wal.now.log; live = c.args.live.now }) c.args.input c.in_ok-plan.plan c.plan.new.live c.in_ok-plan.ensures.row
    (λ (e : DurableState). LeavesPairs (shows now.live) (shows now.spare) (shows next.live) (shows next.spare) (BeforeOrBehind (state_of c.args.wal.now.log) e))
    c.as_slice-then-is_whole.result.now c.as_slice-then-is_whole.ensures.value (c.keep.ensures.any_moment told)

pub returns-in_err-keep-2-clause-any_moment : goal.returns-in_err-keep-2-clause-any_moment
returns-in_err-keep-2-clause-any_moment g c told =
    let now = c.args.wal.now.journal in
    let next = c.keep-2.new.wal.journal in
    let shows = g.D.Disk.shows in
    behind g.M.Machine.meaning c.args.me c.args.wal.now.blocks (record { disk = state_of c.args.wal.now.log; live = c.args.live.now }) c.args.input c.in_ok-plan.plan c.plan.new.live c.in_ok-plan.ensures.row
    (λ (e : DurableState). LeavesPairs (shows now.live) (shows now.spare) (shows next.live) (shows next.spare) (BeforeOrBehind (state_of c.args.wal.now.log) e))
    c.as_slice-2.result.now c.as_slice-2.ensures.value (c.keep-2.ensures.any_moment told)

pub returns-clause-any_moment : goal.returns-clause-any_moment
returns-clause-any_moment g c told =
    let now = c.args.wal.now.journal in
    let next = c.keep-2.new.wal.journal in
    let shows = g.D.Disk.shows in
    behind g.M.Machine.meaning c.args.me c.args.wal.now.blocks (record { disk = state_of c.args.wal.now.log; live = c.args.live.now }) c.args.input c.in_ok-plan.plan c.plan.new.live c.in_ok-plan.ensures.row
    (λ (e : DurableState). LeavesPairs (shows now.live) (shows now.spare) (shows next.live) (shows next.spare) (BeforeOrBehind (state_of c.args.wal.now.log) e))
    c.as_slice-2.result.now c.as_slice-2.ensures.value (c.keep-2.ensures.any_moment told)

pub returns-then-is_whole-clause-cut : goal.returns-then-is_whole-clause-cut
returns-then-is_whole-clause-cut g c =
    whole_cut g.M.Machine.meaning c.args.me c.args.wal.now.blocks (record { disk = state_of c.args.wal.now.log; live = c.args.live.now }) c.args.input c.in_ok-plan.plan c.plan.new.live c.in_ok-plan.ensures.row c.args.at c.args.stands c.as_slice.result.now c.as_slice.ensures.value
    c.is_whole.result c.is_whole.ensures c.if-is_whole.true c.in_ok-output.output
    (c.in_ok-output.ensures.output ∙ ap (λ (s : Stepped g.row.M.Denot). output_of s)
    (step_is g.M.Machine.meaning c.args.me c.args.wal.now.blocks (record { disk = state_of c.args.wal.now.log; live = c.args.live.now }) c.args.input c.in_ok-plan.plan c.plan.new.live c.in_ok-plan.ensures.row
    (state_of c.keep.new.wal.log) (c.in_ok-keep.ensures.state ∙ ap (folded_all (state_of c.args.wal.now.log)) c.as_slice-then-is_whole.ensures.value)))

pub returns-then-is_whole-clause-disk : goal.returns-then-is_whole-clause-disk
returns-then-is_whole-clause-disk g c =
    whole_disk g.M.Machine.meaning c.args.me c.args.wal.now.blocks (record { disk = state_of c.args.wal.now.log; live = c.args.live.now }) c.args.input c.in_ok-plan.plan c.plan.new.live c.in_ok-plan.ensures.row c.args.at c.args.stands c.as_slice.result.now c.as_slice.ensures.value
    c.is_whole.result c.is_whole.ensures c.if-is_whole.true (state_of c.keep.new.wal.log)
    (c.in_ok-keep.ensures.state ∙ ap (folded_all (state_of c.args.wal.now.log)) (c.as_slice-then-is_whole.ensures.value ∙ sym c.as_slice.ensures.value))

pub returns-then-is_whole-clause-whole : goal.returns-then-is_whole-clause-whole
returns-then-is_whole-clause-whole g c output is = (
  c.in_ok-output.ensures.state ∙ ap (λ (s : Stepped g.row.M.Denot). s.state)
      (step_is g.M.Machine.meaning c.args.me c.args.wal.now.blocks (record { disk = state_of c.args.wal.now.log; live = c.args.live.now }) c.args.input c.in_ok-plan.plan c.plan.new.live c.in_ok-plan.ensures.row
      (state_of c.keep.new.wal.log) (c.in_ok-keep.ensures.state ∙ ap (folded_all (state_of c.args.wal.now.log)) c.as_slice-then-is_whole.ensures.value)),
  c.in_ok-output.ensures.sound,
)

pub returns-then-not-is_found-clause-cut : goal.returns-then-not-is_found-clause-cut
returns-then-not-is_found-clause-cut g c =
    lost_cut g.M.Machine.meaning c.args.me c.args.wal.now.blocks (record { disk = state_of c.args.wal.now.log; live = c.args.live.now }) c.args.input c.in_ok-plan.plan c.plan.new.live c.in_ok-plan.ensures.row c.args.at c.args.stands c.as_slice.result.now c.as_slice.ensures.value
    c.is_whole.result c.is_whole.ensures c.if-is_whole.false c.new.result c.head.result (sym c.is_found.ensures ∙ c.if-not-is_found.true) c.new.ensures c.head.ensures

pub returns-then-not-is_found-clause-disk : goal.returns-then-not-is_found-clause-disk
returns-then-not-is_found-clause-disk g c =
    lost_disk g.M.Machine.meaning c.args.me c.args.wal.now.blocks (record { disk = state_of c.args.wal.now.log; live = c.args.live.now }) c.args.input c.in_ok-plan.plan c.plan.new.live c.in_ok-plan.ensures.row c.args.at c.args.stands c.as_slice.result.now c.as_slice.ensures.value
    c.is_whole.result c.is_whole.ensures c.if-is_whole.false (sym c.is_found.ensures ∙ c.if-not-is_found.true)

pub returns-clause-cut : goal.returns-clause-cut
returns-clause-cut g c =
    kept_cut g.M.Machine.meaning c.args.me c.args.wal.now.blocks (record { disk = state_of c.args.wal.now.log; live = c.args.live.now }) c.args.input c.in_ok-plan.plan c.plan.new.live c.in_ok-plan.ensures.row c.args.at c.args.stands c.as_slice.result.now c.as_slice.ensures.value
    c.is_whole.result c.is_whole.ensures c.if-is_whole.false c.in_ok-plan.plan.kept c.head-head.result (state_of c.keep-2.new.wal.log) (sym c.is_found.ensures ∙ c.if-not-is_found.false) c.in_ok-plan.plan.told c.head-head.ensures
    (c.in_ok-keep-2.ensures.state ∙ ap (folded_all (state_of c.args.wal.now.log)) (c.as_slice-2.ensures.value ∙ sym c.as_slice.ensures.value))

pub returns-clause-disk : goal.returns-clause-disk
returns-clause-disk g c =
    kept_disk g.M.Machine.meaning c.args.me c.args.wal.now.blocks (record { disk = state_of c.args.wal.now.log; live = c.args.live.now }) c.args.input c.in_ok-plan.plan c.plan.new.live c.in_ok-plan.ensures.row c.args.at c.args.stands c.as_slice.result.now c.as_slice.ensures.value
    c.is_whole.result c.is_whole.ensures c.if-is_whole.false (state_of c.keep-2.new.wal.log) (sym c.is_found.ensures ∙ c.if-not-is_found.false)
    (c.in_ok-keep-2.ensures.state ∙ ap (folded_all (state_of c.args.wal.now.log)) (c.as_slice-2.ensures.value ∙ sym c.as_slice.ensures.value))
