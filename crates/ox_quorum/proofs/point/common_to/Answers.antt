use Rattle.std.proofs.Common.{◌≡◌, ◌∙◌, ◌≤◌, ◌<◌, ◌+◌, ◌-◌, ℕ, ap, subst, length, List, arith}
use Rattle.std.specs.Prelude.{min}
use Rattle.ox_types.specs.declared.log.TermRun.{TermRun}
use Rattle.ox_quorum.proofs.Passing.{rest_of, ours_pass, theirs_pass, ours_end, theirs_end}
use Rattle.ox_quorum.proofs.point.common_to.Goals as goal

pub loop-place-preserved-then-run-its : goal.loop-place-preserved-then-run-its
loop-place-preserved-then-run-its c =
    let r : TermRun = record { term = c.run.inside.0.0.0; last = c.run.inside.0.1.0 } in
    let s : TermRun = record { term = c.its.inside.0.0.0; last = c.its.inside.0.1.0 } in
    let some : 0 < c.args.most = omega (arith, c.requires.within, c.if-most-least.false) in
    let end : c.min-end.result + 1 ≡ min (min r.last s.last) (c.args.most - 1) + 1 = ap (λ (n : ℕ). n + 1) (c.min-end.ensures ∙ ap (λ (n : ℕ). min n (c.args.most - 1)) c.min.ensures) in
    ours_pass c.args.leader.now c.args.follower.now c.args.least c.args.most c.requires.leader c.requires.follower c.loop-place.place c.loop-place.other c.loop-place.at c.loop-place.found c.loop-place.invariant
    r s (c.min-end.result + 1) some end
    (rest_of c.args.leader.now.runs c.as_slice-runs.result.now c.loop-place.place r c.index-runs-place.result c.as_slice-runs.ensures c.loop-place-test.true c.run.view_is c.index-runs-place.is)
    (rest_of c.args.follower.now.runs c.as_slice-others.result.now c.loop-place.other s c.index-others-other.result c.as_slice-others.ensures c.if-other-others.true c.its.view_is c.index-others-other.is)
    c.max-at.result c.max-at.ensures c.behind-found.result c.behind-found.ensures c.if-run-its.true

pub loop-place-preserved : goal.loop-place-preserved
loop-place-preserved c =
    let r : TermRun = record { term = c.run.inside.0.0.0; last = c.run.inside.0.1.0 } in
    let s : TermRun = record { term = c.its.inside.0.0.0; last = c.its.inside.0.1.0 } in
    let some : 0 < c.args.most = omega (arith, c.requires.within, c.if-most-least.false) in
    let end : c.min-end.result + 1 ≡ min (min r.last s.last) (c.args.most - 1) + 1 = ap (λ (n : ℕ). n + 1) (c.min-end.ensures ∙ ap (λ (n : ℕ). min n (c.args.most - 1)) c.min.ensures) in
    theirs_pass c.args.leader.now c.args.follower.now c.args.least c.args.most c.requires.leader c.requires.follower c.loop-place.place c.loop-place.other c.loop-place.at c.loop-place.found c.loop-place.invariant
    r s (c.min-end.result + 1) some end
    (rest_of c.args.leader.now.runs c.as_slice-runs.result.now c.loop-place.place r c.index-runs-place.result c.as_slice-runs.ensures c.loop-place-test.true c.run.view_is c.index-runs-place.is)
    (rest_of c.args.follower.now.runs c.as_slice-others.result.now c.loop-place.other s c.index-others-other.result c.as_slice-others.ensures c.if-other-others.true c.its.view_is c.index-others-other.is)
    c.max-at.result c.max-at.ensures c.behind-found.result c.behind-found.ensures c.if-run-its.false

pub returns-after-loop-place : goal.returns-after-loop-place
returns-after-loop-place c =
    ours_end c.args.leader.now c.args.follower.now c.args.least c.args.most c.requires.leader c.requires.follower c.loop-place.place c.loop-place.other c.loop-place.at c.loop-place.found c.loop-place.invariant (subst (λ (l : List TermRun). length l ≤ c.loop-place.place) c.as_slice-runs.ensures c.loop-place-test.false)

pub returns-else-other-others : goal.returns-else-other-others
returns-else-other-others c =
    theirs_end c.args.leader.now c.args.follower.now c.args.least c.args.most c.requires.leader c.requires.follower c.loop-place.place c.loop-place.other c.loop-place.at c.loop-place.found c.loop-place.invariant (subst (λ (l : List TermRun). length l ≤ c.loop-place.other) c.as_slice-others.ensures c.if-other-others.false)
