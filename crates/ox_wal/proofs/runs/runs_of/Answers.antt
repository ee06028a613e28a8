use Rattle.std.proofs.Common.{◌∙◌, ◌++◌, List, ap, sym, drop}
use Rattle.ox_types.specs.declared.log.TermRun.{TermRun}
use Rattle.ox_types.specs.Log.{runs_of}
use Rattle.ox_wal.proofs.TermRuns.{runs_more, follow_drop}
use Rattle.ox_wal.proofs.runs.runs_of.Goals as goal

pub loop-rest-preserved : goal.loop-rest-preserved
loop-rest-preserved c =
    let rest = c.loop-rest.rest.now in
    let run = c.first_run-run.result in
    let so_far = ap (λ (l : List TermRun). c.loop-rest.runs ++ l) (sym c.first_run-run.ensures.runs) ∙ c.loop-rest.invariant.runs in
    rw (c.in_ok-push.ensures.ok, c.behind-rest.ensures) (record {
      runs = runs_more c.loop-rest.runs run.0 (runs_of (drop run.1 rest)) _ so_far;
      follow = follow_drop run.1 rest c.loop-rest.invariant.follow;
    })
