use Rattle.std.proofs.Common.{◌≡◌, inr, true, false, sym, ◌∙◌, ap}
use Rattle.ox_types.specs.Durable.{DurableState}
use Rattle.ox_wal.specs.Files.{Stands}
use Rattle.ox_wal.specs.State.{state_of}
use Rattle.ox_solo_replica.specs.Recovered.{is_usable}
use Rattle.ox_solo_replica.proofs.RecoverLemmas.{either_half}
use Rattle.ox_solo_replica.proofs.recover.recover_at.Goals as goal

pub returns-in-Ok-Some-clause-sound : goal.returns-in-Ok-Some-clause-sound
returns-in-Ok-Some-clause-sound g c = c.in-Ok-Some.ensures.sound c.in-Ok-Some.live c.in-Ok-Some.field-0-is

-- where it stood for a state that can be used, it isn't refused for what it says
pub returns-in-Ok-None-clause-found_err : goal.returns-in-Ok-None-clause-found_err
returns-in-Ok-None-clause-found_err g c = λ state tells stands usable.
    let none = rw c.in-Ok-None.field-0-is at c.in-Ok-None.ensures.usable in
    let found = c.in_ok-wal.ensures.found state tells stands in
    let same : false ≡ true = none ∙ ap (λ (d : DurableState). is_usable g.M.Machine.meaning d) found ∙ usable in
    cc

pub returns-in-Ok-None-clause-damaged : goal.returns-in-Ok-None-clause-damaged
returns-in-Ok-None-clause-damaged g c = λ tells half at is.
    let none = rw c.in-Ok-None.field-0-is at c.in-Ok-None.ensures.usable in
    let fault = c.refused.ensures.fault in
    let place : at ≡ 10 = cc in
    inr (state_of c.in_ok-wal.wal.log, c.in_ok-wal.ensures.stood tells, sym none, place)

pub returns-in-Ok-None-clause-any_moment_err : goal.returns-in-Ok-None-clause-any_moment_err
returns-in-Ok-None-clause-any_moment_err g c = λ state tells stand.
    let journal = c.in_ok-wal.wal.journal in
    either_half g.D.Disk.shows (λ a b. Stands a b state) (g.D.Disk.shows c.args.first) (g.D.Disk.shows c.args.second) journal.live journal.spare c.refused.result.1 c.refused.result.2 journal.half journal.halves
    (c.in_ok-wal.ensures.any_moment_zero state tells stand) (c.in_ok-wal.ensures.any_moment_one state tells stand) c.refused.ensures.zero c.refused.ensures.one

pub returns-in-Err-clause-any_moment_err : goal.returns-in-Err-clause-any_moment_err
returns-in-Err-clause-any_moment_err g c = λ state tells stand.
    let journal = c.in_ok-wal.wal.journal in
    either_half g.D.Disk.shows (λ a b. Stands a b state) (g.D.Disk.shows c.args.first) (g.D.Disk.shows c.args.second) journal.live journal.spare c.refused-in-Err.result.1 c.refused-in-Err.result.2 journal.half journal.halves
    (c.in_ok-wal.ensures.any_moment_zero state tells stand) (c.in_ok-wal.ensures.any_moment_one state tells stand) c.refused-in-Err.ensures.zero c.refused-in-Err.ensures.one
