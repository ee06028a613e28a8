use Rattle.std.proofs.Common.{◌≡◌, None, sym, ◌∙◌, subst}
use Rattle.ox_wal.specs.State.{state_of}
use Rattle.ox_solo_replica.specs.declared.live.Live.{Live}
use Rattle.ox_solo_replica.specs.Sound.{IsSound}
use Rattle.ox_solo_replica.proofs.RecoverLemmas.{opening_sound}
use Rattle.ox_solo_replica.proofs.recover.opening.Goals as goal

pub returns-clause-sound : goal.returns-clause-sound
returns-clause-sound g c =
    let log = c.args.log.now in
    let usable = c.in_ok-is_usable.ensures in
    let sound = opening_sound g.M.Machine.meaning (state_of log) c.in_ok-machine.machine (sym usable.exact ∙ c.if-not-branch.false) (usable.runs c.if-not-branch.false) c.in_ok-machine.ensures.fits log.small log.follows in
    λ x is.
    let same : record { commit = log.base.count; machine = c.in_ok-machine.machine; now = 0; hint = None; leading = None } ≡ x = cc is in
    subst (λ (l : Live g.row.M.Denot). IsSound g.M.Machine.meaning (state_of log) l) same sound
