use Rattle.std.proofs.Common.{◌≡◌, List, sym, subst}
use Rattle.std.specs.Prelude.{map}
use Rattle.std.proofs.lemmas.Result.{IfOk-weaker}
use Rattle.ox_types.specs.declared.timer.Timer.{Timer}
use Rattle.ox_types.specs.Timers.{IdsRise}
use Rattle.ox_ops.specs.State.{timer_of}
use Rattle.ox_meaning.specs.ShardLaws.{ids_rise}
use Rattle.ox_shard.proofs.replicated.ShardMachineMachine.timers.Goals as goal

pub returns-clause-rise : goal.returns-clause-rise
returns-clause-rise c count fits =
    IfOk-weaker c.timers.result (λ (ts : List Timer). ts ≡ map timer_of c.args.self.now.sessions) (λ (ts : List Timer). IdsRise ts)
    (λ ts is. subst (λ (us : List Timer). IdsRise us) (sym is) (ids_rise c.args.self.now.sessions fits.rise)) c.timers.ensures
