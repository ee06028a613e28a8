-- Batches whose commands aren't long.
use Rattle.std.proofs.Common.{◌≡◌, List, [], ◌∷◌, sym, subst}
use Rattle.ox_types.specs.declared.log.Entry.{Entry}
use Rattle.ox_types.specs.declared.durable.Action.{Action}
use Rattle.ox_types.specs.declared.durable.Action.TheVariants as action_is
use Rattle.ox_solo_replica.specs.Keeping.{IsShort, IsSmall}

pub small_none : (batch : List Action) → batch ≡ [] → IsSmall batch
small_none batch is = subst (λ (b : List Action). IsSmall b) (sym is) tt

pub small_one : (batch : List Action) (e : Entry) → batch ≡ action_is.Append (e ∷ []) ∷ [] → IsShort e.body → IsSmall batch
small_one batch e is short = subst (λ (b : List Action). IsSmall b) (sym is) ((short, tt), tt)
