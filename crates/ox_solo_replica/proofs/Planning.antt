-- What the plan of a row keeps: a log takes it, and what holds of a replica holds behind it.
use Rattle.std.specs.Prelude.{Result, Ok, Err, IfOk}
use Rattle.std.proofs.Common.{◌≡◌, ℕ, ◌≤◌, List, refl, sym, ap, subst, arith}
use Rattle.ox_types.specs.declared.durable.Action.{Action}
use Rattle.ox_types.specs.Durable.{DurableState}
use Rattle.ox_machine.specs.Meaning.{Meaning}
use Rattle.ox_solo_replica.specs.declared.live.Live.{Live}
use Rattle.ox_solo_replica.specs.declared.plan.Plan.{Plan}
use Rattle.ox_solo_replica.specs.Keeping.{IsKeepable, IsSmall}
use Rattle.ox_solo_replica.specs.Plans.{planned}
use Rattle.ox_solo_replica.specs.Sound.{IsSound}
use Rattle.ox_solo_replica.specs.State.{Row, folded_all}
use Rattle.ox_solo_replica.specs.Tick.{time_at}
use Rattle.ox_solo_replica.proofs.Batches.{batch_keepable, batch_sound, kept_sound}
use Rattle.ox_solo_replica.proofs.Rows.{Fine}

-- two facts of what was answered make a third
pub if_both : {A E : Type 0} (r : Result A E) (P Q T : A → Type 0) → ((x : A) → P x → Q x → T x) → IfOk r P → IfOk r Q → IfOk r T
if_both (Ok x) P Q T f p q = f x p q
if_both (Err e) P Q T f p q = tt

-- the batch of a plan is that of its row
pub small_row : {S : Type 0} (plan : Plan) (after : Live S) (row : Row S) → planned plan after ≡ row → IsSmall plan.batch.items → IsSmall row.kept
small_row {S = S} plan after row is small = subst (λ (r : Row S). IsSmall r.kept) is small

module _ {S C R Q A : Type 0} (M : Meaning S C R Q A) (all : ℕ) (d : DurableState) (live : Live S) (sound : IsSound M d live) where
  module _ (plan : Plan) (after : Live S) (row : Row S) (is : planned plan after ≡ row) (fine : Fine all d live row) where
    batch_is : row.kept ≡ plan.batch.items
    batch_is = sym (ap (λ (r : Row S). r.kept) is)

    live_is : row.live ≡ after
    live_is = sym (ap (λ (r : Row S). r.live) is)

    pub plan_keepable : IsKeepable all d plan.batch.items
    plan_keepable = subst (λ (b : List Action). IsKeepable all d b) batch_is (batch_keepable M all d live sound row.kept fine.batch)

    pub plan_sound : IsSound M (folded_all d plan.batch.items) after
    plan_sound = subst (λ (b : List Action). IsSound M (folded_all d b) after) batch_is (subst (λ (l : Live S). IsSound M (folded_all d row.kept) l) live_is (batch_sound M all d live sound row.kept row.live fine.batch fine.stays))

  -- once the clock moved
  pub later_sound : (ms : ℕ) → IsSound M d (time_at live ms)
  later_sound ms =
      let old : live.now ≤ 9007199254740992 = sound.now in
      kept_sound M all d live sound (time_at live ms) (record { commit = refl; machine = refl; now = omega arith })
