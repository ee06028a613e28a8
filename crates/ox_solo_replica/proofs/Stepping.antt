-- The parts of a step make the step.
use Rattle.std.proofs.Common.{◌≡◌, ℕ, List, ap, subst, ◌∙◌}
use Rattle.ox_types.specs.declared.durable.Action.{Action}
use Rattle.ox_types.specs.Durable.{DurableState}
use Rattle.ox_machine.specs.Meaning.{Meaning}
use Rattle.ox_solo_replica.specs.declared.input.Input.{Input}
use Rattle.ox_solo_replica.specs.declared.live.Live.{Live}
use Rattle.ox_solo_replica.specs.declared.plan.Plan.{Plan}
use Rattle.ox_solo_replica.specs.Plans.{planned}
use Rattle.ox_solo_replica.specs.State.{ReplicaState, Row, folded_all}
use Rattle.ox_solo_replica.specs.Step.{finished, stepped, row_of, replica_step}

module _ {S C R Q A : Type 0} (M : Meaning S C R Q A) (me all : ℕ) (r : ReplicaState S) (i : Input) (plan : Plan) (mid : Live S) (is : planned plan mid ≡ row_of M me all r i) where
  -- the state that the disks stand for behind it
  pub behind_is : folded_all r.disk plan.batch.items ≡ (replica_step M me all r i).state.disk
  unfolding replica_step
  behind_is = ap (λ (row : Row S). folded_all r.disk row.kept) is

  -- the batch is kept, and then the row is finished
  pub step_is : (after : DurableState) → after ≡ folded_all r.disk plan.batch.items → finished M after (planned plan mid) ≡ replica_step M me all r i
  unfolding replica_step
  step_is after kept = ap (λ (d : DurableState). finished M d (planned plan mid)) kept ∙ ap (λ (row : Row S). stepped M r.disk row) is

  -- what holds of the state behind the batch holds of the one behind the step
  pub behind : (P : DurableState → Type 0) (batch : List Action) → batch ≡ plan.batch.items → P (folded_all r.disk batch) → P (replica_step M me all r i).state.disk
  behind P batch same holds = subst P (ap (λ (b : List Action). folded_all r.disk b) same ∙ behind_is) holds

  -- the batch of the step
  pub kept_is : plan.batch.items ≡ (replica_step M me all r i).kept
  unfolding replica_step
  kept_is = ap (λ (row : Row S). row.kept) is
