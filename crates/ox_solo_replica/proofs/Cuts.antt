-- A step that is cut, by where it is cut.
use Rattle.std.proofs.Common.{◌≡◌, ℕ, Bool, true, false, List, [], map, sym, ap, ◌∙◌}
use Rattle.std.specs.Prelude.{nat_lt}
use Rattle.std.proofs.lemmas.Bool.{cond-true, cond-false, or_left, or_right, or_from}
use Rattle.ox_types.specs.declared.log.Head.{Head}
use Rattle.ox_types.specs.declared.durable.Action.{Action}
use Rattle.ox_types.specs.declared.durable.KeptAs.{KeptAs}
use Rattle.ox_types.specs.Durable.{DurableState, head_of}
use Rattle.ox_machine.specs.Meaning.{Meaning}
use Rattle.ox_solo_replica.specs.declared.input.Input.{Input}
use Rattle.ox_solo_replica.specs.declared.live.Live.{Live}
use Rattle.ox_solo_replica.specs.declared.plan.Plan.{Plan}
use Rattle.ox_solo_replica.specs.declared.output.Cut.TheVariants.{Whole, Down}
use Rattle.ox_solo_replica.specs.declared.output.Output.{Output}
use Rattle.ox_solo_replica.specs.Cutting.{calls_of, stands_at, cut_step, disk_behind}
use Rattle.ox_solo_replica.specs.Kept.{kept_as}
use Rattle.ox_solo_replica.specs.Plans.{planned}
use Rattle.ox_solo_replica.specs.State.{ReplicaState, folded_all}
use Rattle.ox_solo_replica.specs.Step.{Stepped, output_of, row_of, replica_step}
use Rattle.ox_solo_replica.proofs.Stepping.{behind_is, kept_is}

module _ {S C R Q A : Type 0} (M : Meaning S C R Q A) (me all : ℕ) (r : ReplicaState S) (i : Input) (plan : Plan) (mid : Live S) (is : planned plan mid ≡ row_of M me all r i)
    (at : ℕ) (stands : Bool) (batch : List Action) (same : batch ≡ plan.batch.items) where
  abbrev step : Stepped S
  step = replica_step M me all r i

  calls_is : nat_lt (calls_of step.kept) at ≡ nat_lt (calls_of batch) at
  calls_is = sym (ap (λ (b : List Action). nat_lt (calls_of b) at) (same ∙ kept_is M me all r i plan mid is))

  disk_is : folded_all r.disk batch ≡ step.state.disk
  disk_is = ap (λ (b : List Action). folded_all r.disk b) same ∙ behind_is M me all r i plan mid is

  -- it makes fewer calls
  module _ (whole : Bool) (tested : whole ≡ nat_lt (calls_of batch) at) (yes : whole ≡ true) where
    fewer : nat_lt (calls_of step.kept) at ≡ true
    fewer = calls_is ∙ sym tested ∙ yes

    pub whole_cut : (output : Output) → output ≡ output_of step → Whole output ≡ cut_step r.disk step at stands
    whole_cut output o = ap (λ (x : Output). Whole x) o ∙ sym (cond-true _ _ _ fewer)

    pub whole_disk : (after : DurableState) → after ≡ folded_all r.disk batch → after ≡ disk_behind r.disk step at stands
    whole_disk after kept = kept ∙ disk_is ∙ sym (cond-true _ _ _ (or_left _ (stands_at at stands) fewer))

  -- it doesn't
  module _ (whole : Bool) (tested : whole ≡ nat_lt (calls_of batch) at) (no : whole ≡ false) where
    not_fewer : nat_lt (calls_of step.kept) at ≡ false
    not_fewer = calls_is ∙ sym tested ∙ no

    pub kept_cut : (kept : List KeptAs) (head : Head) (after : DurableState) → stands_at at stands ≡ true → kept ≡ map kept_as plan.batch.items → head ≡ head_of after → after ≡ folded_all r.disk batch
        → Down kept head ≡ cut_step r.disk step at stands
    kept_cut kept head after stood told ends held =
        ap (λ (k : List KeptAs). Down k head) (told ∙ ap (λ (b : List Action). map kept_as b) (kept_is M me all r i plan mid is))
        ∙ ap (λ (h : Head). Down (map kept_as step.kept) h) (ends ∙ ap (λ (d : DurableState). head_of d) (held ∙ disk_is))
        ∙ sym (cond-false _ _ _ not_fewer ∙ cond-true _ _ _ stood)

    pub kept_disk : (after : DurableState) → stands_at at stands ≡ true → after ≡ folded_all r.disk batch → after ≡ disk_behind r.disk step at stands
    kept_disk after stood held = held ∙ disk_is ∙ sym (cond-true _ _ _ (or_right (nat_lt (calls_of step.kept) at) _ stood))

    pub lost_cut : (kept : List KeptAs) (head : Head) → stands_at at stands ≡ false → kept ≡ [] → head ≡ head_of r.disk → Down kept head ≡ cut_step r.disk step at stands
    lost_cut kept head fell none ends =
        ap (λ (k : List KeptAs). Down k head) none ∙ ap (λ (h : Head). Down [] h) ends ∙ sym (cond-false _ _ _ not_fewer ∙ cond-false _ _ _ fell)

    pub lost_disk : stands_at at stands ≡ false → r.disk ≡ disk_behind r.disk step at stands
    lost_disk fell = sym (cond-false _ _ _ (or_from _ _ not_fewer fell))
