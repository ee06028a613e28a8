-- A step that is cut: which way it went.
use Rattle.std.proofs.Common.{◌≡◌, Bool, true, false, List, [], map, refl, if◌then◌else◌}
use Rattle.ox_types.specs.declared.durable.KeptAs.{KeptAs}
use Rattle.ox_types.specs.declared.log.Head.{Head}
use Rattle.ox_types.specs.Durable.{DurableState, head_of}
use Rattle.ox_ops.specs.State.{ShardState}
use Rattle.ox_solo_replica.specs.declared.output.Cut.TheVariants.{Whole, Down}
use Rattle.ox_solo_replica.specs.declared.output.Output.{Output}
use Rattle.ox_solo_replica.specs.Kept.{kept_as}
use Rattle.ox_solo_replica.specs.Step.{Stepped, output_of}

-- it is whole where it makes fewer calls
pub whole_by : (d : DurableState) (step : Stepped ShardState) (b s : Bool) (output : Output)
    → (if b then Whole (output_of step) else (if s then Down (map kept_as step.kept) (head_of step.state.disk) else Down [] (head_of d))) ≡ Whole output
    → (b ≡ true) × (output ≡ output_of step)
whole_by d step true s output h = (refl, cc)
whole_by d step false true output h = absurd cc
whole_by d step false false output h = absurd cc

-- what a cut leaves, with the batch or without it
pub record IsDown (d : DurableState) (step : Stepped ShardState) (s : Bool) (kept : List KeptAs) (head : Head) : Type 0 where
  pub kept_are : kept ≡ (if s then map kept_as step.kept else [])
  pub head_is : head ≡ (if s then head_of step.state.disk else head_of d)

pub down_by : (d : DurableState) (step : Stepped ShardState) (b s : Bool) (kept : List KeptAs) (head : Head)
    → (if b then Whole (output_of step) else (if s then Down (map kept_as step.kept) (head_of step.state.disk) else Down [] (head_of d))) ≡ Down kept head
    → (b ≡ false) × IsDown d step s kept head
down_by d step true s kept head h = absurd cc
down_by d step false true kept head h = (refl, record { kept_are = cc; head_is = cc })
down_by d step false false kept head h = (refl, record { kept_are = cc; head_is = cc })
