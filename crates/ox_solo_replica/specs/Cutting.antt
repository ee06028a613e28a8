-- A step that is cut inside a call of the disks. A batch makes four: the record is written and synced, and then its gate.
use Rattle.std.specs.Prelude.{ℕ, nat_le, nat_lt, Bool, ◌&&◌, ◌||◌, List, [], ◌∷◌, map, if◌then◌else◌}
use Rattle.ox_types.specs.declared.durable.Action.{Action}
use Rattle.ox_types.specs.Durable.{DurableState, head_of}
use Rattle.ox_solo_replica.specs.declared.output.Cut.{Cut}
use Rattle.ox_solo_replica.specs.declared.output.Cut.TheVariants.{Whole, Down}
use Rattle.ox_solo_replica.specs.Kept.{kept_as}
use Rattle.ox_solo_replica.specs.Step.{Stepped, output_of}

-- how many calls of the disks keep a batch
abbrev pub calls_of : List Action → ℕ
calls_of [] = 0
calls_of (a ∷ actions) = 4

-- does a step that is cut inside this call keep its batch? The gate is written, and what was written stands.
abbrev pub stands_at : ℕ → Bool → Bool
stands_at at stands = nat_le 3 at && stands

-- what is told of a step that is cut: it is whole where it makes fewer calls
abbrev pub cut_step : {S : Type 0} → DurableState → Stepped S → ℕ → Bool → Cut
cut_step before step at stands =
    if nat_lt (calls_of step.kept) at then Whole (output_of step)
    else
    (if stands_at at stands then Down (map kept_as step.kept) (head_of step.state.disk)
    else Down [] (head_of before))

-- the state that the disks stand for behind it
abbrev pub disk_behind : {S : Type 0} → DurableState → Stepped S → ℕ → Bool → DurableState
disk_behind before step at stands =
    if nat_lt (calls_of step.kept) at || stands_at at stands then step.state.disk else before
