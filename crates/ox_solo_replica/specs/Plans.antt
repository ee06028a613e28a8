-- What a plan of the program says, and of which row it is the plan.
use Rattle.std.specs.Prelude.{◌≡◌, Bool, List}
use Rattle.ox_types.specs.declared.durable.Action.{Action}
use Rattle.ox_solo_replica.specs.declared.live.Live.{Live}
use Rattle.ox_solo_replica.specs.declared.output.Outgoing.{Outgoing}
use Rattle.ox_solo_replica.specs.declared.output.Answered.{Answered}
use Rattle.ox_solo_replica.specs.declared.plan.Plan.{Plan}
use Rattle.ox_solo_replica.specs.State.{Row}

-- it keeps this batch, advances or not, and sends and answers this
abbrev pub Says : Plan → List Action → Bool → List Outgoing → List Answered → Type 0
Says plan batch advances sends replies = (plan.batch.items ≡ batch) × (plan.advances ≡ advances) × (plan.sends ≡ sends) × (plan.replies ≡ replies)

-- the row of a plan and of what is known beside the disks
abbrev pub planned : {S : Type 0} → Plan → Live S → Row S
planned plan live = record { kept = plan.batch.items; live = live; advances = plan.advances; sends = plan.sends; replies = plan.replies }
