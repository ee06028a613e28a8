-- An action as a report shows it.
use Rattle.std.specs.Prelude.{length}
use Rattle.ox_types.specs.declared.durable.Action.{Action}
use Rattle.ox_types.specs.declared.durable.Action.TheVariants as action
use Rattle.ox_types.specs.declared.durable.KeptAs.{KeptAs}
use Rattle.ox_types.specs.declared.durable.KeptAs.TheVariants as kept_is

abbrev pub kept_as : Action → KeptAs
kept_as (action.Term t) = kept_is.Term t
kept_as (action.Attach count) = kept_is.Attach count
kept_as action.Lead = kept_is.Lead
kept_as (action.Append entries) = kept_is.Append (length entries)
kept_as (action.Restore term seat head saved) = kept_is.Install head
