use Rattle.std.proofs.Common.{arith}
use Rattle.std.proofs.lemmas.Option.{slice_get-get_or}
use Rattle.ox_wire.specs.declared.origin.Cause.TheVariants.{Opening}
use Rattle.ox_wire.specs.declared.origin.Origin.{Origin}
use Rattle.ox_report.proofs.OriginLemmas.{cause_here}
use Rattle.ox_report.proofs.history.cause_at.Goals as goal

-- what stands past the end
abbrev no_origin : Origin
no_origin = record { shard = 0; term = 0; offset = 0; cause = Opening }

pub returns : goal.returns
returns c = cause_here c.args.history.now c.args.origins.now c.args.at _ c.requires.in_step (slice_get-get_or c.args.origins.now c.args.at no_origin (omega (arith, c.requires.within, c.requires.in_step.enough)))
