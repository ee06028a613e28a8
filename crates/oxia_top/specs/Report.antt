-- The text of a run.
use Rattle.std.specs.Prelude.{ℕ, ◌+◌, List, [], ◌∷◌, ◌++◌, map, Option, Some, None, codes, decimal}
use Rattle.std.specs.List.{flat_map}
use Rattle.ox_ops.specs.State.{ShardState}
use Rattle.ox_meaning.specs.Shard.{shard_meaning}
use Rattle.ox_schedule.specs.Events.{Event}
use Rattle.ox_schedule.specs.declared.schedule.First.{First}
use Rattle.ox_schedule.specs.declared.schedule.First.TheVariants.{Solo}
use Rattle.ox_schedule.specs.declared.schedule.Schedule.{Schedule}
use Rattle.ox_schedule.specs.Spelling.{event_line}
use Rattle.ox_report.specs.Effect.{effect_line}
use Rattle.ox_report.specs.History.{history_text}
use Rattle.ox_wire.specs.Effects.{Effect}
use Rattle.ox_wire.specs.Events.{RunEvent as HappensNext}
use Rattle.ox_solo_safety.specs.World.{World, opening_world}
use Rattle.ox_solo_safety.specs.Run.{Moment, run_of, world_after}
use Rattle.oxia_top.specs.Events.{event_of}

-- how many blocks a replica has where the first line doesn't say it
abbrev pub default_blocks : ℕ
default_blocks = 1024

abbrev pub blocks_or_default : Option ℕ → ℕ
blocks_or_default None = default_blocks
blocks_or_default (Some blocks) = blocks

-- how many blocks each replica has
abbrev pub blocks_of : First → ℕ
blocks_of (Solo shards blocks) = blocks_or_default blocks

-- the events of a schedule, whose requests are bytes
abbrev pub events_of : Schedule → List HappensNext
events_of s = map event_of s.events

-- an event behind its number, as it was read
abbrev pub numbered_line : ℕ → Event → List ℕ
numbered_line number e = codes "@" ++ decimal number ++ codes " " ++ event_line e ++ 10 ∷ []

-- an event and its effects
abbrev pub moment_text : ℕ → Event → List Effect → List ℕ
moment_text number e effects = numbered_line number e ++ flat_map effect_line effects

-- the lines that were read, each with what was seen of it
abbrev pub moments_text : {S : Type 0} → ℕ → List Event → List (Moment S) → List ℕ
moments_text number [] ms = []
moments_text number (e ∷ es) [] = []
moments_text number (e ∷ es) (m ∷ ms) = moment_text number e m.effects ++ moments_text (number + 1) es ms

-- what stands behind the last event
abbrev pub end_text : {S : Type 0} → World S → List ℕ
end_text w = history_text w.origins 0 w.history

-- the world behind the last event
abbrev pub last_world : Schedule → World ShardState
last_world s = world_after shard_meaning (blocks_of s.first) (opening_world shard_meaning) (events_of s)

-- The report of the run of a schedule.
unfoldable pub report_of : Schedule → List ℕ
report_of s = moments_text 1 s.events (run_of shard_meaning (blocks_of s.first) (events_of s)) ++ end_text (last_world s)
