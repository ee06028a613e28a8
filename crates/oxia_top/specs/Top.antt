-- How a command ends.
use Rattle.std.specs.Prelude.{◌≡◌, ℕ, ◌≤◌, List, [], ◌∷◌, length, take, Option, Some, None, codes, if◌then◌else◌, ◌⊎◌}
use Rattle.std.specs.Str.{bytes_eq}
use Rattle.ox_outside.specs.Stream.{Stream, Appends}
use Rattle.ox_outside.specs.Causes.{Rose}
use Rattle.ox_types.specs.declared.ended.LineRule.{LineRule}
use Rattle.ox_types.specs.declared.ended.Ended.{Ended}
use Rattle.ox_types.specs.declared.ended.Ended.TheVariants.{Done, Usage, BadLine, ReadFault, WriteFault, NoMemory, InputTooLong}
use Rattle.ox_schedule.specs.declared.schedule.Schedule.{Schedule}
use Rattle.ox_schedule.specs.Schedule.{SpellsSchedule, IsFirstBadLine}
use Rattle.ox_meaning.specs.Shard.{shard_meaning}
use Rattle.ox_solo_safety.specs.Legal.{IsLegal}
use Rattle.ox_solo_safety.specs.Shard.{shard_noticing}
use Rattle.oxia_top.specs.Report.{report_of, blocks_of, events_of}
use Rattle.oxia_top.specs.Input.{input_limit, ReadsToEnd, ReadsTooMuch, ReadBreaksOff}

-- what the source and the sink show before a command and after it
pub record Outside : Type 0 where
  pub source : Stream
  pub source_after : Stream
  pub sink : Stream
  pub sink_after : Stream

-- the index of the first word that is wrong, or the number of words where one is missing; none where they are a command
abbrev pub wrong_word : List (List ℕ) → Option ℕ
wrong_word [] = Some 0
wrong_word (w ∷ []) = if bytes_eq w (codes "replay") then None else Some 0
wrong_word (w ∷ x ∷ more) = if bytes_eq w (codes "replay") then Some 1 else Some 0

-- The text is the report of the run of the schedule that all of the input spells, and that run is legal.
pub record Reports (old new : Stream) (text : List ℕ) : Type 0 where
  pub schedule : Schedule
  pub bytes : List ℕ
  pub read : ReadsToEnd old new bytes
  pub spelt : SpellsSchedule bytes schedule
  pub told : text ≡ report_of schedule
  pub legal : IsLegal shard_meaning (blocks_of schedule.first) (events_of schedule) shard_noticing

-- the input was read to its end and spells no schedule: its first bad line, and the first rule that it breaks
pub record ReadsBadLine (old new : Stream) (line : ℕ) (rule : LineRule) : Type 0 where
  pub bytes : List ℕ
  pub read : ReadsToEnd old new bytes
  pub unspelt : (s : Schedule) → ¬ (SpellsSchedule bytes s)
  pub first : IsFirstBadLine bytes line rule

-- why there is no text to write
abbrev pub Stops : Stream → Stream → Ended → Type 0
Stops old new (BadLine line rule) = ReadsBadLine old new line rule
Stops old new ReadFault = ReadBreaksOff old new
Stops old new InputTooLong = ReadsTooMuch old new
Stops old new NoMemory = Unit {0}
Stops old new Done = ⊥
Stops old new (Usage word) = ⊥
Stops old new WriteFault = ⊥

-- a front of the bytes was written
pub record WritesFront (old new : Stream) (bytes : List ℕ) : Type 0 where
  pub count : ℕ
  pub added : Appends old.told new.told (take count bytes)

-- the whole report is written
pub record WritesReport (o : Outside) : Type 0 where
  pub text : List ℕ
  pub reports : Reports o.source o.source_after text
  pub written : Appends o.sink.told o.sink_after.told text

-- a front of the report is written, and the sink failed
pub record BreaksOff (o : Outside) : Type 0 where
  pub text : List ℕ
  pub reports : Reports o.source o.source_after text
  pub written : WritesFront o.sink o.sink_after text
  pub rose : Rose o.sink.faults o.sink_after.faults

-- nothing is written: the sink is as it was
pub record WritesNothing (o : Outside) (ended : Ended) : Type 0 where
  pub stops : Stops o.source o.source_after ended
  pub kept : o.sink_after ≡ o.sink

-- `replay` ended so
abbrev pub Replays : Outside → Ended → Type 0
Replays o Done = WritesReport o
Replays o (Usage word) = ⊥
Replays o (BadLine line rule) = WritesNothing o (BadLine line rule)
Replays o ReadFault = WritesNothing o ReadFault
Replays o WriteFault = BreaksOff o
Replays o NoMemory = WritesNothing o NoMemory
Replays o InputTooLong = WritesNothing o InputTooLong

-- words that are no command touch nothing outside
abbrev pub EndsBy : Option ℕ → Outside → Ended → Type 0
EndsBy (Some word) o ended = (ended ≡ Usage word) × (o.source_after ≡ o.source) × (o.sink_after ≡ o.sink)
EndsBy None o ended = Replays o ended

-- The command that the words are ended so.
abbrev pub Ends : List (List ℕ) → Outside → Ended → Type 0
Ends words o ended = EndsBy (wrong_word words) o ended

-- the words are `replay`, the input is within the limit and spells a schedule, and neither the source nor the sink fails
pub record MustReplay (words : List (List ℕ)) (o : Outside) (bytes : List ℕ) (s : Schedule) : Type 0 where
  pub command : wrong_word words ≡ None
  pub known : o.source.told ≡ Some bytes
  pub spelt : SpellsSchedule bytes s
  pub short : length bytes ≤ input_limit
  pub reads : ¬ (Rose o.source.faults o.source_after.faults)
  pub writes : ¬ (Rose o.sink.faults o.sink_after.faults)

-- an input that spells a schedule is replayed, unless memory ran out
abbrev pub IsComplete : List (List ℕ) → Outside → Ended → Type 0
IsComplete words o ended = (bytes : List ℕ) (s : Schedule) → MustReplay words o bytes s → (ended ≡ Done) ⊎ (ended ≡ NoMemory)
