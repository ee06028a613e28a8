-- Schedules: which bytes spell one, and else the first bad line and the first rule that it breaks.
use Rattle.std.specs.Prelude.{◌≡◌, ◌⊎◌, ℕ, ◌+◌, Bool, true, not, ◌&&◌, ◌==◌, nat_le, Option, Some, None, List, [], ◌∷◌, ◌++◌, length, map, codes, decimal, Result, Ok, Err, if◌then◌else◌}
use Rattle.std.specs.List.{list_all, onto_first, join_with_byte}
use Rattle.std.specs.Str.{bytes_eq}
use Rattle.ox_types.specs.declared.ended.LineRule.{LineRule}
use Rattle.ox_types.specs.declared.ended.LineRule.TheVariants as rule
use Rattle.ox_schedule.specs.declared.fault.ScheduleFault.{ScheduleFault}
use Rattle.ox_schedule.specs.declared.fault.ScheduleFault.TheVariants as fault
use Rattle.ox_schedule.specs.Events.{Event}
use Rattle.ox_schedule.specs.declared.schedule.Places.{Places}
use Rattle.ox_schedule.specs.declared.schedule.First.{First}
use Rattle.ox_schedule.specs.declared.schedule.First.TheVariants.{Solo}
use Rattle.ox_schedule.specs.declared.schedule.Schedule.{Schedule}
use Rattle.ox_schedule.specs.Outcome.{◌>>=◌}
use Rattle.ox_schedule.specs.Spelling.{is_event, event_line, is_word, words_of}
use Rattle.ox_schedule.specs.Reading.{number_of, line_at}

-- The lines of a text. Each ends with a line feed, which the last may lack.
abbrev pub lines_of : List ℕ → List (List ℕ)
lines_of [] = []
lines_of (b ∷ bs) = if b == 10 then [] ∷ lines_of bs else onto_first b (lines_of bs)

-- ---- what spells a schedule

-- one node, and the shards that the first line says
abbrev pub places_of : First → Places
places_of (Solo shards blocks) = record { nodes = 1; shards = shards }

-- a number of blocks that a replica may have
abbrev pub is_block_count : ℕ → Bool
is_block_count n = nat_le 8 n && nat_le n 65536

-- the same of one that may be left out
abbrev pub is_room : Option ℕ → Bool
is_room None = true
is_room (Some n) = is_block_count n

-- until there are more, one shard
abbrev pub is_first : First → Bool
is_first (Solo shards blocks) = shards == 1 && is_room blocks

-- the word of a number of blocks, where there is one
abbrev pub room_words : Option ℕ → List (List ℕ)
room_words None = []
room_words (Some n) = decimal n ∷ []

-- the words of the first line
abbrev pub first_words : First → List (List ℕ)
first_words (Solo shards blocks) = codes "solo" ∷ decimal shards ∷ room_words blocks

-- a schedule of which each part can be spelt
pub record IsSchedule (s : Schedule) : Type 0 where
  pub first : is_first s.first ≡ true
  pub lawful : list_all (is_event (places_of s.first)) s.events ≡ true

-- the first line: its words with one space between two
unfoldable pub first_line : First → List ℕ
first_line f = join_with_byte 32 (first_words f)

-- The lines are the first line and those of the events.
pub record SpellsSchedule (bytes : List ℕ) (s : Schedule) : Type 0 where
  pub valid : IsSchedule s
  pub same : lines_of bytes ≡ first_line s.first ∷ map event_line s.events

-- ---- the first bad line

-- the rule that line `number` breaks
abbrev pub at_line : {A : Type 0} → ℕ → Result A LineRule → Result A (ℕ × LineRule)
at_line number (Ok x) = Ok x
at_line number (Err broken) = Err (number, broken)

-- the events behind those that are read already
abbrev pub with_front : List Event → Result (List Event) (ℕ × LineRule) → Result (List Event) (ℕ × LineRule)
with_front front (Ok es) = Ok (front ++ es)
with_front front (Err bad) = Err bad

-- an event and the others, or the first bad line
abbrev pub event_then : Result Event (ℕ × LineRule) → Result (List Event) (ℕ × LineRule) → Result (List Event) (ℕ × LineRule)
event_then (Ok e) others = with_front (e ∷ []) others
event_then (Err bad) others = Err bad

-- the events of the lines from line `number` on
abbrev pub events_at : Places → ℕ → List (List ℕ) → Result (List Event) (ℕ × LineRule)
events_at places number [] = Ok []
events_at places number (line ∷ lines) = event_then (at_line number (line_at places line)) (events_at places (number + 1) lines)

-- how many shards a word says
unfoldable pub shard_count_of : List ℕ → Result ℕ LineRule
shard_count_of w = number_of w >>= λ n. if n == 1 then Ok n else Err rule.Number

-- how many blocks a word says
unfoldable pub block_count_of : List ℕ → Result ℕ LineRule
block_count_of w = number_of w >>= λ n. if is_block_count n then Ok n else Err rule.Number

-- the words behind `solo`: how many shards, and how many blocks where it says so
unfoldable pub solo_of : List (List ℕ) → Result First LineRule
solo_of [] = Err rule.First
solo_of (s ∷ []) = shard_count_of s >>= λ shards. Ok (Solo shards None)
solo_of (s ∷ b ∷ []) = shard_count_of s >>= λ shards. block_count_of b >>= λ n. Ok (Solo shards (Some n))
solo_of (s ∷ b ∷ x ∷ ws) = Err rule.First

-- what the words of the first line say
unfoldable pub first_of : List (List ℕ) → Result First LineRule
first_of [] = Err rule.First
first_of (w ∷ ws) = if bytes_eq w (codes "solo") then solo_of ws else Err rule.First

-- what the first line says, or the first rule that it breaks
unfoldable pub first_at : List ℕ → Result First LineRule
first_at line = if length line == 0 then Err rule.First else (if not (list_all is_word (words_of line)) then Err rule.Bytes else first_of (words_of line))

-- the schedule of a first line and what is read behind it
abbrev pub schedule_with : First → Result (List Event) (ℕ × LineRule) → Result Schedule (ℕ × LineRule)
schedule_with first (Ok es) = Ok (record { first = first; events = es })
schedule_with first (Err bad) = Err bad

-- the lines behind the first one are read only where it is good
abbrev pub behind_first : Result First (ℕ × LineRule) → List (List ℕ) → Result Schedule (ℕ × LineRule)
behind_first (Ok first) lines = schedule_with first (events_at (places_of first) 2 lines)
behind_first (Err bad) lines = Err bad

-- the schedule that the lines say
abbrev pub schedule_in : List (List ℕ) → Result Schedule (ℕ × LineRule)
schedule_in [] = Err (1, rule.First)
schedule_in (line ∷ lines) = behind_first (at_line 1 (first_at line)) lines

-- The schedule that the bytes spell, or the first bad line and the first rule that it breaks.
abbrev pub schedule_at : List ℕ → Result Schedule (ℕ × LineRule)
schedule_at bytes = schedule_in (lines_of bytes)

-- a fault says what reading gives, unless memory ran out
abbrev pub Fails : {Y : Type 0} → ScheduleFault → Result Y (ℕ × LineRule) → Type 0
Fails fault.NoMemory read = Unit {0}
Fails (fault.BadLine line broken) read = read ≡ Err (line, broken)

-- what a function returned is what reading gives, unless memory ran out
abbrev pub Answers : {Y : Type 0} → Result Y ScheduleFault → Result Y (ℕ × LineRule) → Type 0
Answers (Ok x) read = read ≡ Ok x
Answers (Err e) read = Fails e read

-- ---- which line is the first bad one

-- the first of the lines, an empty one where there are none
abbrev pub first_text : List (List ℕ) → List ℕ
first_text [] = []
first_text (line ∷ lines) = line

-- line 1 breaks the rule
pub record BreaksFirst (bytes : List ℕ) (number : ℕ) (broken : LineRule) : Type 0 where
  pub number_is : number ≡ 1
  pub rule_is : first_at (first_text (lines_of bytes)) ≡ Err broken

-- the lines before this one spell a schedule, and it breaks the rule
pub record BreaksBehind (bytes : List ℕ) (number : ℕ) (broken : LineRule) : Type 0 where
  pub front : Schedule
  pub line : List ℕ
  pub rest : List (List ℕ)
  pub valid : IsSchedule front
  pub lines : lines_of bytes ≡ first_line front.first ∷ map event_line front.events ++ line ∷ rest
  pub number_is : number ≡ length front.events + 2
  pub rule_is : line_at (places_of front.first) line ≡ Err broken

-- The first bad line, and the first rule that it breaks.
abbrev pub IsFirstBadLine : List ℕ → ℕ → LineRule → Type 0
IsFirstBadLine bytes number broken = BreaksFirst bytes number broken ⊎ BreaksBehind bytes number broken

-- a fault tells the first bad line, unless memory ran out
abbrev pub IsFaultOf : List ℕ → ScheduleFault → Type 0
IsFaultOf bytes fault.NoMemory = Unit {0}
IsFaultOf bytes (fault.BadLine line broken) = IsFirstBadLine bytes line broken
