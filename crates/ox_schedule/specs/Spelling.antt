-- The grammar of a line: the words of each construct, and which constructs are lawful. A line is the words of its event.
use Rattle.std.specs.Prelude.{◌≡◌, ℕ, ◌^◌, Bool, true, false, not, ◌&&◌, ◌||◌, ◌==◌, nat_le, nat_lt, List, [], ◌∷◌, ◌++◌, length, map, Option, Some, None, codes, decimal, if◌then◌else◌}
use Rattle.std.specs.List.{list_all, flat_map, slice_split, join_with_byte}
use Rattle.ox_types.specs.Limits.{term_limit}
use Rattle.ox_bytes.specs.Fields as field
use Rattle.ox_text.specs.Words.{spelt, value_word, lo_word, hi_word, range_words}
use Rattle.ox_ops.specs.Forms as form
use Rattle.ox_order.specs.declared.range.Lo.{Lo}
use Rattle.ox_order.specs.declared.range.Lo.TheVariants.{Start, At, Past}
use Rattle.ox_order.specs.declared.range.Hi.{Hi}
use Rattle.ox_order.specs.declared.range.Hi.TheVariants.{End, Before}
use Rattle.ox_order.specs.declared.range.KeyRange.{KeyRange}
use Rattle.ox_ops.specs.declared.write.Expect.{Expect}
use Rattle.ox_ops.specs.declared.write.Expect.TheVariants.{Any, Absent, Exactly}
use Rattle.ox_ops.specs.declared.write.IndexEntry.{IndexEntry}
use Rattle.ox_ops.specs.declared.write.Put.{Put}
use Rattle.ox_ops.specs.declared.write.Delete.{Delete}
use Rattle.ox_ops.specs.declared.write.WriteBatch.{WriteBatch}
use Rattle.ox_ops.specs.declared.write.ShardCommand.{ShardCommand}
use Rattle.ox_ops.specs.declared.write.ShardCommand.TheVariants as command
use Rattle.ox_ops.specs.declared.query.Compare.{Compare}
use Rattle.ox_ops.specs.declared.query.Compare.TheVariants.{Equal, Floor, Ceiling, Lower, Higher}
use Rattle.ox_ops.specs.declared.query.ShardQuery.{ShardQuery}
use Rattle.ox_ops.specs.declared.query.ShardQuery.TheVariants as query
use Rattle.ox_schedule.specs.declared.schedule.Grouping.{Grouping}
use Rattle.ox_schedule.specs.declared.schedule.Grouping.TheVariants as grouping
use Rattle.ox_schedule.specs.declared.schedule.Request.{Request}
use Rattle.ox_schedule.specs.declared.schedule.Request.TheVariants.{Write, Read}
use Rattle.ox_wire.specs.declared.event.Image.{Image}
use Rattle.ox_wire.specs.declared.event.Image.TheVariants as image
use Rattle.ox_schedule.specs.Events.{Turn, Event}
use Rattle.ox_wire.specs.declared.event.Turn.TheVariants.{Client, Deliver, Tick}
use Rattle.ox_wire.specs.declared.event.Event.TheVariants as event
use Rattle.ox_schedule.specs.declared.schedule.Places.{Places}

-- ---- bytes and numbers

-- a number that a byte can be
abbrev pub is_byte : ℕ → Bool
is_byte b = nat_lt b 256

-- bytes that are a key
unfoldable pub is_key : List ℕ → Bool
is_key key = list_all is_byte key && field.is_key key

-- bytes that are a value
unfoldable pub is_value : List ℕ → Bool
is_value value = list_all is_byte value && field.is_value value

-- bytes that are the name of an index
unfoldable pub is_name : List ℕ → Bool
is_name name = list_all is_byte name && form.is_name name

-- a number of a schedule is any u64
abbrev pub is_number : ℕ → Bool
is_number n = nat_lt n (2 ^ 64)

-- no items
abbrev pub is_empty : {A : Type 0} → List A → Bool
is_empty xs = length xs == 0

-- ---- options

-- the option of an expectation, where it isn't that of anything
abbrev pub expect_words : Expect → List (List ℕ)
expect_words Any = []
expect_words Absent = codes "expect=absent" ∷ []
expect_words (Exactly n) = (codes "expect=" ++ decimal n) ∷ []

-- an expectation that can be spelt
abbrev pub is_expect : Expect → Bool
is_expect Any = true
is_expect Absent = true
is_expect (Exactly n) = is_number n

-- the option of a session, where there is one
abbrev pub session_words : Option ℕ → List (List ℕ)
session_words None = []
session_words (Some id) = (codes "session=" ++ decimal id) ∷ []

-- a session that can be spelt
abbrev pub is_session : Option ℕ → Bool
is_session None = true
is_session (Some id) = is_number id

-- numbers with a comma between two
abbrev pub numbers_text : List ℕ → List ℕ
numbers_text ns = join_with_byte 44 (map decimal ns)

-- the option of the deltas, where there are any
abbrev pub deltas_words : List ℕ → List (List ℕ)
deltas_words [] = []
deltas_words (d ∷ ds) = (codes "seq=" ++ numbers_text (d ∷ ds)) ∷ []

-- the option of an index entry: its name, a colon and its key
abbrev pub entry_word : IndexEntry → List ℕ
entry_word e = codes "index=" ++ (spelt e.name ++ (codes ":" ++ spelt e.key))

-- an index entry that can be spelt
abbrev pub is_entry : IndexEntry → Bool
is_entry e = is_name e.name && is_key e.key

-- the option of an index, where a read goes by one
abbrev pub by_words : Option (List ℕ) → List (List ℕ)
by_words None = []
by_words (Some name) = (codes "by=" ++ spelt name) ∷ []

-- an index that can be spelt
abbrev pub is_by : Option (List ℕ) → Bool
is_by None = true
is_by (Some name) = is_name name

-- ---- ranges

-- a low end that can be spelt
abbrev pub is_lo : Lo → Bool
is_lo Start = true
is_lo (At key) = is_key key
is_lo (Past key) = is_key key

-- a high end that can be spelt
abbrev pub is_hi : Hi → Bool
is_hi End = true
is_hi (Before key) = is_key key

-- a range that can be spelt
abbrev pub is_range : KeyRange → Bool
is_range r = is_lo r.lo && is_hi r.hi

-- ---- operations

-- the options of a put, in their order
abbrev pub put_options : Put → List (List ℕ)
put_options p = expect_words p.expect ++ (session_words p.session ++ (deltas_words p.deltas ++ map entry_word p.indexes))

-- behind `put`: the key, the value and the options
abbrev pub put_words : Put → List (List ℕ)
put_words p = spelt p.key ∷ value_word p.value ∷ put_options p

-- options that can be spelt
abbrev pub are_options : Put → Bool
are_options p = is_expect p.expect && is_session p.session && list_all is_number p.deltas && list_all is_entry p.indexes

-- a put that can be spelt
abbrev pub is_put : Put → Bool
is_put p = is_key p.key && is_value p.value && are_options p

-- behind `delete`: the key and the option
abbrev pub delete_words : Delete → List (List ℕ)
delete_words d = spelt d.key ∷ expect_words d.expect

-- a delete that can be spelt
abbrev pub is_delete : Delete → Bool
is_delete d = is_key d.key && is_expect d.expect

-- a put with its word
abbrev pub put_op : Put → List (List ℕ)
put_op p = codes "put" ∷ put_words p

-- the same of a delete
abbrev pub delete_op : Delete → List (List ℕ)
delete_op d = codes "delete" ∷ delete_words d

-- the same of a range delete
abbrev pub range_op : KeyRange → List (List ℕ)
range_op r = codes "deleterange" ∷ range_words r

-- the operations of a batch, puts, then deletes, then ranges
abbrev pub batch_ops : WriteBatch → List (List (List ℕ))
batch_ops b = map put_op b.puts ++ map delete_op b.deletes ++ map range_op b.ranges

-- with + between two
abbrev pub joined : List (List (List ℕ)) → List (List ℕ)
joined [] = []
joined (op ∷ []) = op
joined (op ∷ next ∷ ops) = op ++ (codes "+" ∷ joined (next ∷ ops))

-- each operation can be spelt
abbrev pub are_lawful : WriteBatch → Bool
are_lawful b = list_all is_put b.puts && list_all is_delete b.deletes && list_all is_range b.ranges

-- one operation by itself, one or more in a batch
abbrev pub is_grouped : Grouping → ℕ → Bool
is_grouped grouping.Alone count = count == 1
is_grouped grouping.Batch count = not (count == 0)

-- what isn't an operation stands by itself
abbrev pub is_alone : Grouping → Bool
is_alone grouping.Alone = true
is_alone grouping.Batch = false

-- the word before the operations
abbrev pub grouping_words : Grouping → List (List ℕ)
grouping_words grouping.Alone = []
grouping_words grouping.Batch = codes "batch" ∷ []

-- ---- requests and events

-- the words of a command
abbrev pub command_words : Grouping → ShardCommand → List (List ℕ)
command_words g (command.Write b) = grouping_words g ++ joined (batch_ops b)
command_words g (command.Open timeout) = codes "open" ∷ decimal timeout ∷ []
command_words g (command.Close session) = codes "close" ∷ decimal session ∷ []
command_words g (command.Expire session) = codes "expire" ∷ decimal session ∷ []

-- a command that can be spelt: a write, an open or a close, as leaders alone make an expiry
abbrev pub is_command : Grouping → ShardCommand → Bool
is_command g (command.Write b) = are_lawful b && is_grouped g (length (batch_ops b))
is_command g (command.Open timeout) = is_alone g && is_number timeout
is_command g (command.Close session) = is_alone g && is_number session
is_command g (command.Expire session) = false

-- the word of a comparison
abbrev pub compare_word : Compare → List ℕ
compare_word Equal = codes "equal"
compare_word Floor = codes "floor"
compare_word Ceiling = codes "ceiling"
compare_word Lower = codes "lower"
compare_word Higher = codes "higher"

-- the words of a query
abbrev pub query_words : ShardQuery → List (List ℕ)
query_words (query.Get compare key by) = codes "get" ∷ compare_word compare ∷ spelt key ∷ by_words by
query_words (query.List r by) = codes "list" ∷ range_words r ++ by_words by
query_words (query.Scan r by) = codes "scan" ∷ range_words r ++ by_words by
query_words (query.Notices past skip) = codes "notices" ∷ decimal past ∷ decimal skip ∷ []
query_words (query.KeepAlive session) = codes "keep" ∷ decimal session ∷ []

-- a query that can be spelt
abbrev pub is_query : ShardQuery → Bool
is_query (query.Get compare key by) = is_key key && is_by by
is_query (query.List r by) = is_range r && is_by by
is_query (query.Scan r by) = is_range r && is_by by
is_query (query.Notices past skip) = is_number past && is_number skip
is_query (query.KeepAlive session) = is_number session

-- the words of a request
abbrev pub request_words : Request → List (List ℕ)
request_words (Write g command) = command_words g command
request_words (Read query) = query_words query

-- a request that can be spelt
abbrev pub is_request : Request → Bool
is_request (Write g command) = is_command g command
is_request (Read query) = is_query query

-- the words of what an actor takes
abbrev pub turn_words : Turn → List (List ℕ)
turn_words (Client node shard r) = codes "client" ∷ decimal node ∷ decimal shard ∷ request_words r
turn_words (Deliver message) = codes "deliver" ∷ decimal message ∷ []
turn_words (Tick node shard ms) = codes "tick" ∷ decimal node ∷ decimal shard ∷ decimal ms ∷ []

-- the word of what a cut leaves
abbrev pub image_word : Image → List ℕ
image_word image.Nothing = codes "none"
image_word image.Kept = codes "kept"
image_word image.Torn = codes "torn"

-- the words of an event
abbrev pub event_words : Event → List (List ℕ)
event_words (event.Takes t) = turn_words t
event_words (event.Cut call i t) = codes "cut" ∷ decimal call ∷ image_word i ∷ turn_words t
event_words (event.Stop node) = codes "stop" ∷ decimal node ∷ []
event_words (event.Start node) = codes "start" ∷ decimal node ∷ []
event_words (event.Lose node) = codes "lose" ∷ decimal node ∷ []
event_words (event.Fence node shard term) = codes "fence" ∷ decimal node ∷ decimal shard ∷ decimal term ∷ []
event_words (event.Lead node shard term) = codes "lead" ∷ decimal node ∷ decimal shard ∷ decimal term ∷ []

-- the line of an event: its words with one space between two
unfoldable pub event_line : Event → List ℕ
event_line e = join_with_byte 32 (event_words e)

-- nodes are numbered from 1
abbrev pub is_node : Places → ℕ → Bool
is_node p n = nat_le 1 n && nat_le n p.nodes

-- shards are numbered from 0
abbrev pub is_shard : Places → ℕ → Bool
is_shard p s = nat_lt s p.shards

-- a node that can be spelt and is there
abbrev pub names_node : Places → ℕ → Bool
names_node p n = is_number n && is_node p n

-- the same of a shard
abbrev pub names_shard : Places → ℕ → Bool
names_shard p s = is_number s && is_shard p s

-- device calls are counted from 1
abbrev pub is_call : ℕ → Bool
is_call n = nat_le 1 n

-- a term is 1 to 2^53
abbrev pub is_term : ℕ → Bool
is_term n = nat_le 1 n && nat_le n term_limit

-- what an actor takes, at a node and a shard that are there where it names one
abbrev pub is_turn : Places → Turn → Bool
is_turn p (Client node shard r) = names_node p node && names_shard p shard && is_request r
is_turn p (Deliver message) = is_number message
is_turn p (Tick node shard ms) = names_node p node && names_shard p shard && is_number ms

-- a term that can be spelt, at a node and a shard that are there
abbrev pub is_seat : Places → ℕ → ℕ → ℕ → Bool
is_seat p node shard term = names_node p node && names_shard p shard && (is_number term && is_term term)

-- an event at a node and a shard that are there where it names one
abbrev pub is_event : Places → Event → Bool
is_event p (event.Takes t) = is_turn p t
is_event p (event.Cut call i t) = is_number call && is_call call && is_turn p t
is_event p (event.Stop node) = names_node p node
is_event p (event.Start node) = names_node p node
is_event p (event.Lose node) = names_node p node
is_event p (event.Fence node shard term) = is_seat p node shard term
is_event p (event.Lead node shard term) = is_seat p node shard term

-- the line spells the event, among these places
pub record SpellsEvent (places : Places) (line : List ℕ) (e : Event) : Type 0 where
  pub lawful : is_event places e ≡ true
  pub same : line ≡ event_line e

-- ---- words

-- the words of a line, between one space and the next
abbrev pub words_of : List ℕ → List (List ℕ)
words_of line = slice_split (λ b. b == 32) line

-- printable ASCII, and no space
abbrev pub is_printable : ℕ → Bool
is_printable b = nat_le 33 b && nat_le b 126

-- one byte or more, all of them printable
abbrev pub is_word : List ℕ → Bool
is_word w = not (length w == 0) && list_all is_printable w
