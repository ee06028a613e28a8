-- What words say, or the first rule that they break.
use Rattle.std.specs.Prelude.{ℕ, List, [], ◌∷◌, ◌++◌, ◌&&◌, not, length, Result, Ok, Err, Option, Some, None, ◌==◌, decimal, codes, if◌then◌else◌}
use Rattle.std.specs.List.{list_all, slice_split}
use Rattle.std.specs.Str.{bytes_eq}
use Rattle.std.specs.Str.Parse.{digits_value}
use Rattle.percent_encoding.specs.Percent.{percent_decode}
use Rattle.ox_types.specs.declared.ended.LineRule.{LineRule}
use Rattle.ox_types.specs.declared.ended.LineRule.TheVariants as rule
use Rattle.ox_order.specs.declared.range.Lo.{Lo}
use Rattle.ox_order.specs.declared.range.Lo.TheVariants.{Start, At, Past}
use Rattle.ox_order.specs.declared.range.Hi.{Hi}
use Rattle.ox_order.specs.declared.range.Hi.TheVariants.{End, Before}
use Rattle.ox_order.specs.declared.range.KeyRange.{KeyRange}
use Rattle.ox_ops.specs.declared.write.Expect.{Expect}
use Rattle.ox_ops.specs.declared.write.Expect.TheVariants.{Any, Absent, Exactly}
use Rattle.ox_ops.specs.declared.write.IndexEntry.{IndexEntry}
use Rattle.ox_ops.specs.declared.write.Put.{Put}
use Rattle.ox_ops.specs.declared.write.Delete.{Delete}
use Rattle.ox_ops.specs.declared.write.WriteBatch.{WriteBatch}
use Rattle.ox_ops.specs.declared.write.ShardCommand.TheVariants as command
use Rattle.ox_ops.specs.declared.query.Compare.{Compare}
use Rattle.ox_ops.specs.declared.query.Compare.TheVariants.{Equal, Floor, Ceiling, Lower, Higher}
use Rattle.ox_ops.specs.declared.query.ShardQuery.{ShardQuery}
use Rattle.ox_ops.specs.declared.query.ShardQuery.TheVariants as query
use Rattle.ox_schedule.specs.declared.schedule.Grouping.TheVariants as grouping
use Rattle.ox_schedule.specs.declared.schedule.Request.{Request}
use Rattle.ox_schedule.specs.declared.schedule.Request.TheVariants.{Write, Read}
use Rattle.ox_wire.specs.declared.event.Image.{Image}
use Rattle.ox_wire.specs.declared.event.Image.TheVariants as image
use Rattle.ox_schedule.specs.Events.{Turn, Event}
use Rattle.ox_wire.specs.declared.event.Turn.TheVariants.{Client, Deliver, Tick}
use Rattle.ox_wire.specs.declared.event.Event.TheVariants as event
use Rattle.ox_schedule.specs.declared.schedule.Places.{Places}
use Rattle.ox_schedule.specs.Outcome.{◌>>=◌, said}
use Rattle.ox_text.specs.Words.{spelt, value_word}
use Rattle.ox_schedule.specs.Spelling.{is_key, is_value, is_name, is_number, is_empty, is_node, is_shard, is_call, is_term, is_word, words_of}
use Rattle.ox_schedule.specs.Shape.{ops_in, event_fits}

-- ---- one word

-- the next word and those after it
abbrev pub word_at : List (List ℕ) → Result (List ℕ × List (List ℕ)) LineRule
word_at [] = Err rule.Word
word_at (w ∷ ws) = Ok (w, ws)

-- the number that a word says
unfoldable pub number_of : List ℕ → Result ℕ LineRule
number_of w = said decimal is_number rule.Number w (digits_value 10 w)

-- the key that a word says
unfoldable pub key_of : List ℕ → Result (List ℕ) LineRule
key_of w = said spelt is_key rule.Key w (percent_decode w)

-- the value that a word would say
abbrev pub value_guess : List ℕ → List ℕ
value_guess w = if bytes_eq w (codes "*") then [] else percent_decode w

-- the value that a word says
unfoldable pub value_of : List ℕ → Result (List ℕ) LineRule
value_of w = said value_word is_value rule.Value w (value_guess w)

-- the name of an index that a word says
unfoldable pub name_of : List ℕ → Result (List ℕ) LineRule
name_of w = said spelt is_name rule.Option w (percent_decode w)

-- what each word says, up to the first that is at fault
abbrev pub each_of : {A : Type 0} → (List ℕ → Result A LineRule) → List (List ℕ) → Result (List A) LineRule
each_of read [] = Ok []
each_of read (w ∷ ws) = read w >>= λ x. each_of read ws >>= λ xs. Ok (x ∷ xs)

-- what follows a name at the front of a word
abbrev pub after : List ℕ → List ℕ → Option (List ℕ)
after [] w = Some w
after (p ∷ ps) [] = None
after (p ∷ ps) (b ∷ bs) = if p == b then after ps bs else None

-- the low end of a range with the key behind the mark, if the mark is there
abbrev pub lo_given : List ℕ → Option (List ℕ) → Result Lo LineRule
lo_given w None = key_of w >>= λ key. Ok (At key)
lo_given w (Some text) = key_of text >>= λ key. Ok (Past key)

-- the low end that a word says
unfoldable pub lo_of : List ℕ → Result Lo LineRule
lo_of w = if bytes_eq w (codes "*") then Ok Start else lo_given w (after (codes ">") w)

-- the high end that a word says
unfoldable pub hi_of : List ℕ → Result Hi LineRule
hi_of w = if bytes_eq w (codes "*") then Ok End else (key_of w >>= λ key. Ok (Before key))

-- the comparison that a word says
unfoldable pub compare_of : List ℕ → Result Compare LineRule
compare_of w =
    if bytes_eq w (codes "equal") then Ok Equal
    else (if bytes_eq w (codes "floor") then Ok Floor
    else (if bytes_eq w (codes "ceiling") then Ok Ceiling
    else (if bytes_eq w (codes "lower") then Ok Lower
    else (if bytes_eq w (codes "higher") then Ok Higher else Err rule.Word))))

-- what an expectation's option holds
unfoldable pub expect_of : List ℕ → Result Expect LineRule
expect_of w = if bytes_eq w (codes "absent") then Ok Absent else (number_of w >>= λ n. Ok (Exactly n))

-- what a session's option holds
unfoldable pub session_of : List ℕ → Result (Option ℕ) LineRule
session_of w = number_of w >>= λ id. Ok (Some id)

-- what the option of deltas holds: a number or more, with a comma between two
unfoldable pub deltas_of : List ℕ → Result (List ℕ) LineRule
deltas_of w = each_of number_of (slice_split (λ b. b == 44) w)

-- what the option of a read's index holds
unfoldable pub by_of : List ℕ → Result (Option (List ℕ)) LineRule
by_of w = name_of w >>= λ name. Ok (Some name)

-- one more byte before the colon
abbrev pub onto_name : ℕ → Option (List ℕ × List ℕ) → Option (List ℕ × List ℕ)
onto_name b None = None
onto_name b (Some x) = Some (b ∷ x.0, x.1)

-- what stands before the first colon, and what behind it
abbrev pub at_colon : List ℕ → Option (List ℕ × List ℕ)
at_colon [] = None
at_colon (b ∷ bs) = if b == 58 then Some ([], bs) else onto_name b (at_colon bs)

-- the entry of a name and a key, if there is a colon between them: the key is tested first
abbrev pub entry_in : Option (List ℕ × List ℕ) → Result IndexEntry LineRule
entry_in None = Err rule.Option
entry_in (Some x) = key_of x.1 >>= λ key. name_of x.0 >>= λ name. Ok (record { name = name; key = key })

-- what the option of an index entry holds
unfoldable pub entry_of : List ℕ → Result IndexEntry LineRule
entry_of w = entry_in (at_colon w)

-- the index entry, if the word is the option of one
abbrev pub entry_given : Option (List ℕ) → Result IndexEntry LineRule
entry_given None = Err rule.Option
entry_given (Some text) = entry_of text

-- the index entry that an option says
unfoldable pub entry_option : List ℕ → Result IndexEntry LineRule
entry_option w = entry_given (after (codes "index=") w)

-- ---- the next word, and those after it

-- the key that the next word says
unfoldable pub key_at : List (List ℕ) → Result (List ℕ × List (List ℕ)) LineRule
key_at ws = do
  w ← word_at ws
  key ← key_of w.0
  Ok (key, w.1)

-- the value that the next word says
unfoldable pub value_at : List (List ℕ) → Result (List ℕ × List (List ℕ)) LineRule
value_at ws = do
  w ← word_at ws
  value ← value_of w.0
  Ok (value, w.1)

-- the number that the next word says
unfoldable pub number_at : List (List ℕ) → Result (ℕ × List (List ℕ)) LineRule
number_at ws = do
  w ← word_at ws
  n ← number_of w.0
  Ok (n, w.1)

-- what an option holds, if the next word is that option
abbrev pub option_given : {A : Type 0} → (List ℕ → Result A LineRule) → A → List ℕ → List (List ℕ) → Option (List ℕ) → Result (A × List (List ℕ)) LineRule
option_given read none w ws None = Ok (none, w ∷ ws)
option_given read none w ws (Some text) = read text >>= λ x. Ok (x, ws)

-- the option of this name, or what stands for none where it doesn't come next
abbrev pub option_at : {A : Type 0} → List ℕ → (List ℕ → Result A LineRule) → A → List (List ℕ) → Result (A × List (List ℕ)) LineRule
option_at name read none [] = Ok (none, [])
option_at name read none (w ∷ ws) = option_given read none w ws (after name w)

-- the expectation, anything where no option of it comes next
unfoldable pub expect_at : List (List ℕ) → Result (Expect × List (List ℕ)) LineRule
expect_at ws = option_at (codes "expect=") expect_of Any ws

-- the session, if the option of one comes next
unfoldable pub session_at : List (List ℕ) → Result (Option ℕ × List (List ℕ)) LineRule
session_at ws = option_at (codes "session=") session_of None ws

-- the deltas, none where no option of them comes next
unfoldable pub deltas_at : List (List ℕ) → Result (List ℕ × List (List ℕ)) LineRule
deltas_at ws = option_at (codes "seq=") deltas_of [] ws

-- the index of a read, if the option of one comes next
unfoldable pub by_at : List (List ℕ) → Result (Option (List ℕ) × List (List ℕ)) LineRule
by_at ws = option_at (codes "by=") by_of None ws

-- no further option
abbrev pub options_end : List (List ℕ) → Result (Unit {0}) LineRule
options_end [] = Ok tt
options_end (w ∷ ws) = Err rule.Option

-- ---- the words behind the word of a request

-- two ends
unfoldable pub range_at : List (List ℕ) → Result (KeyRange × List (List ℕ)) LineRule
range_at ws = do
  first ← word_at ws
  lo ← lo_of first.0
  second ← word_at first.1
  hi ← hi_of second.0
  Ok (record { lo = lo; hi = hi }, second.1)

-- two ends and nothing more
unfoldable pub range_of : List (List ℕ) → Result KeyRange LineRule
range_of ws = do
  r ← range_at ws
  end ← options_end r.1
  Ok r.0

-- a key, a value, the options in their order, and nothing more: each word behind the other options is an index entry
unfoldable pub put_of : List (List ℕ) → Result Put LineRule
put_of ws = do
  key ← key_at ws
  value ← value_at key.1
  expect ← expect_at value.1
  session ← session_at expect.1
  deltas ← deltas_at session.1
  indexes ← each_of entry_option deltas.1
  Ok (record { key = key.0; value = value.0; expect = expect.0; session = session.0; deltas = deltas.0; indexes = indexes })

-- a key, an expectation and nothing more
unfoldable pub delete_of : List (List ℕ) → Result Delete LineRule
delete_of ws = do
  key ← key_at ws
  expect ← expect_at key.1
  end ← options_end expect.1
  Ok (record { key = key.0; expect = expect.0 })

-- the index of a read and nothing more
unfoldable pub index_of : List (List ℕ) → Result (Option (List ℕ)) LineRule
index_of ws = do
  by ← by_at ws
  end ← options_end by.1
  Ok by.0

-- a comparison, a key, an index and nothing more
unfoldable pub get_of : List (List ℕ) → Result ShardQuery LineRule
get_of ws = do
  first ← word_at ws
  compare ← compare_of first.0
  key ← key_at first.1
  by ← index_of key.1
  Ok (query.Get compare key.0 by)

-- two ends, an index and nothing more
unfoldable pub ends_of : List (List ℕ) → Result (KeyRange × Option (List ℕ)) LineRule
ends_of ws = do
  r ← range_at ws
  by ← index_of r.1
  Ok (r.0, by)

-- a number and nothing more
unfoldable pub single_of : List (List ℕ) → Result ℕ LineRule
single_of ws = do
  n ← number_at ws
  end ← options_end n.1
  Ok n.0

-- the notices past an offset, without the first of them, and nothing more
unfoldable pub notices_of : List (List ℕ) → Result ShardQuery LineRule
notices_of ws = do
  past ← number_at ws
  skip ← single_of past.1
  Ok (query.Notices past.0 skip)

-- ---- writes: puts, then deletes, then ranges

-- no operations
abbrev pub empty_batch : WriteBatch
empty_batch = record { puts = []; deletes = []; ranges = [] }

-- one put more
abbrev pub with_put : WriteBatch → Put → WriteBatch
with_put b p = record { puts = b.puts ++ p ∷ []; deletes = b.deletes; ranges = b.ranges }

-- one delete more
abbrev pub with_delete : WriteBatch → Delete → WriteBatch
with_delete b d = record { puts = b.puts; deletes = b.deletes ++ d ∷ []; ranges = b.ranges }

-- one range delete more
abbrev pub with_range : WriteBatch → KeyRange → WriteBatch
with_range b r = record { puts = b.puts; deletes = b.deletes; ranges = b.ranges ++ r ∷ [] }

-- the batch with one more operation, unless it stands out of order
unfoldable pub op_onto : WriteBatch → List (List ℕ) → Result WriteBatch LineRule
op_onto b ws = word_at ws >>= λ w.
    if bytes_eq w.0 (codes "put") then (if is_empty b.deletes && is_empty b.ranges then (put_of w.1 >>= λ p. Ok (with_put b p)) else Err rule.Order)
    else (if bytes_eq w.0 (codes "delete") then (if is_empty b.ranges then (delete_of w.1 >>= λ d. Ok (with_delete b d)) else Err rule.Order)
    else (if bytes_eq w.0 (codes "deleterange") then (range_of w.1 >>= λ r. Ok (with_range b r)) else Err rule.Word))

-- the batch with these operations behind its own
abbrev pub ops_onto : WriteBatch → List (List (List ℕ)) → Result WriteBatch LineRule
ops_onto b [] = Ok b
ops_onto b (op ∷ ops) = op_onto b op >>= λ c. ops_onto c ops

-- the batch that the words behind `batch` say
unfoldable pub batch_of : List (List ℕ) → Result WriteBatch LineRule
batch_of ws = ops_onto empty_batch (ops_in ws)

-- ---- requests and events

-- notices, a session's request, or one write by itself
unfoldable pub alone_of : List (List ℕ) → Result Request LineRule
alone_of ws = word_at ws >>= λ w.
    if bytes_eq w.0 (codes "notices") then (notices_of w.1 >>= λ q. Ok (Read q))
    else (if bytes_eq w.0 (codes "open") then (single_of w.1 >>= λ ms. Ok (Write grouping.Alone (command.Open ms)))
    else (if bytes_eq w.0 (codes "close") then (single_of w.1 >>= λ id. Ok (Write grouping.Alone (command.Close id)))
    else (if bytes_eq w.0 (codes "keep") then (single_of w.1 >>= λ id. Ok (Read (query.KeepAlive id)))
    else (op_onto empty_batch ws >>= λ b. Ok (Write grouping.Alone (command.Write b))))))

-- the request that words say: a batch, a read of records, or one of the others
unfoldable pub request_of : List (List ℕ) → Result Request LineRule
request_of ws = word_at ws >>= λ w.
    if bytes_eq w.0 (codes "batch") then (batch_of w.1 >>= λ b. Ok (Write grouping.Batch (command.Write b)))
    else (if bytes_eq w.0 (codes "get") then (get_of w.1 >>= λ q. Ok (Read q))
    else (if bytes_eq w.0 (codes "list") then (ends_of w.1 >>= λ x. Ok (Read (query.List x.0 x.1)))
    else (if bytes_eq w.0 (codes "scan") then (ends_of w.1 >>= λ x. Ok (Read (query.Scan x.0 x.1)))
    else alone_of ws)))

-- a node that is there
unfoldable pub node_at : Places → List (List ℕ) → Result (ℕ × List (List ℕ)) LineRule
node_at places ws = do
  w ← word_at ws
  n ← number_of w.0
  if is_node places n then Ok (n, w.1) else Err rule.Name

-- a shard that is there
unfoldable pub shard_at : Places → List (List ℕ) → Result (ℕ × List (List ℕ)) LineRule
shard_at places ws = do
  w ← word_at ws
  s ← number_of w.0
  if is_shard places s then Ok (s, w.1) else Err rule.Name

-- the words behind `client`
unfoldable pub client_of : Places → List (List ℕ) → Result Turn LineRule
client_of places ws = do
  node ← node_at places ws
  shard ← shard_at places node.1
  r ← request_of shard.1
  Ok (Client node.0 shard.0 r)

-- the words behind `tick`
unfoldable pub tick_of : Places → List (List ℕ) → Result Turn LineRule
tick_of places ws = do
  node ← node_at places ws
  shard ← shard_at places node.1
  ms ← single_of shard.1
  Ok (Tick node.0 shard.0 ms)

-- what words say that an actor takes
unfoldable pub turn_of : Places → List (List ℕ) → Result Turn LineRule
turn_of places ws = word_at ws >>= λ w.
    if bytes_eq w.0 (codes "client") then client_of places w.1
    else (if bytes_eq w.0 (codes "deliver") then (single_of w.1 >>= λ message. Ok (Deliver message))
    else (if bytes_eq w.0 (codes "tick") then tick_of places w.1 else Err rule.Word))

-- the number of a device call
unfoldable pub call_at : List (List ℕ) → Result (ℕ × List (List ℕ)) LineRule
call_at ws = do
  w ← word_at ws
  n ← number_of w.0
  if is_call n then Ok (n, w.1) else Err rule.Number

-- what a word says that a cut leaves
unfoldable pub image_of : List ℕ → Result Image LineRule
image_of w =
    if bytes_eq w (codes "none") then Ok image.Nothing
    else (if bytes_eq w (codes "kept") then Ok image.Kept
    else (if bytes_eq w (codes "torn") then Ok image.Torn else Err rule.Word))

-- the words behind `cut`
unfoldable pub cut_of : Places → List (List ℕ) → Result Event LineRule
cut_of places ws = do
  call ← call_at ws
  w ← word_at call.1
  i ← image_of w.0
  t ← turn_of places w.1
  Ok (event.Cut call.0 i t)

-- a node that is there and nothing more
unfoldable pub node_of : Places → List (List ℕ) → Result ℕ LineRule
node_of places ws = do
  node ← node_at places ws
  end ← options_end node.1
  Ok node.0

-- a term and nothing more
unfoldable pub term_of : List (List ℕ) → Result ℕ LineRule
term_of ws = do
  n ← single_of ws
  if is_term n then Ok n else Err rule.Number

-- a node, a shard and a term, and nothing more
unfoldable pub seat_of : Places → List (List ℕ) → Result (ℕ × ℕ × ℕ) LineRule
seat_of places ws = do
  node ← node_at places ws
  shard ← shard_at places node.1
  term ← term_of shard.1
  Ok (node.0, shard.0, term)

-- the event that words say
unfoldable pub event_of : Places → List (List ℕ) → Result Event LineRule
event_of places ws = word_at ws >>= λ w.
    if bytes_eq w.0 (codes "cut") then cut_of places w.1
    else (if bytes_eq w.0 (codes "stop") then (node_of places w.1 >>= λ n. Ok (event.Stop n))
    else (if bytes_eq w.0 (codes "start") then (node_of places w.1 >>= λ n. Ok (event.Start n))
    else (if bytes_eq w.0 (codes "lose") then (node_of places w.1 >>= λ n. Ok (event.Lose n))
    else (if bytes_eq w.0 (codes "fence") then (seat_of places w.1 >>= λ x. Ok (event.Fence x.0 x.1 x.2))
    else (if bytes_eq w.0 (codes "lead") then (seat_of places w.1 >>= λ x. Ok (event.Lead x.0 x.1 x.2))
    else (turn_of places ws >>= λ t. Ok (event.Takes t)))))))

-- The event of a line, or the first rule that it breaks: bytes, then the shape of the whole line, then word by word from the left.
unfoldable pub line_at : Places → List ℕ → Result Event LineRule
line_at places line =
    if length line == 0 then Err rule.Word
    else (if not (list_all is_word (words_of line)) then Err rule.Bytes
    else (if event_fits (words_of line) then event_of places (words_of line) else Err rule.Word))
