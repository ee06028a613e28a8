-- What an event spells is words: printable, and not empty.
use Rattle.std.proofs.Common.{◌≡◌, ◌∙◌, ◌<◌, ◌+◌, ◌%◌, ◌^◌, ℕ, suc, ◌++◌, Bool, true, false, eqb, cond, List, [], ◌∷◌, length, map, codes, decimal, Option, Some, None, inl, inr, refl, subst, arith}
use Rattle.std.specs.List.{list_all, flat_map, All}
use Rattle.std.proofs.lemmas.Grind.{common_steps}
use Rattle.std.proofs.lemmas.Fmt.{decimal_by_steps, decimal_nonempty}
use Rattle.std.proofs.lemmas.List.{length-append}
use Rattle.std.proofs.lemmas.List.Elements.{All-head, All-tail}
use Rattle.std.proofs.lemmas.List.Folds.{list_all-append}
use Rattle.std.proofs.lemmas.Bool.Decides.{Decides-ltb, nat_tests}
use Rattle.std.proofs.lemmas.Bool.{and_parts, and_from}
use Rattle.percent_encoding.specs.Percent.{percent_encode_byte}
use Rattle.percent_encoding.proofs.PercentLemmas.{IsEscapeByte, All-percent_encode_byte}
use Rattle.ox_order.specs.declared.range.Lo.{Lo}
use Rattle.ox_order.specs.declared.range.Lo.TheVariants.{Start, At, Past}
use Rattle.ox_order.specs.declared.range.Hi.{Hi}
use Rattle.ox_order.specs.declared.range.Hi.TheVariants.{End, Before}
use Rattle.ox_order.specs.declared.range.KeyRange.{KeyRange}
use Rattle.ox_ops.specs.declared.write.Expect.{Expect}
use Rattle.ox_ops.specs.declared.write.Expect.TheVariants.{Any, Absent, Exactly}
use Rattle.ox_ops.specs.declared.write.IndexEntry.{IndexEntry}
use Rattle.ox_ops.specs.declared.write.Put.{Put}
use Rattle.ox_ops.specs.declared.write.Delete.{Delete}
use Rattle.ox_ops.specs.declared.write.WriteBatch.{WriteBatch}
use Rattle.ox_ops.specs.declared.write.ShardCommand.TheVariants as command
use Rattle.ox_ops.specs.declared.query.Compare.{Compare}
use Rattle.ox_ops.specs.declared.query.Compare.TheVariants.{Equal, Floor, Ceiling, Lower, Higher}
use Rattle.ox_ops.specs.declared.query.ShardQuery.TheVariants as query
use Rattle.ox_schedule.specs.declared.schedule.Grouping.TheVariants as grouping
use Rattle.ox_schedule.specs.declared.schedule.Request.{Request}
use Rattle.ox_schedule.specs.declared.schedule.Request.TheVariants.{Write, Read}
use Rattle.ox_wire.specs.declared.event.Image.{Image}
use Rattle.ox_wire.specs.declared.event.Image.TheVariants as image
use Rattle.ox_schedule.specs.Events.{Turn, Event}
use Rattle.ox_wire.specs.declared.event.Turn.TheVariants.{Client, Deliver, Tick}
use Rattle.ox_wire.specs.declared.event.Event.TheVariants as event
use Rattle.ox_schedule.specs.declared.schedule.Places.{Places}
use Rattle.ox_text.specs.Words.{is_plain, escape, spelt, value_word, lo_word, hi_word, range_words}
use Rattle.ox_schedule.specs.Spelling.{is_printable, is_word, is_key, is_number, is_expect, is_session, is_by, session_words, numbers_text, deltas_words, entry_word, by_words, put_options, is_lo, is_hi, is_range, is_put, is_delete, are_lawful, is_alone, names_node, names_shard, is_seat, is_request, is_turn, is_event, expect_words, put_op, delete_op, range_op, batch_ops, joined, compare_word, request_words, turn_words, image_word, event_words}
use Rattle.ox_text.specs.SpellingLaws.{spelling_some}
use Rattle.ox_schedule.proofs.Words.{some_word}
use Rattle.ox_schedule.proofs.Fields.{PutParts, put_parts}

plain_is_printable : (b : ℕ) → is_plain b ≡ true → is_printable b ≡ true
plain_is_printable b h = grind (arith, common_steps)

escape_is_printable : (b : ℕ) → IsEscapeByte b → is_printable b ≡ true
escape_is_printable b (inl e) = grind (arith, nat_tests)
escape_is_printable b (inr (inl p)) = grind (arith, nat_tests)
escape_is_printable b (inr (inr p)) = grind (arith, nat_tests)

are_printable : (xs : List ℕ) → All IsEscapeByte xs → list_all is_printable xs ≡ true
are_printable [] h = refl
are_printable (x ∷ xs) h = rw (escape_is_printable x (All-head IsEscapeByte x xs h), are_printable xs (All-tail IsEscapeByte x xs h)) refl

byte_is_printable : (b : ℕ) → list_all is_printable (escape b) ≡ true
byte_is_printable b = by_test (is_plain b) refl
  where
    by_test : (x : Bool) → is_plain b ≡ x → list_all is_printable (cond x (b ∷ []) (percent_encode_byte b)) ≡ true
    by_test true h = rw (plain_is_printable b h) refl
    by_test false h = are_printable (percent_encode_byte b) (All-percent_encode_byte b)

spelt_is_printable : (bytes : List ℕ) → list_all is_printable (spelt bytes) ≡ true
unfolding spelt
spelt_is_printable [] = refl
spelt_is_printable (b ∷ bytes) = list_all-append is_printable (escape b) (flat_map escape bytes) ∙ and_from _ _ (byte_is_printable b) (spelt_is_printable bytes)

some_is_word : (bs : List ℕ) → 0 < length bs → list_all is_printable bs ≡ true → is_word bs ≡ true
some_is_word [] some h = absurd (omega arith)
some_is_word (b ∷ bs) some h = let nz : eqb (suc (length bs)) 0 ≡ false = grind (arith, common_steps) in rw nz h

spelt_is_word : (bytes : List ℕ) → 0 < length bytes → is_word (spelt bytes) ≡ true
spelt_is_word bytes some = some_is_word (spelt bytes) (spelling_some bytes some) (spelt_is_printable bytes)

some_key : (key : List ℕ) → is_key key ≡ true → 0 < length key
unfolding is_key
some_key [] h = absurd cc
some_key (b ∷ key) h = omega arith

key_is_word : (key : List ℕ) → is_key key ≡ true → is_word (spelt key) ≡ true
key_is_word key h = spelt_is_word key (some_key key h)

value_is_word : (value : List ℕ) → is_word (value_word value) ≡ true
value_is_word [] = refl
value_is_word (b ∷ value) = rw (some_word b value) (spelt_is_word (b ∷ value) (omega arith))

digit_is_printable : (n : ℕ) → n < 10 → is_printable (48 + n) ≡ true
digit_is_printable n h = grind (arith, common_steps)

number_is_printable : (n : ℕ) → n < 2 ^ 64 → list_all is_printable (decimal n) ≡ true
number_is_printable = decimal_by_steps (λ n ds. list_all is_printable ds ≡ true)
    (λ n h. and_from _ true (digit_is_printable n h) refl)
    (λ n ds h known. list_all-append is_printable ds ((48 + n % 10) ∷ []) ∙ and_from _ _ known (and_from _ true (digit_is_printable (n % 10) (omega arith)) refl))

pub number_is_word : (n : ℕ) → is_number n ≡ true → is_word (decimal n) ≡ true
number_is_word n h = let small : n < 2 ^ 64 = (Decides-ltb n (2 ^ 64)).0 h in some_is_word (decimal n) (decimal_nonempty n small) (number_is_printable n small)

expect_are_words : (e : Expect) → is_expect e ≡ true → list_all is_word (expect_words e) ≡ true
expect_are_words Any h = refl
expect_are_words Absent h = refl
expect_are_words (Exactly n) h =
    let small : n < 2 ^ 64 = (Decides-ltb n (2 ^ 64)).0 h in
    and_from _ true (some_is_word (codes "expect=" ++ decimal n) (omega (arith, length-append (codes "expect=") (decimal n))) (list_all-append is_printable (codes "expect=") (decimal n) ∙ and_from _ _ refl (number_is_printable n small))) refl

lo_is_word : (lo : Lo) → is_lo lo ≡ true → is_word (lo_word lo) ≡ true
lo_is_word Start h = refl
lo_is_word (At key) h = key_is_word key h
lo_is_word (Past key) h = some_is_word (codes ">" ++ spelt key) (omega arith) (spelt_is_printable key)

hi_is_word : (hi : Hi) → is_hi hi ≡ true → is_word (hi_word hi) ≡ true
hi_is_word End h = refl
hi_is_word (Before key) h = key_is_word key h

range_are_words : (r : KeyRange) → is_range r ≡ true → list_all is_word (range_words r) ≡ true
range_are_words r h = let x = and_parts (is_lo r.lo) (is_hi r.hi) h in rw (lo_is_word r.lo x.0, hi_is_word r.hi x.1) refl

behind_is_word : (front text : List ℕ) → 0 < length front → list_all is_printable front ≡ true → list_all is_printable text ≡ true → is_word (front ++ text) ≡ true
behind_is_word front text some h k = some_is_word (front ++ text) (omega (arith, some, length-append front text)) (list_all-append is_printable front text ∙ and_from _ _ h k)

session_are_words : (s : Option ℕ) → is_session s ≡ true → list_all is_word (session_words s) ≡ true
session_are_words None h = refl
session_are_words (Some n) h = and_from _ true (behind_is_word (codes "session=") (decimal n) (omega arith) refl (number_is_printable n ((Decides-ltb n (2 ^ 64)).0 h))) refl

numbers_are_printable : (ds : List ℕ) → list_all is_number ds ≡ true → list_all is_printable (numbers_text ds) ≡ true
numbers_are_printable [] h = refl
numbers_are_printable (d ∷ []) h = number_is_printable d ((Decides-ltb d (2 ^ 64)).0 (and_parts (is_number d) true h).0)
numbers_are_printable (d ∷ next ∷ ds) h =
    let x = and_parts (is_number d) (list_all is_number (next ∷ ds)) h in
    list_all-append is_printable (decimal d) (44 ∷ numbers_text (next ∷ ds)) ∙ and_from _ _ (number_is_printable d ((Decides-ltb d (2 ^ 64)).0 x.0)) (numbers_are_printable (next ∷ ds) x.1)

deltas_are_words : (ds : List ℕ) → list_all is_number ds ≡ true → list_all is_word (deltas_words ds) ≡ true
deltas_are_words [] h = refl
deltas_are_words (d ∷ ds) h = and_from _ true (behind_is_word (codes "seq=") (numbers_text (d ∷ ds)) (omega arith) refl (numbers_are_printable (d ∷ ds) h)) refl

entry_is_word : (e : IndexEntry) → is_word (entry_word e) ≡ true
entry_is_word e = behind_is_word (codes "index=") (spelt e.name ++ (codes ":" ++ spelt e.key)) (omega arith) refl (list_all-append is_printable (spelt e.name) (codes ":" ++ spelt e.key) ∙ and_from _ _ (spelt_is_printable e.name) (spelt_is_printable e.key))

entries_are_words : (es : List IndexEntry) → list_all is_word (map entry_word es) ≡ true
entries_are_words [] = refl
entries_are_words (e ∷ es) = and_from _ _ (entry_is_word e) (entries_are_words es)

by_are_words : (by : Option (List ℕ)) → list_all is_word (by_words by) ≡ true
by_are_words None = refl
by_are_words (Some name) = and_from _ true (behind_is_word (codes "by=") (spelt name) (omega arith) refl (spelt_is_printable name)) refl

words_both : (a b : List (List ℕ)) → list_all is_word a ≡ true → list_all is_word b ≡ true → list_all is_word (a ++ b) ≡ true
words_both a b h k = list_all-append is_word a b ∙ and_from _ _ h k

options_are_words : (p : Put) → PutParts p → list_all is_word (put_options p) ≡ true
options_are_words p x =
    words_both (expect_words p.expect) (session_words p.session ++ (deltas_words p.deltas ++ map entry_word p.indexes)) (expect_are_words p.expect x.expect)
    (words_both (session_words p.session) (deltas_words p.deltas ++ map entry_word p.indexes) (session_are_words p.session x.session)
    (words_both (deltas_words p.deltas) (map entry_word p.indexes) (deltas_are_words p.deltas x.deltas) (entries_are_words p.indexes)))

put_are_words : (p : Put) → is_put p ≡ true → list_all is_word (put_op p) ≡ true
put_are_words p h = let x = put_parts p h in rw (key_is_word p.key x.key, value_is_word p.value) (options_are_words p x)

delete_are_words : (d : Delete) → is_delete d ≡ true → list_all is_word (delete_op d) ≡ true
delete_are_words d h =
    let x = and_parts (is_key d.key) (is_expect d.expect) h in
    rw (key_is_word d.key x.0, expect_are_words d.expect x.1) refl

abbrev are_words : List (List ℕ) → Bool
are_words ws = list_all is_word ws

all_lawful : {A : Type 0} (lawful : A → Bool) (op : A → List (List ℕ)) (xs : List A) → ((x : A) → lawful x ≡ true → list_all is_word (op x) ≡ true) → list_all lawful xs ≡ true → list_all are_words (map op xs) ≡ true
all_lawful lawful op [] each h = refl
all_lawful lawful op (x ∷ xs) each h = let p = and_parts (lawful x) _ h in rw (each x p.0, all_lawful lawful op xs each p.1) refl

joined_are_words : (ops : List (List (List ℕ))) → list_all are_words ops ≡ true → list_all is_word (joined ops) ≡ true
joined_are_words [] h = refl
joined_are_words (op ∷ []) h = (and_parts (are_words op) true h).0
joined_are_words (op ∷ next ∷ ops) h =
    let x = and_parts (are_words op) _ h in
    list_all-append is_word op (codes "+" ∷ joined (next ∷ ops)) ∙ and_from _ _ x.0 (joined_are_words (next ∷ ops) x.1)

batch_are_words : (b : WriteBatch) → are_lawful b ≡ true → list_all is_word (joined (batch_ops b)) ≡ true
batch_are_words b l =
    let m = and_parts _ _ l in
    let n = and_parts _ _ m.0 in
    let ps = all_lawful is_put put_op b.puts put_are_words n.0 in
    let ds = all_lawful is_delete delete_op b.deletes delete_are_words n.1 in
    let rs = all_lawful is_range range_op b.ranges range_are_words m.1 in
    joined_are_words (batch_ops b) (list_all-append are_words (map put_op b.puts ++ map delete_op b.deletes) (map range_op b.ranges) ∙ and_from _ _ (list_all-append are_words (map put_op b.puts) (map delete_op b.deletes) ∙ and_from _ _ ps ds) rs)

compare_is_word : (c : Compare) → is_word (compare_word c) ≡ true
compare_is_word Equal = refl
compare_is_word Floor = refl
compare_is_word Ceiling = refl
compare_is_word Lower = refl
compare_is_word Higher = refl

request_are_words : (r : Request) → is_request r ≡ true → list_all is_word (request_words r) ≡ true
request_are_words (Write grouping.Alone (command.Write b)) h = batch_are_words b (and_parts (are_lawful b) _ h).0
request_are_words (Write grouping.Batch (command.Write b)) h = batch_are_words b (and_parts (are_lawful b) _ h).0
request_are_words (Write g (command.Open n)) h = and_from _ true (number_is_word n (and_parts (is_alone g) (is_number n) h).1) refl
request_are_words (Write g (command.Close n)) h = and_from _ true (number_is_word n (and_parts (is_alone g) (is_number n) h).1) refl
request_are_words (Write g (command.Expire n)) h = absurd cc
request_are_words (Read (query.Get c key by)) h = let x = and_parts (is_key key) (is_by by) h in rw (compare_is_word c, key_is_word key x.0) (by_are_words by)
request_are_words (Read (query.List r by)) h = words_both (range_words r) (by_words by) (range_are_words r (and_parts (is_range r) (is_by by) h).0) (by_are_words by)
request_are_words (Read (query.Scan r by)) h = words_both (range_words r) (by_words by) (range_are_words r (and_parts (is_range r) (is_by by) h).0) (by_are_words by)
request_are_words (Read (query.Notices past skip)) h = let x = and_parts (is_number past) (is_number skip) h in rw (number_is_word past x.0, number_is_word skip x.1) refl
request_are_words (Read (query.KeepAlive n)) h = and_from _ true (number_is_word n h) refl

node_is_word : (p : Places) (n : ℕ) → names_node p n ≡ true → is_word (decimal n) ≡ true
node_is_word p n h = number_is_word n (and_parts (is_number n) _ h).0

shard_is_word : (p : Places) (s : ℕ) → names_shard p s ≡ true → is_word (decimal s) ≡ true
shard_is_word p s h = number_is_word s (and_parts (is_number s) _ h).0

turn_are_words : (p : Places) (t : Turn) → is_turn p t ≡ true → list_all is_word (turn_words t) ≡ true
turn_are_words p (Client node shard r) h =
    let a = and_parts _ _ h in
    let b = and_parts _ _ a.0 in
    rw (node_is_word p node b.0, shard_is_word p shard b.1, request_are_words r a.1) refl
turn_are_words p (Deliver message) h = rw (number_is_word message h) refl
turn_are_words p (Tick node shard ms) h =
    let a = and_parts _ _ h in
    let b = and_parts _ _ a.0 in
    rw (node_is_word p node b.0, shard_is_word p shard b.1, number_is_word ms a.1) refl

image_is_word : (i : Image) → is_word (image_word i) ≡ true
image_is_word image.Nothing = refl
image_is_word image.Kept = refl
image_is_word image.Torn = refl

seat_are_words : (p : Places) (node shard term : ℕ) → is_seat p node shard term ≡ true → list_all is_word (decimal node ∷ decimal shard ∷ decimal term ∷ []) ≡ true
seat_are_words p node shard term h =
    let a = and_parts _ _ h in
    let b = and_parts _ _ a.0 in
    rw (node_is_word p node b.0, shard_is_word p shard b.1, number_is_word term (and_parts (is_number term) _ a.1).0) refl

pub event_are_words : (places : Places) (e : Event) → is_event places e ≡ true → list_all is_word (event_words e) ≡ true
event_are_words places (event.Takes t) h = turn_are_words places t h
event_are_words places (event.Cut call i t) h =
    let a = and_parts _ _ h in
    rw (number_is_word call (and_parts (is_number call) _ a.0).0, image_is_word i, turn_are_words places t a.1) refl
event_are_words places (event.Stop node) h = and_from _ true (node_is_word places node h) refl
event_are_words places (event.Start node) h = and_from _ true (node_is_word places node h) refl
event_are_words places (event.Lose node) h = and_from _ true (node_is_word places node h) refl
event_are_words places (event.Fence node shard term) h = seat_are_words places node shard term h
event_are_words places (event.Lead node shard term) h = seat_are_words places node shard term h
