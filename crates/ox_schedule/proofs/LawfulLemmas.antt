-- What a schedule asks has bytes in the grammar of commands and queries.
use Rattle.std.proofs.Common.{◌≡◌, ◌<◌, ◌≤◌, ◌+◌, ◌^◌, ℕ, suc, Bool, true, false, ◌&&◌, eqb, leb, ltb, cond, List, [], ◌∷◌, ◌++◌, length, map, codes, decimal, Option, Some, None, ◌∙◌, refl, sym, ap, subst, arith}
use Rattle.std.specs.Prelude.{is_none, nat_eq}
use Rattle.std.specs.List.{list_all, onto_first, starts_with, join_with_byte}
use Rattle.std.proofs.lemmas.Bool.{lt-ltb, le-leb, leb-true, ltb-false, and_parts, and_from}
use Rattle.std.proofs.lemmas.Grind.{common_steps}
use Rattle.std.proofs.lemmas.List.{length-append, length-map}
use Rattle.ox_types.specs.Key.{key_fault, reserved}
use Rattle.ox_types.specs.declared.key.KeyFault.TheVariants.{Empty, TooLong, Reserved}
use Rattle.ox_types.specs.Limits.{key_limit, value_limit}
use Rattle.ox_order.specs.declared.range.Lo.{Lo}
use Rattle.ox_order.specs.declared.range.Lo.TheVariants.{Start, At, Past}
use Rattle.ox_order.specs.declared.range.Hi.{Hi}
use Rattle.ox_order.specs.declared.range.Hi.TheVariants.{End, Before}
use Rattle.ox_order.specs.declared.range.KeyRange.{KeyRange}
use Rattle.ox_order.specs.Forms as order
use Rattle.ox_ops.specs.declared.write.Expect.{Expect}
use Rattle.ox_ops.specs.declared.write.Expect.TheVariants.{Any, Absent, Exactly}
use Rattle.ox_ops.specs.declared.write.IndexEntry.{IndexEntry}
use Rattle.ox_ops.specs.declared.write.Put.{Put}
use Rattle.ox_ops.specs.declared.write.Delete.{Delete}
use Rattle.ox_ops.specs.declared.write.WriteBatch.{WriteBatch}
use Rattle.ox_ops.specs.declared.write.ShardCommand.TheVariants as command
use Rattle.ox_ops.specs.declared.query.Compare.{Compare}
use Rattle.ox_ops.specs.declared.query.Compare.TheVariants.{Equal, Floor, Ceiling, Lower, Higher}
use Rattle.ox_ops.specs.declared.query.ShardQuery.{ShardQuery}
use Rattle.ox_ops.specs.declared.query.ShardQuery.TheVariants as query
use Rattle.ox_bytes.specs.Fields as field
use Rattle.ox_ops.specs.Forms as form
use Rattle.ox_schedule.specs.declared.schedule.Grouping.{Grouping}
use Rattle.ox_schedule.specs.declared.schedule.Request.TheVariants.{Write, Read}
use Rattle.ox_wire.specs.declared.event.Image.{Image}
use Rattle.ox_schedule.specs.Events.{Turn, Event}
use Rattle.ox_wire.specs.declared.event.Turn.TheVariants.{Client, Deliver, Tick}
use Rattle.ox_wire.specs.declared.event.Event.TheVariants as event
use Rattle.ox_schedule.specs.declared.schedule.Places.{Places}
use Rattle.ox_schedule.specs.declared.schedule.Schedule.{Schedule}
use Rattle.ox_text.specs.Words.{value_word, spelt, spaced}
use Rattle.ox_schedule.specs.Spelling.{is_key, is_value, is_byte, is_name, is_number, is_alone, is_expect, is_session, is_entry, is_by, expect_words, session_words, numbers_text, deltas_words, entry_word, put_options, is_lo, is_hi, is_range, is_put, is_delete, are_lawful, is_query, is_turn, is_event, put_op, delete_op, range_op, batch_ops, joined, grouping_words, request_words, image_word, turn_words, event_line}
use Rattle.ox_schedule.specs.Lawful.{turn_encodable, asks_encodable}
use Rattle.ox_schedule.specs.Schedule.{SpellsSchedule, lines_of, places_of, first_line}
use Rattle.ox_schedule.proofs.Fields.{put_parts}
use Rattle.ox_schedule.proofs.WriterLemmas.{join_spaced, spaced_append}

-- ---- keys, values and ranges

small_key : (k : List ℕ) → is_none (key_fault k) ≡ true → ltb (length k) (2 ^ 32) ≡ true
small_key k h = by_tests (eqb (length k) 0) (ltb key_limit (length k)) (starts_with nat_eq k reserved) refl h
  where
    by_tests : (x y z : Bool) → ltb key_limit (length k) ≡ y → is_none (cond x (Some Empty) (cond y (Some (TooLong (length k))) (cond z (Some Reserved) None))) ≡ true → ltb (length k) (2 ^ 32) ≡ true
    by_tests true y z e h = absurd cc
    by_tests false true z e h = absurd cc
    by_tests false false z e h = lt-ltb (length k) (2 ^ 32) (omega (arith, ltb-false key_limit (length k) e))

key_lawful : (k : List ℕ) → is_key k ≡ true → ltb (length k) (2 ^ 32) && is_none (key_fault k) ≡ true
unfolding is_key
key_lawful k h = let x = and_parts _ (is_none (key_fault k)) h in and_from _ _ (small_key k x.1) x.1

value_lawful : (v : List ℕ) → is_value v ≡ true → ltb (length v) (2 ^ 32) && leb (length v) value_limit ≡ true
unfolding is_value
value_lawful v h = let x = and_parts _ (leb (length v) value_limit) h in and_from _ _ (lt-ltb (length v) (2 ^ 32) (omega (arith, leb-true (length v) value_limit x.1))) x.1

lo_lawful : (lo : Lo) → is_lo lo ≡ true → order.lo.is_lawful lo ≡ true
unfolding order.lo
lo_lawful Start h = refl
lo_lawful (At key) h = key_lawful key h
lo_lawful (Past key) h = key_lawful key h

hi_lawful : (hi : Hi) → is_hi hi ≡ true → order.hi.is_lawful hi ≡ true
unfolding order.hi
hi_lawful End h = refl
hi_lawful (Before key) h = key_lawful key h

range_lawful : (r : KeyRange) → is_range r ≡ true → order.key_range.is_lawful r ≡ true
unfolding order.key_range
range_lawful r h = let x = and_parts (is_lo r.lo) (is_hi r.hi) h in and_from _ _ (lo_lawful r.lo x.0) (hi_lawful r.hi x.1)

-- ---- how long options are

spaced_long : (ws : List (List ℕ)) → length ws ≤ length (spaced ws)
spaced_long [] = omega arith
spaced_long (w ∷ ws) = omega (arith, length-append w (spaced ws), spaced_long ws)

commas_long : (ws : List (List ℕ)) → length ws ≤ length (join_with_byte 44 ws) + 1
commas_long [] = omega arith
commas_long (w ∷ []) = omega arith
commas_long (w ∷ next ∷ ws) = omega (arith, length-append w (44 ∷ join_with_byte 44 (next ∷ ws)), commas_long (next ∷ ws))

seq_long : (ds : List ℕ) → length ds ≤ length (spaced (deltas_words ds))
seq_long [] = omega arith
seq_long (d ∷ ds) = omega (arith, length-append (codes "seq=" ++ numbers_text (d ∷ ds)) [], length-append (codes "seq=") (numbers_text (d ∷ ds)), commas_long (map decimal (d ∷ ds)), length-map (d ∷ ds) decimal)

spaced_both : (a b : List (List ℕ)) → length (spaced (a ++ b)) ≡ length (spaced a) + length (spaced b)
spaced_both a b = ap length (spaced_append a b) ∙ length-append (spaced a) (spaced b)

options_long : (p : Put) → length (spaced (put_options p)) ≤ length (spaced (put_op p))
options_long p = omega (arith, spaced_both (codes "put" ∷ spelt p.key ∷ value_word p.value ∷ []) (put_options p))

deltas_long : (p : Put) → length p.deltas ≤ length (spaced (put_op p))
deltas_long p =
    let entries : List (List ℕ) = map entry_word p.indexes in
    omega (arith, options_long p, seq_long p.deltas, spaced_both (expect_words p.expect) (session_words p.session ++ (deltas_words p.deltas ++ entries)), spaced_both (session_words p.session) (deltas_words p.deltas ++ entries), spaced_both (deltas_words p.deltas) entries)

entries_long : (p : Put) → length p.indexes ≤ length (spaced (put_op p))
entries_long p =
    let entries : List (List ℕ) = map entry_word p.indexes in
    omega (arith, options_long p, spaced_long entries, length-map p.indexes entry_word, spaced_both (expect_words p.expect) (session_words p.session ++ (deltas_words p.deltas ++ entries)), spaced_both (session_words p.session) (deltas_words p.deltas ++ entries), spaced_both (deltas_words p.deltas) entries)

-- ---- operations

expect_lawful : (e : Expect) → is_expect e ≡ true → form.expect.is_lawful e ≡ true
unfolding form.expect
expect_lawful Any h = refl
expect_lawful Absent h = refl
expect_lawful (Exactly n) h = h

name_lawful : (n : List ℕ) → is_name n ≡ true → ltb (length n) (2 ^ 32) && form.is_name n ≡ true
unfolding is_name
name_lawful n h =
    let x = and_parts (list_all is_byte n) (form.is_name n) h in
    let y = and_parts (leb 1 (length n)) (leb (length n) 255) x.1 in
    and_from _ _ (lt-ltb (length n) (2 ^ 32) (omega (arith, leb-true (length n) 255 y.1))) x.1

session_lawful : (s : Option ℕ) → is_session s ≡ true → (field.option field.number64).is_lawful s ≡ true
session_lawful None h = refl
session_lawful (Some n) h = h

by_lawful : (by : Option (List ℕ)) → is_by by ≡ true → (field.option form.index_name).is_lawful by ≡ true
by_lawful None h = refl
by_lawful (Some name) h = name_lawful name h

entry_lawful : (e : IndexEntry) → is_entry e ≡ true → form.index_entry.is_lawful e ≡ true
unfolding form.index_entry
entry_lawful e h = let x = and_parts (is_name e.name) (is_key e.key) h in and_from _ _ (name_lawful e.name x.0) (key_lawful e.key x.1)

all_lawful : {A : Type 0} (f g : A → Bool) (xs : List A) → ((x : A) → f x ≡ true → g x ≡ true) → list_all f xs ≡ true → list_all g xs ≡ true
all_lawful f g [] each h = refl
all_lawful f g (x ∷ xs) each h = let p = and_parts (f x) _ h in and_from _ _ (each x p.0) (all_lawful f g xs each p.1)

put_lawful : (p : Put) → is_put p ≡ true → length (spaced (put_op p)) < 2 ^ 32 → form.put.is_lawful p ≡ true
unfolding form.put
put_lawful p h short =
    let x = put_parts p h in
    let deltas : length p.deltas < 2 ^ 32 = omega (arith, short, deltas_long p) in
    let entries : length p.indexes < 2 ^ 32 = omega (arith, short, entries_long p) in
    and_from _ _ (key_lawful p.key x.key) (and_from _ _ (value_lawful p.value x.value) (and_from _ _ (expect_lawful p.expect x.expect) (and_from _ _ (session_lawful p.session x.session)
    (and_from _ _ (and_from _ _ (lt-ltb (length p.deltas) (2 ^ 32) deltas) (all_lawful is_number (λ n. ltb n (2 ^ 64)) p.deltas (λ n k. k) x.deltas))
    (and_from _ _ (lt-ltb (length p.indexes) (2 ^ 32) entries) (all_lawful is_entry form.index_entry.is_lawful p.indexes entry_lawful x.entries))))))

delete_lawful : (d : Delete) → is_delete d ≡ true → form.delete.is_lawful d ≡ true
unfolding form.delete
delete_lawful d h = let x = and_parts (is_key d.key) (is_expect d.expect) h in and_from _ _ (key_lawful d.key x.0) (expect_lawful d.expect x.1)

-- how long operations are, one by one
abbrev total : List (List (List ℕ)) → ℕ
total [] = 0
total (op ∷ ops) = length (spaced op) + total ops

puts_lawful : (ps : List Put) → list_all is_put ps ≡ true → total (map put_op ps) < 2 ^ 32 → list_all form.put.is_lawful ps ≡ true
puts_lawful [] h short = refl
puts_lawful (p ∷ ps) h short = let x = and_parts (is_put p) _ h in and_from _ _ (put_lawful p x.0 (omega (arith, short))) (puts_lawful ps x.1 (omega (arith, short)))

total_append : (a b : List (List (List ℕ))) → total (a ++ b) ≡ total a + total b
total_append [] b = omega arith
total_append (op ∷ a) b = omega (arith, total_append a b)

total_joined : (ops : List (List (List ℕ))) → total ops ≤ length (spaced (joined ops))
total_joined [] = omega arith
total_joined (op ∷ []) = omega arith
total_joined (op ∷ next ∷ ops) = omega (arith, ap length (spaced_append op (codes "+" ∷ joined (next ∷ ops))), length-append (spaced op) (spaced (codes "+" ∷ joined (next ∷ ops))), total_joined (next ∷ ops))

batch_lawful : (b : WriteBatch) → are_lawful b ≡ true → length (batch_ops b) < 2 ^ 32 → total (batch_ops b) < 2 ^ 32 → form.write_batch.is_lawful b ≡ true
unfolding form.write_batch
batch_lawful b h few short =
    let m = and_parts (list_all is_put b.puts && list_all is_delete b.deletes) (list_all is_range b.ranges) h in
    let n = and_parts (list_all is_put b.puts) (list_all is_delete b.deletes) m.0 in
    let count : length b.puts + length b.deletes + length b.ranges ≡ length (batch_ops b) = counted b.puts b.deletes b.ranges in
    and_from _ _ (and_from _ _ (lt-ltb (length b.puts) (2 ^ 32) (omega (arith, few, count))) (puts_lawful b.puts n.0 (omega (arith, short, total_append (map put_op b.puts ++ map delete_op b.deletes) (map range_op b.ranges), total_append (map put_op b.puts) (map delete_op b.deletes)))))
    (and_from _ _ (and_from _ _ (lt-ltb (length b.deletes) (2 ^ 32) (omega (arith, few, count))) (all_lawful is_delete form.delete.is_lawful b.deletes delete_lawful n.1))
    (and_from _ _ (lt-ltb (length b.ranges) (2 ^ 32) (omega (arith, few, count))) (all_lawful is_range order.key_range.is_lawful b.ranges range_lawful m.1)))
  where
    counted : (ps : List Put) (ds : List Delete) (rs : List KeyRange) → length ps + length ds + length rs ≡ length ((map put_op ps ++ map delete_op ds) ++ map range_op rs)
    counted ps ds rs = grind (arith, common_steps)

-- ---- how long a line is

joined_long : (ops : List (List (List ℕ))) → length ops ≤ length (joined ops) + 1
joined_long [] = omega arith
joined_long (op ∷ []) = omega arith
joined_long (op ∷ next ∷ ops) = omega (arith, length-append op (codes "+" ∷ joined (next ∷ ops)), joined_long (next ∷ ops))

write_long : (node shard : ℕ) (g : Grouping) (b : WriteBatch) → length (batch_ops b) < length (spaced (turn_words (Client node shard (Write g (command.Write b)))))
write_long node shard g b =
    let ws : List (List ℕ) = grouping_words g ++ joined (batch_ops b) in
    let rest : List (List ℕ) = decimal node ∷ decimal shard ∷ ws in
    omega (arith, length-append (codes "client") (spaced rest), spaced_long rest, length-append (grouping_words g) (joined (batch_ops b)), joined_long (batch_ops b))

write_size : (node shard : ℕ) (g : Grouping) (b : WriteBatch) → total (batch_ops b) < length (spaced (turn_words (Client node shard (Write g (command.Write b)))))
write_size node shard g b =
    let ws : List (List ℕ) = grouping_words g ++ joined (batch_ops b) in
    let rest : List (List ℕ) = decimal node ∷ decimal shard ∷ ws in
    omega (arith, length-append (codes "client") (spaced rest), spaced_both (decimal node ∷ decimal shard ∷ []) ws, spaced_both (grouping_words g) (joined (batch_ops b)), total_joined (batch_ops b))

-- the words of a line, each behind a space, are one byte more than the line
line_size : (w : List ℕ) (ws : List (List ℕ)) → length (spaced (w ∷ ws)) ≡ suc (length (join_with_byte 32 (w ∷ ws)))
line_size w ws = ap (λ (t : List ℕ). suc (length t)) (sym (join_spaced w ws))

takes_size : (t : Turn) → length (spaced (turn_words t)) ≤ suc (length (event_line (event.Takes t)))
unfolding event_line
takes_size (Client node shard r) = omega (arith, line_size (codes "client") (decimal node ∷ decimal shard ∷ request_words r))
takes_size (Deliver message) = omega (arith, line_size (codes "deliver") (decimal message ∷ []))
takes_size (Tick node shard ms) = omega (arith, line_size (codes "tick") (decimal node ∷ decimal shard ∷ decimal ms ∷ []))

cut_size : (call : ℕ) (i : Image) (t : Turn) → length (spaced (turn_words t)) ≤ suc (length (event_line (event.Cut call i t)))
unfolding event_line
cut_size call i t = omega (arith, line_size (codes "cut") (decimal call ∷ image_word i ∷ turn_words t), spaced_both (codes "cut" ∷ decimal call ∷ image_word i ∷ []) (turn_words t))

-- ---- requests

compare_lawful : (c : Compare) → form.compare.is_lawful c ≡ true
unfolding form.compare
compare_lawful Equal = refl
compare_lawful Floor = refl
compare_lawful Ceiling = refl
compare_lawful Lower = refl
compare_lawful Higher = refl

query_lawful : (q : ShardQuery) → is_query q ≡ true → form.query.is_lawful q ≡ true
unfolding form.query
query_lawful (query.Get c key by) h = let x = and_parts (is_key key) (is_by by) h in and_from _ _ (compare_lawful c) (and_from _ _ (key_lawful key x.0) (by_lawful by x.1))
query_lawful (query.List r by) h = let x = and_parts (is_range r) (is_by by) h in and_from _ _ (range_lawful r x.0) (by_lawful by x.1)
query_lawful (query.Scan r by) h = let x = and_parts (is_range r) (is_by by) h in and_from _ _ (range_lawful r x.0) (by_lawful by x.1)
query_lawful (query.Notices past skip) h = h
query_lawful (query.KeepAlive n) h = h

never : (a : Bool) → a && false ≡ true → ⊥
never true h = cc
never false h = cc

turn_lawful : (p : Places) (t : Turn) → is_turn p t ≡ true → length (spaced (turn_words t)) ≤ 2 ^ 32 → turn_encodable t ≡ true
unfolding form.command
turn_lawful p (Client node shard (Write g (command.Write b))) h short = batch_lawful b (and_parts (are_lawful b) _ (and_parts _ _ h).1).0 (omega (arith, short, write_long node shard g b)) (omega (arith, short, write_size node shard g b))
turn_lawful p (Client node shard (Write g (command.Open n))) h short = (and_parts (is_alone g) (is_number n) (and_parts _ _ h).1).1
turn_lawful p (Client node shard (Write g (command.Close n))) h short = (and_parts (is_alone g) (is_number n) (and_parts _ _ h).1).1
turn_lawful p (Client node shard (Write g (command.Expire n))) h short = absurd (never _ h)
turn_lawful p (Client node shard (Read q)) h short = query_lawful q (and_parts _ _ h).1
turn_lawful p (Deliver message) h short = refl
turn_lawful p (Tick node shard ms) h short = refl

event_encodable : (p : Places) (e : Event) → is_event p e ≡ true → length (event_line e) < 2 ^ 32 → asks_encodable e ≡ true
event_encodable p (event.Takes t) h short = turn_lawful p t h (omega (arith, short, takes_size t))
event_encodable p (event.Cut call i t) h short = turn_lawful p t (and_parts _ _ h).1 (omega (arith, short, cut_size call i t))
event_encodable p (event.Stop node) h short = refl
event_encodable p (event.Start node) h short = refl
event_encodable p (event.Lose node) h short = refl
event_encodable p (event.Fence node shard term) h short = refl
event_encodable p (event.Lead node shard term) h short = refl

-- ---- the lines of a text

-- the first line isn't longer than the text, and no line is longer than n
record Within (count n : ℕ) (lines : List (List ℕ)) : Type 0 where
  pub first : (l : List ℕ) (rest : List (List ℕ)) → lines ≡ l ∷ rest → length l ≤ count
  pub all : list_all (λ l. leb (length l) n) lines ≡ true

within : (bytes : List ℕ) (n : ℕ) → length bytes ≤ n → Within (length bytes) n (lines_of bytes)
within [] n h = record { first = λ l rest e. absurd cc; all = refl }
within (b ∷ bytes) n h = by_test (eqb b 10) (lines_of bytes) (within bytes n (omega (arith, h)))
  where
    onto : (lines : List (List ℕ)) → Within (length bytes) n lines → Within (length (b ∷ bytes)) n (onto_first b lines)
    onto [] w = record {
      first = λ l rest e. let same : b ∷ [] ≡ l = cc in omega (arith, ap length same);
      all = and_from _ true (le-leb 1 n (omega (arith, h))) refl;
    }
    onto (l ∷ lines) w = record {
      first = λ k rest e. let same : b ∷ l ≡ k = cc in omega (arith, ap length same, w.first l lines refl);
      all = and_from _ _ (le-leb (suc (length l)) n (omega (arith, h, w.first l lines refl))) (and_parts _ _ w.all).1;
    }

    by_test : (x : Bool) (lines : List (List ℕ)) → Within (length bytes) n lines → Within (length (b ∷ bytes)) n (cond x ([] ∷ lines) (onto_first b lines))
    by_test true lines w = record {
      first = λ l rest e. let same : [] ≡ l = cc in omega (arith, ap length same);
      all = and_from _ _ (le-leb 0 n (omega arith)) w.all;
    }
    by_test false lines w = onto lines w

events_encodable : (p : Places) (n : ℕ) → n < 2 ^ 32 → (es : List Event) → list_all (is_event p) es ≡ true → list_all (λ l. leb (length l) n) (map event_line es) ≡ true → list_all asks_encodable es ≡ true
events_encodable p n small [] h k = refl
events_encodable p n small (e ∷ es) h k =
    let x = and_parts (is_event p e) _ h in
    let y = and_parts (leb (length (event_line e)) n) _ k in
    and_from _ _ (event_encodable p e x.0 (omega (arith, small, leb-true (length (event_line e)) n y.0))) (events_encodable p n small es x.1 y.1)

pub all_encodable : (bytes : List ℕ) (s : Schedule) → SpellsSchedule bytes s → length bytes < 2 ^ 32 → list_all asks_encodable s.events ≡ true
all_encodable bytes s h small =
    let short : list_all (λ l. leb (length l) (length bytes)) (first_line s.first ∷ map event_line s.events) ≡ true = subst (λ (ls : List (List ℕ)). list_all (λ l. leb (length l) (length bytes)) ls ≡ true) h.same (within bytes (length bytes) (omega arith)).all in
    events_encodable (places_of s.first) (length bytes) small s.events h.valid.lawful (and_parts _ _ short).1
