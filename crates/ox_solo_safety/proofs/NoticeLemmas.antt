-- The batches that a shard keeps are the notices of its history at offsets above its low mark.
use Rattle.std.proofs.Common.{◌≡◌, ◌∙◌, sym, ap, subst, refl, ℕ, zero, suc, ◌+◌, ◌-◌, ◌≤◌, Bool, true, false, cond, leb, ltb, List, [], ◌∷◌, ◌++◌, length, take, drop, filter, sum_by, slice_get, Option, Some, None, append-nil, append_assoc, length-append, arith}
use Rattle.std.specs.Prelude.{max, Result, Ok, Err}
use Rattle.std.specs.List.{flat_map}
use Rattle.std.proofs.lemmas.Bool.{leb-true, le-leb, lt-ltb, le-ltb}
use Rattle.std.proofs.lemmas.Grind.{flat_map-append}
use Rattle.std.proofs.lemmas.List.Elements.{filter-append}
use Rattle.ox_bytes.specs.Texts.{value_in}
use Rattle.ox_order.specs.declared.range.KeyRange.{KeyRange}
use Rattle.ox_types.specs.declared.log.EntryId.{EntryId}
use Rattle.ox_ops.specs.declared.write.Put.{Put}
use Rattle.ox_ops.specs.declared.write.Delete.{Delete}
use Rattle.ox_ops.specs.declared.write.WriteBatch.{WriteBatch}
use Rattle.ox_ops.specs.declared.write.ShardCommand.{ShardCommand}
use Rattle.ox_ops.specs.declared.write.ShardCommand.TheVariants as command
use Rattle.ox_ops.specs.declared.query.ShardQuery.{ShardQuery}
use Rattle.ox_ops.specs.declared.query.ShardQuery.TheVariants as query
use Rattle.ox_ops.specs.declared.reply.OpReply.TheVariants as reply
use Rattle.ox_ops.specs.declared.answer.Record.{Record}
use Rattle.ox_ops.specs.declared.notice.Notice.{Notice}
use Rattle.ox_ops.specs.declared.notice.Notice.TheVariants as notice
use Rattle.ox_ops.specs.declared.notice.NoticeItem.{NoticeItem}
use Rattle.ox_ops.specs.declared.notice.NoticeBatch.{NoticeBatch}
use Rattle.ox_ops.specs.State.{ShardState, empty_state, record_of, without_key, with_record, is_open}
use Rattle.ox_ops.specs.Weight.{batch_weight, weight_of, weight_limit, state_weight, session_weight}
use Rattle.ox_ops.specs.Operation.{Effect, refused, with_records, version_of, stored, unless_full, meets, put_record, put_key, put_at, put_under, put_in_session, put_on, delete_found, delete_on, range_on}
use Rattle.ox_ops.specs.Apply.{Applied, and_then, each_on, batch_on, replied, open_on, closed, close_on, command_on, kept_time, kept_weight, with_batch, old, young, heavy, light, dropped, last_offset, retained, moved_to, apply_entry}
use Rattle.ox_ops.specs.Answer.{items_in, items_after, notices_page, answer_to}
use Rattle.ox_ops.specs.Page.{page_within, page_of, page_items, page_bytes, is_more, item_size}
use Rattle.ox_types.specs.declared.log.Entry.{Entry}
use Rattle.ox_types.specs.declared.bad.MachineFault.{MachineFault}
use Rattle.ox_machine.specs.Store.{id_of, command_of, after_command, after, state_from, state_after, answer_after}
use Rattle.ox_meaning.specs.Shard.{shard_meaning}
use Rattle.ox_wire.specs.declared.event.Request.{Request}
use Rattle.ox_wire.specs.Events.{RunEvent as Event}
use Rattle.ox_solo_safety.specs.Moments.{history_at, CameBefore}
use Rattle.ox_solo_safety.specs.Says.{Says}
use Rattle.ox_solo_safety.specs.Notices.{items_at, ShowsFirst, given_by_command, given_by_one, given_above, IsNoticed, NoticesAreComplete}
use Rattle.ox_solo_safety.specs.Shard.{shard_noticing}
use Rattle.ox_solo_safety.specs.Legal.{IsRead, ReadsMatch}

-- ---- what a command leaves of time and notices

-- nothing of time and notices differs
record IsBeside (s t : ShardState) : Type 0 where
  time : t.time ≡ s.time
  low : t.low ≡ s.low
  batches : t.batches ≡ s.batches

itself : (s : ShardState) → IsBeside s s
itself s = record { time = refl; low = refl; batches = refl }

then : (s t u : ShardState) → IsBeside s t → IsBeside t u → IsBeside s u
then s t u a b = record { time = b.time ∙ a.time; low = b.low ∙ a.low; batches = b.batches ∙ a.batches }

either : {A : Type 0} (P : A → Type 0) (test : Bool) (x y : A) → P x → P y → P (cond test x y)
either P true x y h k = h
either P false x y h k = k

abbrev Leaves : ShardState → Effect → Type 0
Leaves s e = IsBeside s e.state

full_leaves : (s : ShardState) (r : Record) (weight : ℕ) → Leaves s (unless_full s r weight)
full_leaves s r weight =
    either (Leaves s) (leb weight weight_limit) (stored s r) (refused s (reply.ShardFull weight weight_limit)) (record { time = refl; low = refl; batches = refl }) (itself s)

put_at_leaves : (s : ShardState) (p : Put) (key : List ℕ) → Leaves s (put_at s p key)
put_at_leaves s p key =
    either (Leaves s) (meets p.expect (record_of key s.records)) (unless_full s (put_record s p key) (weight_of (with_record (put_record s p key) s.records) s.sessions)) (refused s (reply.UnexpectedVersion (version_of (record_of key s.records))))
    (full_leaves s (put_record s p key) (weight_of (with_record (put_record s p key) s.records) s.sessions)) (itself s)

put_under_leaves : (s : ShardState) (p : Put) (found : Result (List ℕ) ℕ) → Leaves s (put_under s p found)
put_under_leaves s p (Ok key) = put_at_leaves s p key
put_under_leaves s p (Err group) = itself s

put_in_session_leaves : (s : ShardState) (p : Put) (session : Option ℕ) → Leaves s (put_in_session s p session)
put_in_session_leaves s p None = put_under_leaves s p (put_key s p p.deltas)
put_in_session_leaves s p (Some id) =
    either (Leaves s) (is_open id s.sessions) (put_under s p (put_key s p p.deltas)) (refused s (reply.SessionDoesNotExist id)) (put_under_leaves s p (put_key s p p.deltas)) (itself s)

put_leaves : (s : ShardState) (p : Put) → Leaves s (put_on s p)
unfolding put_on
put_leaves s p = put_in_session_leaves s p p.session

delete_found_leaves : (s : ShardState) (d : Delete) (found : Option Record) → Leaves s (delete_found s d found)
delete_found_leaves s d None = itself s
delete_found_leaves s d (Some old) =
    either (Leaves s) (meets d.expect (Some old)) (record { state = with_records s (without_key d.key s.records); reply = reply.Deleted; notice = Some (notice.Deleted d.key) }) (refused s (reply.UnexpectedVersion (Some old.meta.version)))
    (record { time = refl; low = refl; batches = refl }) (itself s)

delete_leaves : (s : ShardState) (d : Delete) → Leaves s (delete_on s d)
unfolding delete_on
delete_leaves s d = delete_found_leaves s d (record_of d.key s.records)

range_leaves : (s : ShardState) (range : KeyRange) → Leaves s (range_on s range)
unfolding range_on
range_leaves s range = record { time = refl; low = refl; batches = refl }

each_leaves : {A : Type 0} (op : ShardState → A → Effect) → ((s : ShardState) (x : A) → Leaves s (op s x)) → (a : Applied) (xs : List A) → IsBeside a.state (each_on op a xs).state
each_leaves op leaves a [] = itself a.state
each_leaves op leaves a (x ∷ xs) =
    then a.state (op a.state x).state (each_on op (and_then a (op a.state x)) xs).state (leaves a.state x) (each_leaves op leaves (and_then a (op a.state x)) xs)

batch_leaves : (s : ShardState) (b : WriteBatch) → IsBeside s (batch_on s b).state
batch_leaves s b =
    let begun : Applied = record { state = s; replies = []; notices = [] } in
    let puts : Applied = each_on put_on begun b.puts in
    let deletes : Applied = each_on delete_on puts b.deletes in
    then s puts.state (batch_on s b).state (each_leaves put_on put_leaves begun b.puts)
    (then puts.state deletes.state (batch_on s b).state (each_leaves delete_on delete_leaves puts b.deletes) (each_leaves range_on range_leaves deletes b.ranges))

open_leaves : (s : ShardState) (at timeout : ℕ) → IsBeside s (open_on s at timeout).state
open_leaves s at timeout =
    either (λ (a : Applied). IsBeside s a.state) (leb (state_weight s + session_weight) weight_limit)
    (replied (record s { sessions = s.sessions ++ record { id = at; timeout = timeout } ∷ [] }) (reply.Opened at)) (replied s (reply.ShardFull (state_weight s + session_weight) weight_limit))
    (record { time = refl; low = refl; batches = refl }) (itself s)

close_leaves : (s : ShardState) (id : ℕ) → IsBeside s (close_on s id).state
close_leaves s id =
    either (λ (a : Applied). IsBeside s a.state) (is_open id s.sessions) (closed s id) (replied s (reply.SessionDoesNotExist id))
    (record { time = refl; low = refl; batches = refl }) (itself s)

command_leaves : (s : ShardState) (at : ℕ) (c : ShardCommand) → IsBeside s (command_on s at c).state
command_leaves s at (command.Write b) = batch_leaves s b
command_leaves s at (command.Open timeout) = open_leaves s at timeout
command_leaves s at (command.Close id) = close_leaves s id
command_leaves s at (command.Expire id) = close_leaves s id

-- ---- batches in order

-- from one offset and time to another neither falls
abbrev Rising : ℕ → ℕ → ℕ → ℕ → List NoticeBatch → Type 0
Rising o t n m [] = (o ≤ n) × (t ≤ m)
Rising o t n m (b ∷ bs) = (o ≤ b.offset) × (t ≤ b.time) × Rising b.offset b.time n m bs

wider : (o t n m n' m' : ℕ) (bs : List NoticeBatch) → Rising o t n m bs → n ≤ n' → m ≤ m' → Rising o t n' m' bs
wider o t n m n' m' [] h p q = let a = h.0 in let b = h.1 in (omega arith, omega arith)
wider o t n m n' m' (b ∷ bs) h p q = (h.0, h.1, wider b.offset b.time n m n' m' bs h.2 p q)

early : (o t n m : ℕ) (bs : List NoticeBatch) → Rising o t n m bs → Rising o 0 n m bs
early o t n m [] h = (h.0, omega arith)
early o t n m (b ∷ bs) h = (h.0, omega arith, h.2)

behind : (o t n m n' m' : ℕ) (bs : List NoticeBatch) (b : NoticeBatch) → Rising o t n m bs → n ≤ b.offset → m ≤ b.time → b.offset ≤ n' → b.time ≤ m' → Rising o t n' m' (bs ++ b ∷ [])
behind o t n m n' m' [] b h p q u v = let x = h.0 in let y = h.1 in (omega arith, omega arith, (u, v))
behind o t n m n' m' (c ∷ bs) b h p q u v = (h.0, h.1, behind c.offset c.time n m n' m' bs b h.2 p q u v)

with_rising : (low n m at time : ℕ) (notices : List Notice) (bs : List NoticeBatch) → Rising low 0 n m bs → n ≤ at → m ≤ time → Rising low 0 (at + 1) time (with_batch at time notices bs)
with_rising low n m at time [] bs h p q = wider low 0 n m (at + 1) time bs h (omega arith) q
with_rising low n m at time (x ∷ xs) bs h p q = behind low 0 n m (at + 1) time bs (record { offset = at; time = time; notices = x ∷ xs }) h p q (omega arith) (omega arith)

-- ---- their items

items-append : (x : ℕ) (bs cs : List NoticeBatch) → items_after x (bs ++ cs) ≡ items_after x bs ++ items_after x cs
items-append x bs cs =
    let test : NoticeBatch → Bool = λ (b : NoticeBatch). ltb x b.offset in
    ap (flat_map items_in) (filter-append test bs cs) ∙ flat_map-append items_in (filter test bs) (filter test cs)

nothing : {A : Type 0} (test : Bool) (xs : List A) → xs ++ cond test [] [] ≡ xs
nothing true xs = append-nil xs
nothing false xs = append-nil xs

one_item : (x : ℕ) (b : NoticeBatch) → items_after x (b ∷ []) ≡ cond (ltb x b.offset) (items_at b.offset b.notices) []
one_item x b = by_test (ltb x b.offset)
  where
    by_test : (test : Bool) → flat_map items_in (cond test (b ∷ []) []) ≡ cond test (items_at b.offset b.notices) []
    by_test true = append-nil (items_in b)
    by_test false = refl

with_items : (x at time : ℕ) (notices : List Notice) (bs : List NoticeBatch) → items_after x (with_batch at time notices bs) ≡ items_after x bs ++ cond (ltb x at) (items_at at notices) []
with_items x at time [] bs = sym (nothing (ltb x at) (items_after x bs))
with_items x at time (y ∷ ys) bs =
    let b : NoticeBatch = record { offset = at; time = time; notices = y ∷ ys } in
    items-append x bs (b ∷ []) ∙ ap (λ l. items_after x bs ++ l) (one_item x b)

-- ---- what retention drops

all_young : (time o t n m : ℕ) (bs : List NoticeBatch) → Rising o t n m bs → time ≤ t + kept_time → young time bs ≡ bs
all_young time o t n m [] h le = refl
all_young time o t n m (b ∷ bs) h le =
    let later : t ≤ b.time = h.1 in
    let is : leb time (b.time + kept_time) ≡ true = le-leb _ _ (omega arith) in
    rw is (ap (λ (l : List NoticeBatch). b ∷ l) (all_young time b.offset b.time n m bs h.2 (omega arith)))

none_old : (time o t n m : ℕ) (bs : List NoticeBatch) → Rising o t n m bs → time ≤ t + kept_time → old time bs ≡ []
none_old time o t n m [] h le = refl
none_old time o t n m (b ∷ bs) h le =
    let later : t ≤ b.time = h.1 in
    let is : leb time (b.time + kept_time) ≡ true = le-leb _ _ (omega arith) in
    rw is (none_old time b.offset b.time n m bs h.2 (omega arith))

light_cut : (bs : List NoticeBatch) → bs ≡ heavy bs ++ light bs
light_cut [] = refl
light_cut (b ∷ bs) = by_test (leb (sum_by batch_weight (b ∷ bs)) kept_weight) refl (light_cut bs)
  where
    by_test : (test : Bool) → leb (sum_by batch_weight (b ∷ bs)) kept_weight ≡ test → bs ≡ heavy bs ++ light bs → b ∷ bs ≡ heavy (b ∷ bs) ++ light (b ∷ bs)
    by_test true e h = rw e refl
    by_test false e h = rw e (ap (λ (l : List NoticeBatch). b ∷ l) h)

-- what stays is an end of the batches
cut : (time o t n m : ℕ) (bs : List NoticeBatch) → Rising o t n m bs → bs ≡ dropped time bs ++ light (young time bs)
cut time o t n m [] h = refl
cut time o t n m (b ∷ bs) h = by_test (leb time (b.time + kept_time)) refl (cut time b.offset b.time n m bs h.2)
  where
    by_test : (test : Bool) → leb time (b.time + kept_time) ≡ test → bs ≡ dropped time bs ++ light (young time bs) → b ∷ bs ≡ dropped time (b ∷ bs) ++ light (young time (b ∷ bs))
    by_test true e rest =
        let same : young time bs ≡ bs = all_young time b.offset b.time n m bs h.2 (leb-true _ _ e) in
        let none : old time bs ≡ [] = none_old time b.offset b.time n m bs h.2 (leb-true _ _ e) in
        rw e (light_cut (b ∷ bs) ∙ (λ i. (sym none i ++ heavy (b ∷ sym same i)) ++ light (b ∷ sym same i)))
    by_test false e rest = rw e (ap (λ (l : List NoticeBatch). b ∷ l) rest)

-- what goes has no items above the new mark, which isn't below the old one, and what stays rises from it
record IsParted (low n m : ℕ) (gone kept : List NoticeBatch) (mark : ℕ) : Type 0 where
  above : low ≤ mark
  none : (x : ℕ) → mark ≤ x → items_after x gone ≡ []
  rising : Rising mark 0 n m kept

parts : (low t n m : ℕ) (gone kept : List NoticeBatch) → Rising low t n m (gone ++ kept) → IsParted low n m gone kept (last_offset low gone)
parts low t n m [] kept h = record { above = omega arith; none = λ x l. refl; rising = early low t n m kept h }
parts low t n m (b ∷ gone) kept h =
    let rest = parts b.offset b.time n m gone kept h.2 in
    let here : low ≤ b.offset = h.0 in
    let there : b.offset ≤ last_offset b.offset gone = rest.above in
    record {
      above = omega arith;
      none = λ x l. let small : ltb x b.offset ≡ false = le-ltb x b.offset (omega arith) in rw small (rest.none x l);
      rising = rest.rising;
    }

-- ---- a state keeps what was given so far

-- the kept batches rise from the low mark to the next offset and the store's time, and above the mark no notice is missing
record IsKeeping (s : ShardState) (next : ℕ) (given : ℕ → List NoticeItem) : Type 0 where
  rising : Rising s.low 0 next s.time s.batches
  all : (x : ℕ) → s.low ≤ x → items_after x s.batches ≡ given x

retains : (s : ShardState) (bs : List NoticeBatch) (next : ℕ) (given : ℕ → List NoticeItem) → Rising s.low 0 next s.time bs → ((x : ℕ) → s.low ≤ x → items_after x bs ≡ given x) → IsKeeping (retained s bs) next given
retains s bs next given rising all =
    let gone : List NoticeBatch = dropped s.time bs in
    let kept : List NoticeBatch = light (young s.time bs) in
    let c : bs ≡ gone ++ kept = cut s.time s.low 0 next s.time bs rising in
    let p = parts s.low 0 next s.time gone kept (subst (Rising s.low 0 next s.time) c rising) in
    let above : s.low ≤ last_offset s.low gone = p.above in
    record {
      rising = p.rising;
      all = λ x l. sym (ap (items_after x) c ∙ items-append x gone kept ∙ ap (λ k. k ++ items_after x kept) (p.none x l)) ∙ all x (omega arith);
    }

command_keeps : (s : ShardState) (next time : ℕ) (given : ℕ → List NoticeItem) (c : ShardCommand) → IsKeeping s next given → IsKeeping (apply_entry s next time c).state (next + 1) (λ x. given x ++ cond (ltb x next) (items_at next (apply_entry s next time c).notices) [])
unfolding apply_entry
command_keeps s next time given c keeping =
    let a : Applied = command_on (moved_to time s) next c in
    let beside : IsBeside (moved_to time s) a.state = command_leaves (moved_to time s) next c in
    let moved : a.state.time ≡ max s.time time = beside.time in
    let rising : Rising s.low 0 (next + 1) a.state.time (with_batch next a.state.time a.notices s.batches) = with_rising s.low next s.time next a.state.time a.notices s.batches keeping.rising (omega arith) (omega arith) in
    retains a.state (with_batch next a.state.time a.notices a.state.batches) (next + 1) (λ x. given x ++ cond (ltb x next) (items_at next a.notices) [])
    (rw (beside.low, beside.batches) rising)
    (λ x l. with_items x next a.state.time a.notices a.state.batches ∙ ap (λ l. l ++ cond (ltb x next) (items_at next a.notices) []) (ap (items_after x) beside.batches ∙ keeping.all x (rw beside.low at l)))

body_keeps : (s : ShardState) (id : EntryId) (time : ℕ) (given : ℕ → List NoticeItem) (c : Option ShardCommand) → IsKeeping s id.offset given
    → IsKeeping (after_command shard_meaning s id time c) (id.offset + 1) (λ x. given x ++ cond (ltb x id.offset) (items_at id.offset (given_by_command shard_meaning shard_noticing s id time c)) [])
body_keeps s id time given None keeping = record {
  rising = wider s.low 0 id.offset s.time (id.offset + 1) s.time s.batches keeping.rising (omega arith) (omega arith);
  all = λ x l. keeping.all x l ∙ sym (nothing (ltb x id.offset) (given x));
}
body_keeps s id time given (Some c) keeping = command_keeps s id.offset time given c keeping

-- ---- a history whose entries stand at their offsets

abbrev InStep : ℕ → List Entry → Type 0
InStep n [] = Unit {0}
InStep n (e ∷ es) = (n ≡ e.offset) × InStep (n + 1) es

abbrev given_of : ℕ → ShardState → List Entry → List NoticeItem
given_of = given_above shard_meaning shard_noticing

run_keeps : (s : ShardState) (next : ℕ) (given : ℕ → List NoticeItem) (h : List Entry) → InStep next h → IsKeeping s next given → (x : ℕ) → (state_from shard_meaning s h).low ≤ x → items_after x (state_from shard_meaning s h).batches ≡ given x ++ given_of x s h
run_keeps s next given [] steps keeping x l = keeping.all x l ∙ sym (append-nil (given x))
run_keeps s next given (e ∷ es) steps keeping x l =
    let here : IsKeeping s e.offset given = subst (λ n. IsKeeping s n given) steps.0 keeping in
    let more : ℕ → List NoticeItem = λ y. given y ++ given_by_one shard_meaning shard_noticing y s e in
    let then_keeps : IsKeeping (after shard_meaning s e) (e.offset + 1) more = body_keeps s (id_of e) e.time given (command_of shard_meaning e.body) here in
    let rest : InStep (e.offset + 1) es = subst (λ n. InStep (n + 1) es) steps.0 steps.1 in
    run_keeps (after shard_meaning s e) (e.offset + 1) more es rest then_keeps x l ∙ append_assoc (given x) (given_by_one shard_meaning shard_noticing x s e) (given_of x (after shard_meaning s e) es)

-- the kept items above an offset that isn't below the low mark are those that the history gives
history_keeps : (h : List Entry) → InStep 0 h → (x : ℕ) → (state_after shard_meaning h).low ≤ x → items_after x (state_after shard_meaning h).batches ≡ given_of x empty_state h
unfolding state_after
history_keeps h steps x l = run_keeps empty_state 0 (λ y. []) h steps (record { rising = (omega arith, omega arith); all = λ y k. refl }) x l

-- ---- pages

page_begins : {A : Type 0} (size : A → ℕ) (count room : ℕ) (items : List A) → page_within size count room items ++ drop (length (page_within size count room items)) items ≡ items
page_begins size zero room items = refl
page_begins size (suc count) room [] = refl
page_begins size (suc count) room (x ∷ items) = by_test (leb (size x) room) (page_begins size count (room - size x) items)
  where
    by_test : (test : Bool) → page_within size count (room - size x) items ++ drop (length (page_within size count (room - size x) items)) items ≡ items
        → cond test (x ∷ page_within size count (room - size x) items) [] ++ drop (length (cond test (x ∷ page_within size count (room - size x) items) [])) (x ∷ items) ≡ x ∷ items
    by_test true h = ap (λ l. x ∷ l) h
    by_test false h = refl

some_left : (a b c : ℕ) → c ≡ a + b → ltb a c ≡ ltb 0 b
some_left a zero c e = le-ltb a c (omega arith) ∙ sym (le-ltb 0 0 (omega arith))
some_left a (suc b) c e = lt-ltb a c (omega arith) ∙ sym (lt-ltb 0 (suc b) (omega arith))

shows_first : (items : List NoticeItem) → ShowsFirst items (notices_page items)
shows_first items =
    let page : List NoticeItem = page_of item_size items in
    let left : List NoticeItem = drop (length (page_of item_size items)) items in
    let all : page ++ left ≡ items = page_begins item_size page_items page_bytes items in
    record {
      page = page;
      left = left;
      more = is_more item_size items;
      is = refl;
      all = all;
      more_is = some_left (length page) (length left) (length items) (ap length (sym all) ∙ length-append page left);
    }

-- the store after a history answers with what the history gives
answer_is_noticed : (h : List Entry) → InStep 0 h → (x skip : ℕ) → IsNoticed shard_meaning shard_noticing h x skip (answer_to (state_after shard_meaning h) (query.Notices x skip))
unfolding answer_to
answer_is_noticed h steps x skip =
    let s : ShardState = state_after shard_meaning h in
    record {
      kept = λ l.
          let kept : ltb x (state_after shard_meaning h).low ≡ false = le-ltb _ _ l in
          let same : drop skip (items_after x s.batches) ≡ drop skip (given_of x empty_state h) = ap (drop skip) (history_keeps h steps x l) in
          rw kept (subst (λ ys. ShowsFirst ys (notices_page (drop skip (items_after x s.batches)))) same (shows_first (drop skip (items_after x s.batches))));
      gone = λ l.
          let gone : ltb x (state_after shard_meaning h).low ≡ true = lt-ltb _ _ l in
          rw gone refl;
    }

-- ---- a run

at_places : (n : ℕ) (h : List Entry) → ((i : ℕ) (e : Entry) → slice_get h i ≡ Some e → e.offset ≡ n + i) → InStep n h
at_places n [] places = tt
at_places n (e ∷ es) places =
    let here : e.offset ≡ n + 0 = places 0 e refl in
    (omega arith, at_places (n + 1) es (λ i f g. let there : f.offset ≡ n + suc i = places (suc i) f g in omega arith))

InStep-take : (p n : ℕ) (h : List Entry) → InStep n h → InStep n (take p h)
InStep-take zero n [] steps = tt
InStep-take zero n (e ∷ es) steps = tt
InStep-take (suc p) n [] steps = tt
InStep-take (suc p) n (e ∷ es) steps = (steps.0, InStep-take p (n + 1) es steps.1)

module _ (blocks : ℕ) (es : List Event) where
  -- an arrival has one request
  abbrev pub HasOneRequest : Type 0
  HasOneRequest = (k a s s' : ℕ) (r r' : Request) → CameBefore shard_meaning blocks es k a s r → CameBefore shard_meaning blocks es k a s' r' → r ≡ r'

  abbrev pub AreInPlace : Type 0
  AreInPlace = (k s o : ℕ) (e : Entry) → slice_get (history_at shard_meaning blocks es k s) o ≡ Some e → e.offset ≡ o

  abbrev read_of : List ℕ → Request
  read_of b = record { write = false; body = b }

  body_is : (b c : List ℕ) → read_of b ≡ read_of c → b ≡ c
  body_is b c h = ap (λ (r : Request). r.body) h

  abbrev read_as : ShardQuery → Result ShardQuery MachineFault
  read_as q = Ok q

  ok_is : (x y : ShardQuery) → read_as x ≡ read_as y → x ≡ y
  ok_is x y h = cc

  pub notices_complete : ReadsMatch shard_meaning blocks es → HasOneRequest → AreInPlace → NoticesAreComplete shard_meaning shard_noticing blocks es
  notices_complete reads one places k j a s t p x skip bytes asked r came queried =
      let is : IsRead shard_meaning blocks es k a s t p bytes = reads k j a s t p bytes r in
      let same : is.bytes ≡ asked = body_is is.bytes asked (one (k + 1) a s s (record { write = false; body = is.bytes }) (record { write = false; body = asked }) is.came came) in
      let query_is : is.query ≡ query.Notices x skip = ok_is is.query (query.Notices x skip) (sym is.asks ∙ ap (value_in shard_meaning.queries) same ∙ queried) in
      let h : List Entry = history_at shard_meaning blocks es (k + 1) s in
      let steps : InStep 0 (take p h) = InStep-take p 0 h (at_places 0 h (λ i e g. omega (arith, places (k + 1) s i e g))) in
      record {
        told = answer_to (state_after shard_meaning (take p h)) (query.Notices x skip);
        says = subst (λ q. Says shard_meaning.answers bytes (answer_after shard_meaning h p q)) query_is is.says;
        noticed = answer_is_noticed (take p h) steps x skip;
      }
