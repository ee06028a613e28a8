-- What a command leaves behind: a state that fits one entry more, and replies that can be written.
use Rattle.std.proofs.Common.{◌≡◌, ◌≤◌, ◌<◌, ◌∙◌, ◌+◌, ◌*◌, ◌^◌, ℕ, Bool, true, List, [], ◌∷◌, ◌++◌, Option, Some, None, length, filter, sum_by, leb, ltb, refl, ap, arith, inl, inr, length-append}
use Rattle.std.specs.Prelude.{IsTrue, All, not, ◌==◌}
use Rattle.std.specs.List.{list_all}
use Rattle.std.specs.Option.{option_map}
use Rattle.std.proofs.lemmas.Bool.{cases_Bool, lt-ltb, leb-true, ltb-false, and_parts, and_from, or_parts}
use Rattle.std.proofs.lemmas.List.Elements.{All-nil, All-cons, All-head, All-tail, All-append, All-push, All-filter, All-weaker, All-map}
use Rattle.std.proofs.lemmas.List.Filters.{length-filter_both}
use Rattle.ox_types.specs.Limits.{count_limit, time_limit}
use Rattle.ox_bytes.specs.Fields.{list, number64}
use Rattle.ox_order.specs.declared.range.KeyRange.{KeyRange}
use Rattle.ox_order.specs.Forms.{key_range}
use Rattle.ox_ops.specs.declared.write.Put.{Put}
use Rattle.ox_ops.specs.declared.write.Delete.{Delete}
use Rattle.ox_ops.specs.declared.write.WriteBatch.{WriteBatch}
use Rattle.ox_ops.specs.declared.write.ShardCommand.{ShardCommand}
use Rattle.ox_ops.specs.declared.write.ShardCommand.TheVariants.{Write, Open, Close, Expire}
use Rattle.ox_ops.specs.declared.reply.OpReply.{OpReply}
use Rattle.ox_ops.specs.declared.reply.OpReply.TheVariants as reply_is
use Rattle.ox_ops.specs.declared.answer.Record.{Record}
use Rattle.ox_ops.specs.declared.notice.Notice.{Notice}
use Rattle.ox_ops.specs.declared.notice.Notice.TheVariants as notice_is
use Rattle.ox_ops.specs.declared.notice.NoticeBatch.{NoticeBatch}
use Rattle.ox_ops.specs.Forms.{put, delete, write_batch, command, op_reply, shard_reply, notice}
use Rattle.ox_ops.specs.State.{ShardState, Session, is_member, is_open}
use Rattle.ox_ops.specs.Weight.{state_weight, weight_limit, session_weight, record_weight, batch_weight}
use Rattle.ox_ops.specs.Operation.{Effect, put_on, delete_on, range_on}
use Rattle.ox_ops.specs.Apply.{Applied, some_notice, and_then, each_on, batch_on, replied, open_on, closed, close_on, command_on, kept_time, kept_weight, with_batch, old, young, heavy, light, dropped, last_offset, retained, moved_to, with_notices, apply_entry}
use Rattle.ox_ops.specs.Check.{put_fault, put_faults, bad_put, is_many, operations_in, command_fault}
use Rattle.ox_ops.specs.CheckLaws.{neither_faulty, not_faulty}
use Rattle.ox_machine.specs.Meaning.{reads}
use Rattle.ox_meaning.specs.Fits.{IsMade, IsLeft, SessionsRise, FitsLog}
use Rattle.ox_meaning.specs.Parts.{either, none_mapped, IfThere, list_all-All, All-list_all, sum-filter-le}
use Rattle.ox_meaning.specs.AnswerLaws.{key_lawful}
use Rattle.ox_meaning.specs.OperationLaws.{IsKept, IsBeside, IsDone, closed_reply, opened_reply, session_reply, full_reply, deleted_notice, few_records, put_done, delete_done, range_done}
use Rattle.ox_meaning.specs.Shard.{shard_meaning}
use Rattle.ox_meaning.specs.ReadLaws.{write_none}

-- a reply and a notice that can be written
abbrev LawfulReply : OpReply → Type 0
LawfulReply r = op_reply.is_lawful r ≡ true

abbrev LawfulNotice : Notice → Type 0
LawfulNotice n = IsTrue (notice.is_lawful n)

-- ---- operations in order

-- what operations on a state have made so far: one reply for each, and at most as many puts
record IsRun (s : ShardState) (a : Applied) : Type 0 where
  kept : IsKept a.state
  versions : a.state.next_version ≤ s.next_version + length a.replies
  beside : IsBeside s a.state
  replies : All LawfulReply a.replies
  notices : All LawfulNotice a.notices

beside_then : (s t u : ShardState) → IsBeside s t → IsBeside t u → IsBeside s u
beside_then s t u a b = record { low = b.low ∙ a.low; sessions = b.sessions ∙ a.sessions; batches = b.batches ∙ a.batches }

some_notices : (o : Option Notice) → IfThere LawfulNotice o → All LawfulNotice (some_notice o)
some_notices None h = All-nil LawfulNotice
some_notices (Some n) h = All-cons LawfulNotice n [] h (All-nil LawfulNotice)

then_run : (s : ShardState) (a : Applied) (e : Effect) → IsRun s a → IsDone a.state e → IsRun s (and_then a e)
then_run s a e run done =
    let more = length-append a.replies (e.reply ∷ []) in
    let was = run.versions in
    let one = done.versions in
    record {
      kept = done.kept;
      versions = omega arith;
      beside = beside_then s a.state e.state run.beside done.beside;
      replies = All-push LawfulReply a.replies e.reply run.replies done.reply;
      notices = All-append LawfulNotice a.notices (some_notice e.notice) run.notices (some_notices e.notice done.notice);
    }

-- a run, and how many replies it has given
record HasRun (s : ShardState) (a : Applied) (count : ℕ) : Type 0 where
  run : IsRun s a
  counted : length a.replies ≡ count

module _ {A : Type 0} (op : ShardState → A → Effect) (Good : A → Type 0) (step : (s : ShardState) (x : A) → IsKept s → s.next_version < 2 ^ 63 → Good x → IsDone s (op s x)) (s : ShardState) where
  each_run : (a : Applied) (xs : List A) → All Good xs → IsRun s a → s.next_version + length a.replies + length xs ≤ 2 ^ 63 → HasRun s (each_on op a xs) (length a.replies + length xs)
  each_run a [] good run room = let same : length a.replies ≡ length a.replies + 0 = omega arith in record { run = run; counted = same }
  each_run a (x ∷ xs) good run room =
      let was = run.versions in
      let done = step a.state x run.kept (omega arith) (All-head Good x xs good) in
      let more : length (a.replies ++ (op a.state x).reply ∷ []) ≡ length a.replies + 1 = length-append a.replies ((op a.state x).reply ∷ []) in
      let rest = each_run (and_then a (op a.state x)) xs (All-tail Good x xs good) (then_run s a (op a.state x) run done) (omega arith) in
      let count = rest.counted in
      let same : length a.replies + 1 + length xs ≡ length a.replies + length (x ∷ xs) = omega arith in
      record { run = rest.run; counted = count ∙ ap (λ n. n + length xs) more ∙ same }

-- a put that a log may hold
record GoodPut (p : Put) : Type 0 where
  lawful : IsTrue (put.is_lawful p)
  faultless : put_fault p ≡ None

good_puts : (index : ℕ) (puts : List Put) → list_all put.is_lawful puts ≡ true → put_faults index puts ≡ None → All GoodPut puts
good_puts index [] h free = All-nil GoodPut
good_puts index (p ∷ puts) h free =
    let lawful = and_parts (put.is_lawful p) (list_all put.is_lawful puts) h in
    let none = neither_faulty (option_map (bad_put index) (put_fault p)) (put_faults (index + 1) puts) free in
    All-cons GoodPut p puts (record { lawful = lawful.0; faultless = none_mapped (bad_put index) (put_fault p) none.0 }) (good_puts (index + 1) puts lawful.1 none.1)

-- a batch that a log may hold
record GoodBatch (b : WriteBatch) : Type 0 where
  puts : All GoodPut b.puts
  deletes : All (λ (d : Delete). IsTrue (delete.is_lawful d)) b.deletes
  ranges : All (λ (r : KeyRange). IsTrue (key_range.is_lawful r)) b.ranges
  few : operations_in b ≤ 1000

-- a lawful batch
record BatchParts (b : WriteBatch) : Type 0 where
  puts : list_all put.is_lawful b.puts ≡ true
  deletes : list_all delete.is_lawful b.deletes ≡ true
  ranges : list_all key_range.is_lawful b.ranges ≡ true

batch_parts : (b : WriteBatch) → IsTrue (command.is_lawful (Write b)) → BatchParts b
unfolding command write_batch
batch_parts b h =
    let a = and_parts ((list put).is_lawful b.puts) _ h in
    let c = and_parts ((list delete).is_lawful b.deletes) ((list key_range).is_lawful b.ranges) a.1 in
    record { puts = (and_parts _ _ a.0).1; deletes = (and_parts _ _ c.0).1; ranges = (and_parts _ _ c.1).1 }

good_batch : (b : WriteBatch) → IsTrue (command.is_lawful (Write b)) → command_fault (Write b) ≡ None → GoodBatch b
unfolding command_fault
good_batch b h free =
    let parts = batch_parts b h in
    let first = neither_faulty _ (put_faults 0 b.puts) free in
    let ops = neither_faulty _ _ first.0 in
    let many = or_parts (operations_in b == 0) (ltb 1000 (operations_in b)) (not_faulty (is_many (operations_in b)) _ ops.0) in
    record {
      puts = good_puts 0 b.puts parts.puts first.1;
      deletes = All-list_all delete.is_lawful b.deletes parts.deletes;
      ranges = All-list_all key_range.is_lawful b.ranges parts.ranges;
      few = ltb-false 1000 (operations_in b) many.1;
    }

-- a state before any operation
abbrev begun : ShardState → Applied
begun s = record { state = s; replies = []; notices = [] }

begun_run : (s : ShardState) → IsKept s → IsRun s (begun s)
begun_run s kept = record { kept = kept; versions = omega arith; beside = record { low = refl; sessions = refl; batches = refl }; replies = All-nil LawfulReply; notices = All-nil LawfulNotice }

batch_run : (s : ShardState) (b : WriteBatch) → IsKept s → s.next_version + 1000 ≤ 2 ^ 63 → GoodBatch b → HasRun s (batch_on s b) (operations_in b)
batch_run s b kept room good =
    let few = good.few in
    let puts = each_run put_on GoodPut (λ t x k small g. put_done t x k small g.lawful g.faultless) s (begun s) b.puts good.puts (begun_run s kept) (omega arith) in
    let n : length (each_on put_on (begun s) b.puts).replies ≡ length b.puts = puts.counted ∙ zero_plus (length b.puts) in
    let deletes = each_run delete_on (λ (d : Delete). IsTrue (delete.is_lawful d)) (λ t x k small g. delete_done t x k g) s (each_on put_on (begun s) b.puts) b.deletes good.deletes puts.run (omega arith) in
    let m : length (each_on delete_on (each_on put_on (begun s) b.puts) b.deletes).replies ≡ length b.puts + length b.deletes = deletes.counted ∙ ap (λ k. k + length b.deletes) n in
    let ranges = each_run range_on (λ (r : KeyRange). IsTrue (key_range.is_lawful r)) (λ t x k small g. range_done t x k g) s (each_on delete_on (each_on put_on (begun s) b.puts) b.deletes) b.ranges good.ranges deletes.run (omega arith) in
    record { run = ranges.run; counted = ranges.counted ∙ ap (λ k. k + length b.ranges) m }
  where
    zero_plus : (k : ℕ) → 0 + k ≡ k
    zero_plus k = omega arith

-- ---- commands

-- what the command of an entry at an offset has made of a state, before notices are kept
record IsApplied (s : ShardState) (at : ℕ) (a : Applied) : Type 0 where
  kept : IsKept a.state
  versions : a.state.next_version ≤ s.next_version + 1000
  low : a.state.low ≡ s.low
  batches : a.state.batches ≡ s.batches
  rise : SessionsRise a.state.sessions
  opened : All (λ (x : Session). x.id < at + 1) a.state.sessions
  replies : IsTrue (shard_reply.is_lawful (record { ops = a.replies }))
  notices : All LawfulNotice a.notices

replies_lawful : (rs : List OpReply) → length rs ≤ 1000 → All LawfulReply rs → IsTrue (shard_reply.is_lawful (record { ops = rs }))
unfolding shard_reply
replies_lawful rs few all = and_from (ltb (length rs) (2 ^ 32)) (list_all op_reply.is_lawful rs) (lt-ltb (length rs) (2 ^ 32) (omega arith)) (list_all-All op_reply.is_lawful rs all)

one_lawful : (r : OpReply) → LawfulReply r → IsTrue (shard_reply.is_lawful (record { ops = r ∷ [] }))
one_lawful r h = replies_lawful (r ∷ []) (omega arith) (All-cons LawfulReply r [] h (All-nil LawfulReply))

-- the sessions of a state behind entries below this offset
record IsSeated (at : ℕ) (xs : List Session) : Type 0 where
  rise : SessionsRise xs
  opened : All (λ (x : Session). x.id < at) xs

later : (at : ℕ) (xs : List Session) → All (λ (x : Session). x.id < at) xs → All (λ (x : Session). x.id < at + 1) xs
later at xs h = All-weaker (λ (x : Session). x.id < at) (λ (x : Session). x.id < at + 1) (λ x k. omega arith) xs h

write_applied : (s : ShardState) (at : ℕ) (b : WriteBatch) → IsKept s → IsSeated at s.sessions → s.next_version + 1000 ≤ 2 ^ 63 → GoodBatch b → IsApplied s at (batch_on s b)
write_applied s at b kept seated room good =
    let has = batch_run s b kept room good in
    let run = has.run in
    let count = has.counted in
    let few = good.few in
    let was = run.versions in
    let same = run.beside.sessions in
    record {
      kept = run.kept;
      versions = omega arith;
      low = run.beside.low;
      batches = run.beside.batches;
      rise = rw same seated.rise;
      opened = rw same (later at s.sessions seated.opened);
      replies = replies_lawful (batch_on s b).replies (omega arith) run.replies;
      notices = run.notices;
    }

replied_applied : (s : ShardState) (at : ℕ) (r : OpReply) → IsKept s → IsSeated at s.sessions → LawfulReply r → IsApplied s at (replied s r)
replied_applied s at r kept seated h = record {
  kept = kept;
  versions = omega arith;
  low = refl;
  batches = refl;
  rise = seated.rise;
  opened = later at s.sessions seated.opened;
  replies = one_lawful r h;
  notices = All-nil LawfulNotice;
}

rise-filter : (test : Session → Bool) (xs : List Session) → SessionsRise xs → SessionsRise (filter test xs)
rise-filter test [] h = tt
rise-filter test (x ∷ xs) h =
    either SessionsRise (test x) (x ∷ filter test xs) (filter test xs) (All-filter test (λ (y : Session). x.id < y.id) xs h.0, rise-filter test xs h.1) (rise-filter test xs h.1)

rise-last : (at timeout : ℕ) (xs : List Session) → SessionsRise xs → All (λ (x : Session). x.id < at) xs → SessionsRise (xs ++ record { id = at; timeout = timeout } ∷ [])
rise-last at timeout [] h below = (All-nil (λ (y : Session). at < y.id), tt)
rise-last at timeout (x ∷ xs) h below =
    (All-push (λ (y : Session). x.id < y.id) xs (record { id = at; timeout = timeout }) h.0 (All-head (λ (y : Session). y.id < at) x xs below), rise-last at timeout xs h.1 (All-tail (λ (y : Session). y.id < at) x xs below))

open_applied : (s : ShardState) (at timeout : ℕ) → at < count_limit → IsKept s → IsSeated at s.sessions → IsApplied s at (open_on s at timeout)
open_applied s at timeout small kept seated = elim (cases_Bool (leb (state_weight s + session_weight) weight_limit)) [
  | inl fits ↦
      let light = leb-true (state_weight s + session_weight) weight_limit fits in
      let more = length-append s.sessions (record { id = at; timeout = timeout } ∷ []) in
      rw fits (record {
        kept = record { now = kept.now; weight = omega arith; made = kept.made };
        versions = omega arith;
        low = refl;
        batches = refl;
        rise = rise-last at timeout s.sessions seated.rise seated.opened;
        opened = All-push (λ (x : Session). x.id < at + 1) s.sessions (record { id = at; timeout = timeout }) (later at s.sessions seated.opened) (omega arith);
        replies = one_lawful (reply_is.Opened at) (opened_reply at (omega arith));
        notices = All-nil LawfulNotice;
      })
  | inr full ↦
      let was = kept.weight in
      rw full (replied_applied s at _ kept seated (full_reply (state_weight s + session_weight) (omega arith)))
]

closed_applied : (s : ShardState) (at id : ℕ) → IsKept s → IsSeated at s.sessions → IsApplied s at (closed s id)
closed_applied s at id kept seated =
    let less = sum-filter-le record_weight (λ r. not (is_member id r)) s.records in
    let fewer = length-filter_both (λ (x : Session). not (x.id == id)) (λ (x : Session). not (not (x.id == id))) (λ x. refl) s.sessions in
    let was = kept.weight in
    let few = few_records s (filter (is_member id) s.records) (sum-filter-le record_weight (is_member id) s.records) kept.weight in
    record {
      kept = record { now = kept.now; weight = omega arith; made = All-filter (λ r. not (is_member id r)) (IsMade s.next_version) s.records kept.made };
      versions = omega arith;
      low = refl;
      batches = refl;
      rise = rise-filter (λ (x : Session). not (x.id == id)) s.sessions seated.rise;
      opened = All-filter (λ (x : Session). not (x.id == id)) (λ (x : Session). x.id < at + 1) s.sessions (later at s.sessions seated.opened);
      replies = one_lawful (reply_is.Closed (length (filter (is_member id) s.records))) (closed_reply (length (filter (is_member id) s.records)) (omega arith));
      notices = All-map LawfulNotice (λ (r : Record). notice_is.Deleted r.key) (filter (is_member id) s.records)
          (All-weaker (IsMade s.next_version) (λ (r : Record). LawfulNotice (notice_is.Deleted r.key)) (λ r m. deleted_notice r.key (key_lawful r m.lawful)) (filter (is_member id) s.records) (All-filter (is_member id) (IsMade s.next_version) s.records kept.made));
    }

close_applied : (s : ShardState) (at id : ℕ) → IsTrue (number64.is_lawful id) → IsKept s → IsSeated at s.sessions → IsApplied s at (close_on s id)
close_applied s at id h kept seated =
    either (IsApplied s at) (is_open id s.sessions) (closed s id) (replied s (reply_is.SessionDoesNotExist id)) (closed_applied s at id kept seated) (replied_applied s at _ kept seated (session_reply id h))

close_id : (id : ℕ) → IsTrue (command.is_lawful (Close id)) → IsTrue (number64.is_lawful id)
unfolding command
close_id id h = h

expire_id : (id : ℕ) → IsTrue (command.is_lawful (Expire id)) → IsTrue (number64.is_lawful id)
unfolding command
expire_id id h = h

command_applied : (s : ShardState) (at : ℕ) (c : ShardCommand) → at < count_limit → IsKept s → IsSeated at s.sessions → s.next_version + 1000 ≤ 2 ^ 63 → IsTrue (command.is_lawful c) → IsTrue (reads shard_meaning c) → IsApplied s at (command_on s at c)
command_applied s at (Write b) small kept seated room h r = write_applied s at b kept seated room (good_batch b h (write_none b r))
command_applied s at (Open timeout) small kept seated room h r = open_applied s at timeout small kept seated
command_applied s at (Close id) small kept seated room h r = close_applied s at id (close_id id h) kept seated
command_applied s at (Expire id) small kept seated room h r = close_applied s at id (expire_id id h) kept seated

-- ---- notices that are kept

module _ (P : NoticeBatch → Type 0) where
  All-light : (batches : List NoticeBatch) → All P batches → All P (light batches)
  All-light [] h = h
  All-light (b ∷ batches) h =
      either (All P) (leb (sum_by batch_weight (b ∷ batches)) kept_weight) (b ∷ batches) (light batches) h (All-light batches (All-tail P b batches h))

  All-heavy : (batches : List NoticeBatch) → All P batches → All P (heavy batches)
  All-heavy [] h = h
  All-heavy (b ∷ batches) h =
      either (All P) (leb (sum_by batch_weight (b ∷ batches)) kept_weight) [] (b ∷ heavy batches) (All-nil P) (All-cons P b (heavy batches) (All-head P b batches h) (All-heavy batches (All-tail P b batches h)))

  All-dropped : (time : ℕ) (batches : List NoticeBatch) → All P batches → All P (dropped time batches)
  All-dropped time batches h =
      All-append P (old time batches) (heavy (young time batches)) (All-filter (λ (b : NoticeBatch). not (leb time (b.time + kept_time))) P batches h)
      (All-heavy (young time batches) (All-filter (λ (b : NoticeBatch). leb time (b.time + kept_time)) P batches h))

  All-with : (at time : ℕ) (notices : List Notice) (batches : List NoticeBatch) → P (record { offset = at; time = time; notices = notices }) → All P batches → All P (with_batch at time notices batches)
  All-with at time [] batches p h = h
  All-with at time (n ∷ notices) batches p h = All-push P batches (record { offset = at; time = time; notices = n ∷ notices }) h p

last_within : (low most : ℕ) (batches : List NoticeBatch) → low ≤ most → All (λ (b : NoticeBatch). b.offset ≤ most) batches → last_offset low batches ≤ most
last_within low most [] h all = h
last_within low most (b ∷ batches) h all =
    last_within b.offset most batches (All-head (λ (x : NoticeBatch). x.offset ≤ most) b batches all) (All-tail (λ (x : NoticeBatch). x.offset ≤ most) b batches all)

retained_low : (s : ShardState) (at : ℕ) (batches : List NoticeBatch) → s.low ≤ at → All (IsLeft (at + 1)) batches → (retained s batches).low ≤ at
retained_low s at batches h all =
    last_within s.low at (dropped s.time batches) h
    (All-dropped (λ (b : NoticeBatch). b.offset ≤ at) s.time batches (All-weaker (IsLeft (at + 1)) (λ (b : NoticeBatch). b.offset ≤ at) (λ b l. let below = l.below in omega arith) batches all))

retained_left : (s : ShardState) (at : ℕ) (batches : List NoticeBatch) → All (IsLeft (at + 1)) batches → All (IsLeft (at + 1)) (retained s batches).batches
retained_left s at batches all = All-light (IsLeft (at + 1)) (young s.time batches) (All-filter (λ (b : NoticeBatch). leb s.time (b.time + kept_time)) (IsLeft (at + 1)) batches all)

batches_left : (s : ShardState) (at : ℕ) (a : Applied) → IsApplied s at a → All (IsLeft at) s.batches → All (IsLeft (at + 1)) (with_batch at a.state.time a.notices a.state.batches)
batches_left s at a done left =
    All-with (IsLeft (at + 1)) at a.state.time a.notices a.state.batches (record { below = omega arith; lawful = done.notices })
    (rw done.batches (All-weaker (IsLeft at) (IsLeft (at + 1)) (λ b l. let below = l.below in record { below = omega arith; lawful = l.lawful }) s.batches left))

with_notices_fits : (s : ShardState) (at : ℕ) (a : Applied) → IsApplied s at a → s.next_version ≤ 1000 * at → s.low ≤ at → All (IsLeft at) s.batches → FitsLog (at + 1) (with_notices at a).state
with_notices_fits s at a done versions low left =
    let batches = batches_left s at a done left in
    let more = done.versions in
    let same = done.low in
    let mark = retained_low a.state at (with_batch at a.state.time a.notices a.state.batches) (omega arith) batches in
    record {
      now = done.kept.now;
      versions = omega arith;
      mark = omega arith;
      weight = done.kept.weight;
      rise = done.rise;
      opened = done.opened;
      made = done.kept.made;
      left = retained_left a.state at (with_batch at a.state.time a.notices a.state.batches) batches;
    }

moved_kept : (s : ShardState) (count t : ℕ) → FitsLog count s → t ≤ time_limit → IsKept (moved_to t s)
moved_kept s count t fits h = let now = fits.now in record { now = omega arith; weight = fits.weight; made = fits.made }

entry_applied : (s : ShardState) (at t : ℕ) (c : ShardCommand) → at < count_limit → t ≤ time_limit → FitsLog at s → IsTrue (command.is_lawful c) → IsTrue (reads shard_meaning c) → IsApplied (moved_to t s) at (command_on (moved_to t s) at c)
entry_applied s at t c small short fits h r =
    let few = fits.versions in
    command_applied (moved_to t s) at c small (moved_kept s at t fits short) (record { rise = fits.rise; opened = fits.opened }) (omega arith) h r

-- behind the entry the state fits one entry more
pub entry_fits : (s : ShardState) (at t : ℕ) (c : ShardCommand) → at < count_limit → t ≤ time_limit → FitsLog at s → IsTrue (command.is_lawful c) → IsTrue (reads shard_meaning c) → FitsLog (at + 1) (apply_entry s at t c).state
unfolding apply_entry
entry_fits s at t c small short fits h r =
    let mark = fits.mark in
    with_notices_fits (moved_to t s) at (command_on (moved_to t s) at c) (entry_applied s at t c small short fits h r) fits.versions (omega arith) fits.left

-- the replies to the entry can be written
pub entry_replies : (s : ShardState) (at t : ℕ) (c : ShardCommand) → at < count_limit → t ≤ time_limit → FitsLog at s → IsTrue (command.is_lawful c) → IsTrue (reads shard_meaning c) → IsTrue (shard_reply.is_lawful (record { ops = (apply_entry s at t c).replies }))
unfolding apply_entry
entry_replies s at t c small short fits h r = (entry_applied s at t c small short fits h r).replies
