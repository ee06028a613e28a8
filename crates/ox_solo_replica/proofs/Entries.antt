-- One entry more: its text, its blocks, and the log that it follows.
use Rattle.std.proofs.Common.{◌≡◌, ℕ, suc, ◌+◌, ◌-◌, ◌/◌, ◌%◌, ◌<◌, ◌≤◌, ◌^◌, true, false, List, [], ◌∷◌, ◌++◌, length, None, refl, ap, subst, ◌∙◌, arith, add-zero, length-append}
use Rattle.std.specs.Prelude.{nat_lt}
use Rattle.std.proofs.lemmas.Bool.{and_from, le-leb, lt-ltb, eq-eqb, le-ltb, cond-false}
use Rattle.ox_types.specs.declared.log.Head.{Head}
use Rattle.ox_types.specs.declared.log.Entry.{Entry}
use Rattle.ox_types.specs.declared.log.EntryBody.{EntryBody}
use Rattle.ox_types.specs.declared.log.EntryBody.TheVariants as body_is
use Rattle.ox_types.specs.declared.durable.Action.{Action}
use Rattle.ox_types.specs.declared.durable.Action.TheVariants as action_is
use Rattle.ox_types.specs.Log.{head_from}
use Rattle.ox_types.specs.Durable.{DurableState, count_of, head_of, is_lawful}
use Rattle.ox_bytes.specs.Numbers.{be32, be64}
use Rattle.ox_bytes.specs.NumberLaws.{length-be32, length-be64}
use Rattle.ox_bytes.specs.Fields.{number_to}
use Rattle.ox_bytes.specs.LogForms.{entry, entry_body, entry_blocks, entry_size}
use Rattle.ox_machine.specs.Store.{IsEntryAt, RunsFrom, IsBody}
use Rattle.ox_wal.specs.ActionForms.{action, actions}
use Rattle.ox_wal.specs.Blocks.{blocks_used, full_at}
use Rattle.ox_solo_replica.specs.Keeping.{IsShort}

three : (a b c : ℕ) (rest : List ℕ) → length (be64 a ++ (be64 b ++ (be64 c ++ rest))) ≡ 24 + length rest
three a b c rest = omega (
  arith,
  length-append (be64 a) (be64 b ++ (be64 c ++ rest)),
  length-append (be64 b) (be64 c ++ rest),
  length-append (be64 c) rest,
  length-be64 a,
  length-be64 b,
  length-be64 c,
)

-- an entry's size, by what it says
pub size_of_pass : (t o n : ℕ) → entry_size (record { term = t; offset = o; time = n; body = body_is.Pass }) ≡ 25
unfolding entry entry_body
size_of_pass t o n = three t o n (0 ∷ [])

pub size_of_command : (t o n : ℕ) (bytes : List ℕ) → entry_size (record { term = t; offset = o; time = n; body = body_is.Command bytes }) ≡ 29 + length bytes
unfolding entry entry_body
size_of_command t o n bytes =
    let whole : length (be64 t ++ (be64 o ++ (be64 n ++ (1 ∷ (be32 (length bytes) ++ bytes))))) ≡ 24 + length (1 ∷ (be32 (length bytes) ++ bytes)) = three t o n (1 ∷ (be32 (length bytes) ++ bytes)) in
    let four : length (be32 (length bytes) ++ bytes) ≡ 4 + length bytes = omega (arith, length-append (be32 (length bytes)) bytes, length-be32 (length bytes)) in
    omega arith

pub pass_blocks : (t o n : ℕ) → entry_blocks (record { term = t; offset = o; time = n; body = body_is.Pass }) ≡ 1
pass_blocks t o n = ap (λ (n : ℕ). (n + 4095) / 4096) (size_of_pass t o n)

pub command_blocks : (e : Entry) (bytes : List ℕ) (n : ℕ) → e.body ≡ body_is.Command bytes → n ≡ length bytes → n / 4096 + (n % 4096 + 29 + 4095) / 4096 ≡ entry_blocks e
unfolding entry entry_body
command_blocks e bytes n is len =
    let text : length (entry.text e) ≡ 24 + length (1 ∷ (be32 (length bytes) ++ bytes)) =
    three e.term e.offset e.time (entry_body.text e.body) ∙ ap (λ (b : EntryBody). 24 + length (entry_body.text b)) is in
    let four : length (be32 (length bytes) ++ bytes) ≡ 4 + length bytes = omega (arith, length-append (be32 (length bytes)) bytes, length-be32 (length bytes)) in
    omega arith

size_of : (e : Entry) → entry_size e ≡ 24 + length (entry_body.text e.body)
unfolding entry
size_of e = three e.term e.offset e.time (entry_body.text e.body)

body_size : (b : EntryBody) → IsShort b → length (entry_body.text b) ≤ 2097157
unfolding entry_body
body_size body_is.Pass short = omega arith
body_size (body_is.Command bytes) short = omega (arith, length-append (be32 (length bytes)) bytes, length-be32 (length bytes), short.0)

-- the bound of a short entry's text
pub short_size : (e : Entry) → IsShort e.body → entry_size e ≤ 2097181
short_size e short = omega (arith, size_of e, body_size e.body short)

number_lawful : (most n : ℕ) → n ≤ most → most < 2 ^ 64 → (number_to most).is_lawful n ≡ true
number_lawful most n le lt = and_from _ _ (lt-ltb n (2 ^ 64) (omega arith)) (le-leb n most le)

body_lawful : (b : EntryBody) → IsShort b → entry_body.is_lawful b ≡ true
unfolding entry_body
body_lawful body_is.Pass short = refl
body_lawful (body_is.Command bytes) short = lt-ltb (length bytes) (2 ^ 32) (omega (arith, short.0))

-- an entry within the bounds can be written
pub entry_lawful : (e : Entry) → e.term ≤ 9007199254740992 → e.offset < 9007199254740992 → e.time ≤ 9007199254740992 → IsShort e.body → entry.is_lawful e ≡ true
unfolding entry
entry_lawful e term offset time short =
    and_from _ _ (number_lawful 9007199254740992 e.term term (omega arith))
    (and_from _ _ (number_lawful 9007199254740991 e.offset (omega arith) (omega arith))
    (and_from _ _ (number_lawful 9007199254740992 e.time time (omega arith)) (body_lawful e.body short)))

-- an Append of one entry can be written
pub append_lawful : (e : Entry) → entry.is_lawful e ≡ true → action.is_lawful (action_is.Append (e ∷ [])) ≡ true
unfolding action
append_lawful e h = and_from _ _ h refl

pub append_size : (e : Entry) → length (action.text (action_is.Append (e ∷ []))) ≡ 5 + entry_size e
unfolding action
append_size e = omega (arith, length-append (be32 1) (entry.text e ++ []), length-append (entry.text e) [], length-be32 1)

pub lead_size : length (action.text action_is.Lead) ≡ 1
unfolding action
lead_size = refl

pub lead_lawful : action.is_lawful action_is.Lead ≡ true
unfolding action
lead_lawful = refl

pub term_size : (t : ℕ) → length (action.text (action_is.Term t)) ≡ 9
unfolding action
term_size t = omega (arith, length-be64 t)

pub term_lawful : (t : ℕ) → t ≤ 9007199254740992 → action.is_lawful (action_is.Term t) ≡ true
unfolding action
term_lawful t le = number_lawful 9007199254740992 t le (omega arith)

-- a batch of no action, of one and of two
pub nil_size : length (actions.text []) ≡ 4
nil_size = omega (arith, length-append (be32 0) [], length-be32 0)

pub one_lawful : (a : Action) → action.is_lawful a ≡ true → actions.is_lawful (a ∷ []) ≡ true
one_lawful a h = and_from _ _ h refl

pub one_size : (a : Action) → length (actions.text (a ∷ [])) ≡ 4 + length (action.text a)
one_size a = omega (arith, length-append (be32 1) (action.text a ++ []), length-append (action.text a) [], length-be32 1)

pub two_lawful : (a b : Action) → action.is_lawful a ≡ true → action.is_lawful b ≡ true → actions.is_lawful (a ∷ b ∷ []) ≡ true
two_lawful a b h k = and_from _ _ h (and_from _ _ k refl)

pub two_size : (a b : Action) → length (actions.text (a ∷ b ∷ [])) ≡ 4 + length (action.text a) + length (action.text b)
two_size a b = omega (arith, length-append (be32 2) (action.text a ++ (action.text b ++ [])), length-append (action.text a) (action.text b ++ []), length-append (action.text b) [], length-be32 2)

-- the entry that comes next may follow
pub next_follows : (d : DurableState) (e : Entry) → (head_of d).term ≤ d.term → e.term ≡ d.term → e.offset ≡ count_of d → is_lawful false d (action_is.Append (e ∷ [])) ≡ true
next_follows d e low term offset =
    and_from _ _ (and_from _ _ (and_from _ _ (eq-eqb e.offset (count_of d) offset) (le-leb (head_of d).term e.term (omega arith))) (le-leb e.term d.term (omega arith))) refl

pub room_for : (all : ℕ) (d : DurableState) (e : Entry) → entry_blocks e ≤ all - blocks_used d.entries → full_at all d (action_is.Append (e ∷ [])) ≡ None
room_for all d e fits =
    let one : blocks_used (e ∷ []) ≡ entry_blocks e = omega arith in
    cond-false (nat_lt (all - blocks_used d.entries) (blocks_used (e ∷ []))) _ None (le-ltb (all - blocks_used d.entries) (blocks_used (e ∷ [])) (omega arith))

-- a short body is bytes
pub short_bytes : (b : EntryBody) → IsShort b → IsBody b
short_bytes body_is.Pass short = tt
short_bytes (body_is.Command bytes) short = short.1

-- entries and the one behind them
pub runs_on : (n : ℕ) (entries : List Entry) (e : Entry) → RunsFrom n entries → IsEntryAt (n + length entries) e → RunsFrom n (entries ++ e ∷ [])
runs_on n [] e runs is = (subst (λ (k : ℕ). IsEntryAt k e) (add-zero n) is, tt)
runs_on n (x ∷ entries) e runs is =
    let at : n + suc (length entries) ≡ n + 1 + length entries = omega arith in
    (runs.0, runs_on (n + 1) entries e runs.1 (subst (λ (k : ℕ). IsEntryAt k e) at is))

pub head_behind : (h : Head) (entries : List Entry) (e : Entry) → (head_from h (entries ++ e ∷ [])).term ≡ e.term
head_behind h [] e = refl
head_behind h (x ∷ entries) e = head_behind (record { term = x.term; count = x.offset + 1 }) entries e
