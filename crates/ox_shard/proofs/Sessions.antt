-- Opening and closing sessions.
use Rattle.std.proofs.Common.{◌≡◌, ◌∙◌, ℕ, ◌+◌, ◌<◌, ◌==◌, Bool, true, false, List, [], ◌∷◌, ◌++◌, Option, Some, None, All, filter, length, refl, sym, ap, inl, inr, arith}
use Rattle.std.specs.Prelude.{not, if◌then◌else◌, ◌||◌}
use Rattle.std.specs.Str.{bytes_eq}
use Rattle.std.proofs.lemmas.Bool.{cases_Bool}
use Rattle.std.proofs.lemmas.Bool.Decides.{nat_tests}
use Rattle.std.proofs.lemmas.List.Folds.{list_any-append}
use Rattle.std.proofs.lemmas.List.Elements.{All-head, All-tail}
use Rattle.ox_table.specs.Table.{IsBelow, IsRising}
use Rattle.ox_ops.specs.declared.answer.Record.{Record}
use Rattle.ox_ops.specs.State.{Session, without_key, is_member, is_open}
use Rattle.ox_session.specs.Members.{AllBelow}
use Rattle.ox_puts.specs.Records.{keyed}
use Rattle.ox_shard.specs.Closing.{without_keys}
use Rattle.ox_shard.specs.Parts.{AreDistinct}
use Rattle.ox_shard.proofs.Keys.{itself, later, earlier}
use Rattle.ox_shard.proofs.Leaving.{keys_of, keys-in, keys-out}

-- ---- the records of a session

-- is it this session?
abbrev pub session_is : ℕ → Option ℕ → Bool
session_is id None = false
session_is id (Some x) = x == id

pub member-is : (id : ℕ) (r : Record) (o : Option ℕ) → r.session ≡ o → is_member id r ≡ session_is id o
member-is id r None e = rw e refl
member-is id r (Some x) e = rw e refl

other_key : (key : List ℕ) (r : Record) (rs : List Record) → bytes_eq r.key key ≡ false → without_key key (r ∷ rs) ≡ r ∷ without_key key rs
other_key key r rs e = ap (λ (b : Bool). if not b then r ∷ without_key key rs else without_key key rs) e

own_key : (r : Record) (rs : List Record) → without_key r.key (r ∷ rs) ≡ without_key r.key rs
own_key r rs = ap (λ (b : Bool). if not b then r ∷ without_key r.key rs else without_key r.key rs) (itself r.key)

-- a record with another key isn't taken
kept : (q : ℕ) (r : Record) (xs rs : List Record) → IsBelow r.key (keyed xs) → without_keys (keys_of q xs) (r ∷ rs) ≡ r ∷ without_keys (keys_of q xs) rs
kept q r [] rs h = refl
kept q r (x ∷ xs) rs h = elim (cases_Bool (is_member q x)) [
  | inl member ↦
      ap (λ ks. without_keys ks (r ∷ rs)) (keys-in q x xs member) ∙ ap (without_keys (keys_of q xs)) (other_key x.key r rs (earlier r.key x.key h.0))
      ∙ kept q r xs (without_key x.key rs) h.1 ∙ ap (λ ks. r ∷ without_keys ks rs) (sym (keys-in q x xs member))
  | inr other ↦ ap (λ ks. without_keys ks (r ∷ rs)) (keys-out q x xs other) ∙ kept q r xs rs h.1 ∙ ap (λ ks. r ∷ without_keys ks rs) (sym (keys-out q x xs other))
]

-- none of the records past a key has it
none_past : (key : List ℕ) (rs : List Record) → IsBelow key (keyed rs) → without_key key rs ≡ rs
none_past key [] h = refl
none_past key (r ∷ rs) h = rw (later key r.key h.0) (ap (λ xs. r ∷ xs) (none_past key rs h.1))

-- without the keys of a session the records are those that don't belong to it
pub without_members : (q : ℕ) (rs : List Record) → IsRising (keyed rs) → without_keys (keys_of q rs) rs ≡ filter (λ r. not (is_member q r)) rs
without_members q [] h = refl
without_members q (r ∷ rs) h = elim (cases_Bool (is_member q r)) [
  | inl member ↦
      ap (λ ks. without_keys ks (r ∷ rs)) (keys-in q r rs member) ∙ ap (without_keys (keys_of q rs)) (own_key r rs ∙ none_past r.key rs h.0)
      ∙ rw member (without_members q rs h.1)
  | inr other ↦ ap (λ ks. without_keys ks (r ∷ rs)) (keys-out q r rs other) ∙ kept q r rs rs h.0 ∙ rw other (ap (λ xs. r ∷ xs) (without_members q rs h.1))
]

none_left : (id : ℕ) (rs : List Record) → keys_of id (filter (λ r. not (is_member id r)) rs) ≡ []
none_left id [] = refl
none_left id (r ∷ rs) = elim (cases_Bool (is_member id r)) [
  | inl member ↦ rw member (none_left id rs)
  | inr other ↦ rw other (rw other (none_left id rs))
]

not_both : (id q : ℕ) → (q == id) ≡ false → (o : Option ℕ) → session_is id o ≡ true → session_is q o ≡ false
not_both id q e None f = refl
not_both id q e (Some x) f = differ_too x id q f e
  where
    differ_too : (x id q : ℕ) → (x == id) ≡ true → (q == id) ≡ false → (x == q) ≡ false
    differ_too x id q f e = grind (arith, nat_tests)

all_left : (id q : ℕ) → (q == id) ≡ false → (rs : List Record) → keys_of q (filter (λ r. not (is_member id r)) rs) ≡ keys_of q rs
all_left id q e [] = refl
all_left id q e (r ∷ rs) = elim (cases_Bool (is_member id r)) [
  | inl member ↦
      let other : is_member q r ≡ false = member-is q r r.session refl ∙ not_both id q e r.session (sym (member-is id r r.session refl) ∙ member) in
      rw (member, other) (all_left id q e rs)
  | inr not ↦ rw not (elim (cases_Bool (is_member q r)) [
    | inl member ↦ rw member (ap (λ ks. r.key ∷ ks) (all_left id q e rs))
    | inr other ↦ rw other (all_left id q e rs)
  ])
]

pub same : (a b : ℕ) → (a == b) ≡ true → a ≡ b
same a b e = grind (arith, nat_tests)

-- then no member of it is left, and those of others stay
pub others_stay : (id q : ℕ) (rs : List Record) → (if q == id then [] else keys_of q rs) ≡ keys_of q (filter (λ r. not (is_member id r)) rs)
others_stay id q rs = elim (cases_Bool (q == id)) [
  | inl is ↦ rw is (sym (rw (same q id is) (none_left id rs)))
  | inr other ↦ rw other (sym (all_left id q other rs))
]

-- ---- the sessions

-- a session that isn't open isn't there
pub not_there : (id : ℕ) (ss : List Session) → is_open id ss ≡ false → filter (λ (x : Session). not (x.id == id)) ss ≡ ss
not_there id [] e = refl
not_there id (x ∷ ss) e = elim (cases_Bool (x.id == id)) [
  | inl here ↦ cc (rw here at e)
  | inr other ↦ rw other (ap (λ xs. x ∷ xs) (not_there id ss (rw other at e)))
]

-- one session goes with its id
pub one_less : (id : ℕ) (ss : List Session) → AreDistinct ss → is_open id ss ≡ true → length (filter (λ (x : Session). not (x.id == id)) ss) + 1 ≡ length ss
one_less id [] d e = cc e
one_less id (x ∷ ss) d e = elim (cases_Bool (x.id == id)) [
  | inl here ↦
      let rest : filter (λ (x : Session). not (x.id == id)) ss ≡ ss = not_there id ss (rw (same x.id id here) at d.0) in
      rw (here, rest) (omega arith)
  | inr other ↦ rw other (let more = one_less id ss d.1 (rw other at e) in omega arith)
]

not_open : (t : Session → Bool) (id : ℕ) (ss : List Session) → is_open id ss ≡ false → is_open id (filter t ss) ≡ false
not_open t id [] e = refl
not_open t id (x ∷ ss) e = elim (cases_Bool (t x)) [
  | inl passes ↦ rw passes (both (x.id == id) _ _ e (not_open t id ss (rest (x.id == id) _ e)))
  | inr fails ↦ rw fails (not_open t id ss (rest (x.id == id) _ e))
]
  where
    rest : (p q : Bool) → (p || q) ≡ false → q ≡ false
    rest true q f = cc
    rest false q f = f

    both : (p q r : Bool) → (p || q) ≡ false → r ≡ false → (p || r) ≡ false
    both true q r e f = cc
    both false q r e f = f

pub distinct-filter : (t : Session → Bool) (ss : List Session) → AreDistinct ss → AreDistinct (filter t ss)
distinct-filter t [] d = tt
distinct-filter t (x ∷ ss) d = elim (cases_Bool (t x)) [
  | inl passes ↦ rw passes (not_open t x.id ss d.0, distinct-filter t ss d.1)
  | inr fails ↦ rw fails (distinct-filter t ss d.1)
]

-- a session with a greater id is a new one
pub is_new : (id : ℕ) (ss : List Session) → All (λ (x : Session). x.id < id) ss → is_open id ss ≡ false
is_new id [] h = refl
is_new id (x ∷ ss) h =
    let low : x.id < id = All-head (λ (x : Session). x.id < id) x ss h in
    rw (differ x.id id low) (is_new id ss (All-tail (λ (x : Session). x.id < id) x ss h))
  where
    differ : (a b : ℕ) → a < b → (a == b) ≡ false
    differ a b lt = grind (arith, nat_tests)

pub all_below : (id : ℕ) (ss : List Session) → All (λ (x : Session). x.id < id) ss → AllBelow id ss
all_below id [] h = tt
all_below id (x ∷ ss) h = (All-head (λ (x : Session). x.id < id) x ss h, all_below id ss (All-tail (λ (x : Session). x.id < id) x ss h))

pub distinct-last : (s : Session) (ss : List Session) → All (λ (x : Session). x.id < s.id) ss → AreDistinct ss → AreDistinct (ss ++ s ∷ [])
distinct-last s [] h d = (refl, tt)
distinct-last s (x ∷ ss) h d =
    let low : x.id < s.id = All-head (λ (x : Session). x.id < s.id) x ss h in
    (last x.id ss low d.0, distinct-last s ss (All-tail (λ (x : Session). x.id < s.id) x ss h) d.1)
  where
    apart : (a b : ℕ) → a < b → (b == a) ≡ false
    apart a b lt = grind (arith, nat_tests)

    last : (id : ℕ) (ss : List Session) → id < s.id → is_open id ss ≡ false → is_open id (ss ++ s ∷ []) ≡ false
    last id ss low e = list_any-append (λ (x : Session). x.id == id) ss (s ∷ []) ∙ rw (e, apart id s.id low) refl
