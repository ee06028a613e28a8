-- A key that joined before, or that isn't there, changes nothing; a session with a greater id is the last.
use Rattle.std.proofs.Common.{◌≡◌, ◌∙◌, ℕ, true, false, List, [], ◌∷◌, ◌++◌, filter, refl, sym, ap, subst, arith, inl, inr}
use Rattle.std.specs.Str.{bytes_eq}
use Rattle.std.specs.Ordering.{is_lt, ordering_reverse}
use Rattle.std.specs.Cmp.{tied_itself}
use Rattle.std.specs.declared.cmp.Ordering.{Ordering}
use Rattle.std.proofs.lemmas.Bool.{cases_Bool, lt-ltb, le-ltb}
use Rattle.ox_types.specs.Order.{key_cmp, IsBefore}
use Rattle.ox_types.specs.OrderLaws.{key_total, key_anti, key_ties}
use Rattle.ox_types.specs.Comparisons.{equal_of}
use Rattle.ox_ops.specs.State.{Session}
use Rattle.ox_session.specs.Keys.{with_key, without_key, IsBeforeAll, KeysRise, has_key}
use Rattle.ox_session.specs.Members.{with_session, AllBelow}

-- equal bytes are the same key
same_key : (a b : List ℕ) → bytes_eq a b ≡ true → a ≡ b
same_key a b e = key_anti a b (equal_of (key_cmp a b) (sym (key_ties a b) ∙ e))

not_before : (a b : List ℕ) → IsBefore a b → is_lt (key_cmp b a) ≡ false
not_before a b lt = ap is_lt (key_total.antisymm b a) ∙ ap (λ (r : Ordering). is_lt (ordering_reverse r)) lt

-- a key that stands before all stands before each of them
before_each : (a key : List ℕ) (keys : List (List ℕ)) → IsBeforeAll a keys → has_key key keys ≡ true → IsBefore a key
before_each a key [] h e = cc e
before_each a key (k ∷ keys) h e = elim (cases_Bool (bytes_eq k key)) [
  | inl here ↦ subst (IsBefore a) (same_key k key here) h.0
  | inr other ↦ before_each a key keys h.1 (rw other at e)
]

greater_all : (a : List ℕ) (keys : List (List ℕ)) → IsBeforeAll a keys → filter (λ k. is_lt (key_cmp a k)) keys ≡ keys
greater_all a [] h = refl
greater_all a (k ∷ keys) h =
    let first : is_lt (key_cmp a k) ≡ true = ap is_lt h.0 in
    rw first (ap (λ (ks : List (List ℕ)). k ∷ ks) (greater_all a keys h.1))

lesser_none : (a : List ℕ) (keys : List (List ℕ)) → IsBeforeAll a keys → filter (λ k. is_lt (key_cmp k a)) keys ≡ []
lesser_none a [] h = refl
lesser_none a (k ∷ keys) h = rw (not_before a k h.0) (lesser_none a keys h.1)

itself : (a : List ℕ) → is_lt (key_cmp a a) ≡ false
itself a = ap is_lt (tied_itself key_total a)

first_there : (k : List ℕ) (keys : List (List ℕ)) → IsBeforeAll k keys → with_key k (k ∷ keys) ≡ k ∷ keys
first_there k keys h = rw (itself k, lesser_none k keys h, greater_all k keys h) refl

pub with_key-there : (key : List ℕ) (keys : List (List ℕ)) → KeysRise keys → has_key key keys ≡ true → with_key key keys ≡ keys
with_key-there key [] h e = cc e
with_key-there key (k ∷ keys) h e = elim (cases_Bool (bytes_eq k key)) [
  | inl here ↦ subst (λ (x : List ℕ). with_key x (k ∷ keys) ≡ k ∷ keys) (same_key k key here) (first_there k keys h.0)
  | inr other ↦
      let there = rw other at e in
      let low : IsBefore k key = before_each k key keys h.0 there in
      let yes : is_lt (key_cmp k key) ≡ true = ap is_lt low in
      let past : is_lt (key_cmp key k) ≡ false = not_before k key low in
      rw (yes, past) (ap (λ (ks : List (List ℕ)). k ∷ ks) (with_key-there key keys h.1 there))
]

pub without_key-absent : (key : List ℕ) (keys : List (List ℕ)) → has_key key keys ≡ false → without_key key keys ≡ keys
without_key-absent key [] e = refl
without_key-absent key (k ∷ keys) e = elim (cases_Bool (bytes_eq k key)) [
  | inl here ↦ cc (rw here at e)
  | inr other ↦ rw other (ap (λ (ks : List (List ℕ)). k ∷ ks) (without_key-absent key keys (rw other at e)))
]

pub with_session-last : (s : Session) (sessions : List Session) → AllBelow s.id sessions → with_session s sessions ≡ sessions ++ s ∷ []
with_session-last s [] h = refl
with_session-last s (x ∷ sessions) h =
    rw (lt-ltb x.id s.id h.0, le-ltb s.id x.id (omega (arith, h.0))) (ap (λ (xs : List Session). x ∷ xs) (with_session-last s sessions h.1))
