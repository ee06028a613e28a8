-- Records that go leave their sessions and their indexes.
use Rattle.std.proofs.Common.{◌≡◌, ◌∙◌, ℕ, Bool, true, false, List, [], ◌∷◌, map, filter, refl, sym, ap, inl, inr}
use Rattle.std.specs.Prelude.{◌||◌, ◌&&◌, not, option_to_list, if◌then◌else◌}
use Rattle.std.specs.Str.{bytes_eq}
use Rattle.std.proofs.lemmas.Bool.{cases_Bool}
use Rattle.ox_table.specs.Table.{IsBelow, IsRising}
use Rattle.ox_ops.specs.declared.answer.Record.{Record}
use Rattle.ox_ops.specs.State.{has_key, record_of, is_member, members_of}
use Rattle.ox_session.specs.Keys as keys
use Rattle.ox_puts.specs.Records.{keyed}
use Rattle.ox_index.specs.declared.added.Added.{Added}
use Rattle.ox_index.specs.Pairs.{has_added}
use Rattle.ox_shard.specs.Lists.{added_by, all_added, left_by, left_by_all}
use Rattle.ox_shard.proofs.Keys.{key_of, same_key, itself, apart, later, at_key, has-cons, stranger}

-- the records whose keys pass a test, and the others
abbrev pub going : (List ℕ → Bool) → List Record → List Record
going t rs = filter (λ (r : Record). t r.key) rs

abbrev pub staying : (List ℕ → Bool) → List Record → List Record
staying t rs = filter (λ (r : Record). not (t r.key)) rs

-- the keys of a session
abbrev pub keys_of : ℕ → List Record → List (List ℕ)
keys_of q rs = map key_of (members_of q rs)

pub keys-in : (q : ℕ) (r : Record) (rs : List Record) → is_member q r ≡ true → keys_of q (r ∷ rs) ≡ r.key ∷ keys_of q rs
keys-in q r rs e = ap (λ (b : Bool). map key_of (if b then r ∷ members_of q rs else members_of q rs)) e

pub keys-out : (q : ℕ) (r : Record) (rs : List Record) → is_member q r ≡ false → keys_of q (r ∷ rs) ≡ keys_of q rs
keys-out q r rs e = ap (λ (b : Bool). map key_of (if b then r ∷ members_of q rs else members_of q rs)) e

left-in : (q : ℕ) (r : Record) (ks : List (List ℕ)) → is_member q r ≡ true → left_by q r ks ≡ keys.without_key r.key ks
left-in q r ks e = ap (λ (b : Bool). if b then keys.without_key r.key ks else ks) e

left-out : (q : ℕ) (r : Record) (ks : List (List ℕ)) → is_member q r ≡ false → left_by q r ks ≡ ks
left-out q r ks e = ap (λ (b : Bool). if b then keys.without_key r.key ks else ks) e

-- another key stays, and the key itself goes
other_key : (key k : List ℕ) (ks : List (List ℕ)) → bytes_eq k key ≡ false → keys.without_key key (k ∷ ks) ≡ k ∷ keys.without_key key ks
other_key key k ks e = ap (λ (b : Bool). if not b then k ∷ keys.without_key key ks else keys.without_key key ks) e

own_key : (key : List ℕ) (ks : List (List ℕ)) → keys.without_key key (key ∷ ks) ≡ keys.without_key key ks
own_key key ks = ap (λ (b : Bool). if not b then key ∷ keys.without_key key ks else keys.without_key key ks) (itself key)

-- none of the keys past one is that one
pub past : (key : List ℕ) (q : ℕ) (rs : List Record) → IsBelow key (keyed rs) → keys.without_key key (keys_of q rs) ≡ keys_of q rs
past key q [] h = refl
past key q (r ∷ rs) h = elim (cases_Bool (is_member q r)) [
  | inl member ↦ ap (keys.without_key key) (keys-in q r rs member) ∙ other_key key r.key (keys_of q rs) (later key r.key h.0) ∙ ap (λ ks. r.key ∷ ks) (past key q rs h.1) ∙ sym (keys-in q r rs member)
  | inr other ↦ ap (keys.without_key key) (keys-out q r rs other) ∙ past key q rs h.1 ∙ sym (keys-out q r rs other)
]

module _ (t : List ℕ → Bool) (q : ℕ) where
  -- a key that stays isn't taken by those that go
  stays : (key : List ℕ) (ks : List (List ℕ)) (rs : List Record) → t key ≡ false → left_by_all q (going t rs) (key ∷ ks) ≡ key ∷ left_by_all q (going t rs) ks
  stays key ks [] e = refl
  stays key ks (r ∷ rs) e = elim (cases_Bool (t r.key)) [
    | inl goes ↦ rw goes (elim (cases_Bool (is_member q r)) [
      | inl member ↦
          ap (left_by_all q (going t rs)) (left-in q r (key ∷ ks) member ∙ other_key r.key key ks (apart t key r.key e goes))
          ∙ stays key (keys.without_key r.key ks) rs e ∙ ap (λ xs. key ∷ left_by_all q (going t rs) xs) (sym (left-in q r ks member))
      | inr other ↦ ap (left_by_all q (going t rs)) (left-out q r (key ∷ ks) other) ∙ stays key ks rs e ∙ ap (λ xs. key ∷ left_by_all q (going t rs) xs) (sym (left-out q r ks other))
    ])
    | inr stay ↦ rw stay (stays key ks rs e)
  ]

  -- the members that are left
  pub left : (rs : List Record) → IsRising (keyed rs) → left_by_all q (going t rs) (keys_of q rs) ≡ keys_of q (staying t rs)
  left [] h = refl
  left (r ∷ rs) h = elim (cases_Bool (t r.key)) [
    | inl goes ↦ rw goes (elim (cases_Bool (is_member q r)) [
      | inl member ↦ ap (left_by_all q (going t rs)) (left-in q r (keys_of q (r ∷ rs)) member ∙ ap (keys.without_key r.key) (keys-in q r rs member) ∙ own_key r.key (keys_of q rs) ∙ past r.key q rs h.0) ∙ left rs h.1
      | inr other ↦ ap (left_by_all q (going t rs)) (left-out q r (keys_of q (r ∷ rs)) other ∙ keys-out q r rs other) ∙ left rs h.1
    ])
    | inr stay ↦ rw stay (elim (cases_Bool (is_member q r)) [
      | inl member ↦ ap (left_by_all q (going t rs)) (keys-in q r rs member) ∙ stays r.key (keys_of q rs) rs stay ∙ ap (λ ks. r.key ∷ ks) (left rs h.1) ∙ sym (keys-in q r (staying t rs) member)
      | inr other ↦ ap (left_by_all q (going t rs)) (keys-out q r rs other) ∙ left rs h.1 ∙ sym (keys-out q r (staying t rs) other)
    ])
  ]

-- ---- index entries

goes-case : (h g s a : Bool) → (h ≡ true → s ≡ false) → s ≡ (not g && a) → s ≡ (not (h || g) && (h || a))
goes-case true g s a f e = f refl
goes-case false g s a f e = e

stays-case : (h g s a : Bool) → (h ≡ true → g ≡ false) → s ≡ (not g && a) → (h || s) ≡ (not g && (h || a))
stays-case true g s a f e = rw (f refl) refl
stays-case false g s a f e = e

module _ (t : List ℕ → Bool) (q : Added) where
  -- the entries that are left
  pub dropped : (rs : List Record) → has_added q (all_added (staying t rs)) ≡ (not (has_added q (all_added (going t rs))) && has_added q (all_added rs))
  dropped [] = refl
  dropped (r ∷ rs) = elim (cases_Bool (t r.key)) [
    | inl goes ↦ rw (goes, has-cons q r (going t rs), has-cons q r rs)
        (goes-case (has_added q (added_by r)) (has_added q (all_added (going t rs))) (has_added q (all_added (staying t rs))) (has_added q (all_added rs))
        (λ here. stranger q (λ k. not (t k)) rs (ap (λ k. not (t k)) (at_key q r.key r.indexes here) ∙ ap not goes)) (dropped rs))
    | inr stay ↦ rw (stay, has-cons q r (staying t rs), has-cons q r rs)
        (stays-case (has_added q (added_by r)) (has_added q (all_added (going t rs))) (has_added q (all_added (staying t rs))) (has_added q (all_added rs))
        (λ here. stranger q t rs (ap t (at_key q r.key r.indexes here) ∙ stay)) (dropped rs))
  ]

-- ---- the record of a key

-- none of the records past a key has it
none_past : (key : List ℕ) (rs : List Record) → IsBelow key (keyed rs) → filter (has_key key) rs ≡ []
none_past key [] h = refl
none_past key (r ∷ rs) h = rw (later key r.key h.0) (none_past key rs h.1)

same_below : (a b : List ℕ) (rs : List Record) → a ≡ b → IsBelow a (keyed rs) → IsBelow b (keyed rs)
same_below a b rs e h = rw (← e) h

-- at most one record has the key
pub one_of : (key : List ℕ) (rs : List Record) → IsRising (keyed rs) → option_to_list (record_of key rs) ≡ filter (has_key key) rs
one_of key [] h = refl
one_of key (r ∷ rs) h = elim (cases_Bool (bytes_eq r.key key)) [
  | inl here ↦ rw here (ap (λ xs. r ∷ xs) (sym (none_past key rs (same_below r.key key rs (same_key r.key key here) h.0))))
  | inr other ↦ rw other (one_of key rs h.1)
]
