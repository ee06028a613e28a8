-- Entries that follow a log.
use Rattle.std.proofs.Common.{◌≡◌, ℕ, zero, suc, ◌+◌, ◌<◌, ◌≤◌, Bool, true, List, [], ◌∷◌, ◌++◌, length, get_or, take, refl, sym, ap, ◌∙◌, arith, add-zero, length-append}
use Rattle.std.specs.Prelude.{nat_le, ◌==◌, ◌&&◌}
use Rattle.std.specs.List.{list_all}
use Rattle.std.proofs.lemmas.Bool.{and_parts, and_from, leb-true, le-leb, eqb-true, eq-eqb}
use Rattle.ox_types.specs.declared.log.Head.{Head}
use Rattle.ox_types.specs.declared.log.Entry.{Entry}
use Rattle.ox_types.specs.Log.{head_from}
use Rattle.ox_types.specs.Durable.{may_follow}
use Rattle.ox_types.specs.Limits.{count_limit, offset_limit}
use Rattle.ox_bytes.specs.LogForms.{entry}
use Rattle.ox_wal.specs.Follow.{last_term}

pub head_last : (h : Head) (es : List Entry) → (head_from h es).term ≡ last_term h.term es
head_last h [] = refl
head_last h (e ∷ es) = head_last (record { term = e.term; count = e.offset + 1 }) es

pub last-append : (t : ℕ) (xs ys : List Entry) → last_term t (xs ++ ys) ≡ last_term (last_term t xs) ys
last-append t [] ys = refl
last-append t (x ∷ xs) ys = last-append x.term xs ys

pub last-push : (t : ℕ) (xs : List Entry) (e : Entry) → last_term t (xs ++ e ∷ []) ≡ e.term
last-push t xs e = last-append t xs (e ∷ [])

-- one entry may follow
abbrev pub fits_after : ℕ → ℕ → ℕ → Entry → Bool
fits_after top t c e = e.offset == c && nat_le t e.term && nat_le e.term top

pub follow_parts : (top t c : ℕ) (e : Entry) (es : List Entry) → may_follow top t c (e ∷ es) ≡ true
    → (e.offset ≡ c) × (t ≤ e.term) × (e.term ≤ top) × (may_follow top e.term (c + 1) es ≡ true)
follow_parts top t c e es h =
    let a = and_parts (fits_after top t c e) (may_follow top e.term (c + 1) es) h in
    let b = and_parts (e.offset == c && nat_le t e.term) (nat_le e.term top) a.0 in
    let d = and_parts (e.offset == c) (nat_le t e.term) b.0 in
    (eqb-true _ _ d.0, leb-true _ _ d.1, leb-true _ _ b.1, a.1)

pub follow_from : (top t c : ℕ) (e : Entry) (es : List Entry) → e.offset ≡ c → t ≤ e.term → e.term ≤ top → may_follow top e.term (c + 1) es ≡ true → may_follow top t c (e ∷ es) ≡ true
follow_from top t c e es at low high rest =
    and_from _ _ (and_from _ _ (and_from _ _ (eq-eqb e.offset c at) (le-leb t e.term low)) (le-leb e.term top high)) rest

pub follow-append : (top t c : ℕ) (xs ys : List Entry) → may_follow top t c xs ≡ true → may_follow top (last_term t xs) (c + length xs) ys ≡ true → may_follow top t c (xs ++ ys) ≡ true
follow-append top t c [] ys h k = rw add-zero at k
follow-append top t c (x ∷ xs) ys h k =
    let p = follow_parts top t c x xs h in
    let shift : c + suc (length xs) ≡ c + 1 + length xs = omega arith in
    follow_from top t c x (xs ++ ys) p.0 p.1 p.2 (follow-append top x.term (c + 1) xs ys p.3 (rw shift at k))

pub follow-take : (top t c n : ℕ) (xs : List Entry) → may_follow top t c xs ≡ true → may_follow top t c (take n xs) ≡ true
follow-take top t c zero xs h = refl
follow-take top t c (suc n) [] h = refl
follow-take top t c (suc n) (x ∷ xs) h =
    let p = follow_parts top t c x xs h in
    follow_from top t c x (take n xs) p.0 p.1 p.2 (follow-take top x.term (c + 1) n xs p.3)

pub follow-higher : (top higher t c : ℕ) (xs : List Entry) → top ≤ higher → may_follow top t c xs ≡ true → may_follow higher t c xs ≡ true
follow-higher top higher t c [] le h = refl
follow-higher top higher t c (x ∷ xs) le h =
    let p = follow_parts top t c x xs h in
    follow_from higher t c x xs p.0 p.1 (let below : x.term ≤ top = p.2 in omega arith) (follow-higher top higher x.term (c + 1) xs le p.3)

-- a lawful entry's offset
pub lawful_offset : (e : Entry) → entry.is_lawful e ≡ true → e.offset ≤ offset_limit
unfolding entry
lawful_offset e h =
    let a = and_parts _ _ h in
    let b = and_parts _ _ a.1 in
    let d = and_parts _ _ b.0 in
    leb-true _ _ d.1

pub follow_small : (top t c : ℕ) (xs : List Entry) → may_follow top t c xs ≡ true → list_all entry.is_lawful xs ≡ true → c ≤ count_limit → c + length xs ≤ count_limit
follow_small top t c [] h all small = rw add-zero small
follow_small top t c (x ∷ xs) h all small =
    let p = follow_parts top t c x xs h in
    let both = and_parts (entry.is_lawful x) (list_all entry.is_lawful xs) all in
    let offset = lawful_offset x both.0 in
    let at : x.offset ≡ c = p.0 in
    let rest = follow_small top x.term (c + 1) xs p.3 both.1 (omega arith) in
    omega arith

-- the offset of a lawful item
pub item_offset : (es : List Entry) (i : ℕ) (e : Entry) → list_all entry.is_lawful es ≡ true → i < length es → e ≡ get_or es i e → e.offset ≤ offset_limit
item_offset [] i e all lt is = absurd (omega arith)
item_offset (x ∷ es) zero e all lt is =
    let same : e.offset ≡ x.offset = ap (λ (y : Entry). y.offset) is in
    let below = lawful_offset x (and_parts (entry.is_lawful x) (list_all entry.is_lawful es) all).0 in
    omega arith
item_offset (x ∷ es) (suc i) e all lt is = item_offset es i e (and_parts (entry.is_lawful x) (list_all entry.is_lawful es) all).1 (omega arith) is

-- the last of some entries by its place
pub last_at : (t : ℕ) (es : List Entry) (i : ℕ) (d : Entry) → i + 1 ≡ length es → (get_or es i d).term ≡ last_term t es
last_at t [] i d at = absurd (omega arith)
last_at t (x ∷ []) zero d at = refl
last_at t (x ∷ []) (suc i) d at = absurd (omega arith)
last_at t (x ∷ y ∷ es) zero d at = absurd (omega arith)
last_at t (x ∷ y ∷ es) (suc i) d at = last_at x.term (y ∷ es) i d (omega arith)

pub head_drafted : (h : Head) (kept staged : List Entry) → last_term (last_term h.term kept) staged ≡ (head_from h (kept ++ staged)).term
head_drafted h kept staged = sym (head_last h (kept ++ staged) ∙ last-append h.term kept staged)

-- more entries behind those of a log
module _ (top : ℕ) (base : Head) (es more : List Entry) (h : may_follow top base.term base.count es ≡ true) (k : may_follow top (head_from base es).term (base.count + length es) more ≡ true) where
  behind : may_follow top (last_term base.term es) (base.count + length es) more ≡ true
  behind = ap (λ (t : ℕ). may_follow top t (base.count + length es) more) (sym (head_last base es)) ∙ k

  pub append_follows : may_follow top base.term base.count (es ++ more) ≡ true
  append_follows = follow-append top base.term base.count es more h behind

  pub append_small : list_all entry.is_lawful more ≡ true → base.count + length es ≤ count_limit → base.count + length (es ++ more) ≤ count_limit
  append_small all small =
      let n = follow_small top (last_term base.term es) (base.count + length es) more behind all small in
      omega (arith, length-append es more)
