-- A page that is filled item by item is the page of what was offered.
use Rattle.std.proofs.Common.{◌≡◌, ◌∙◌, sym, ap, subst, refl, ℕ, zero, suc, ◌+◌, ◌-◌, ◌<◌, ◌≤◌, Bool, true, false, cond, leb, ltb, List, [], ◌∷◌, ◌++◌, length, sum_by, arith}
use Rattle.std.specs.Prelude.{min, not, ◌&&◌}
use Rattle.std.proofs.lemmas.Bool.{leb-true, leb-false, ltb-true, ltb-false, lt-ltb, le-ltb, le-leb, lt-leb, and_parts}
use Rattle.std.proofs.lemmas.List.{length-append, append-nil}
use Rattle.std.proofs.lemmas.List.Sums.{sum_by-cons, sum_by-append}
use Rattle.ox_types.specs.Limits.{page_items, page_bytes}
use Rattle.ox_ops.specs.Page.{page_within, page_of}
use Rattle.ox_ops.specs.Filling.{Filling, has_room, Holds}

-- all of the items stand in the page, and those behind them go on from there
record Opened {A : Type 0} (size : A → ℕ) (count room : ℕ) (xs : List A) : Type 0 where
  whole : page_within size count room xs ≡ xs
  few : length xs ≤ count
  light : sum_by size xs ≤ room
  next : (ys : List A) → page_within size count room (xs ++ ys) ≡ xs ++ page_within size (count - length xs) (room - sum_by size xs) ys

is_false : (b : Bool) → not b ≡ true → b ≡ false
is_false true h = cc h
is_false false h = refl

-- one that isn't closed has no room by its numbers
is_shut : (more few fits : Bool) → more ≡ false → (not more && few) && fits ≡ false → few && fits ≡ false
is_shut true few fits is h = absurd cc
is_shut false few fits is h = h

module _ {A : Type 0} (size : A → ℕ) where
  -- by whether the first item fits
  first_fits : (count room : ℕ) (x : A) (items : List A) → leb (size x) room ≡ true → page_within size (suc count) room (x ∷ items) ≡ x ∷ page_within size count (room - size x) items
  first_fits count room x items e = ap (λ b. cond b (x ∷ page_within size count (room - size x) items) []) e

  first_left : (count room : ℕ) (x : A) (items : List A) → leb (size x) room ≡ false → page_within size (suc count) room (x ∷ items) ≡ []
  first_left count room x items e = ap (λ b. cond b (x ∷ page_within size count (room - size x) items) []) e

  nothing : (count room : ℕ) → page_within size count room [] ≡ []
  nothing zero room = refl
  nothing (suc count) room = refl

  none_fit : (room : ℕ) (items : List A) → page_within size 0 room items ≡ []
  none_fit room items = refl

  -- what comes behind an item that was left out changes nothing
  full_stays : (count room : ℕ) (xs ys : List A) → length (page_within size count room xs) < length xs → page_within size count room (xs ++ ys) ≡ page_within size count room xs
  full_stays zero room xs ys h = refl
  full_stays (suc count) room [] ys h = absurd (omega arith)
  full_stays (suc count) room (x ∷ xs) ys h = by_test (full_stays count (room - size x) xs ys) (leb (size x) room) refl
    where
      by_test : (length (page_within size count (room - size x) xs) < length xs → page_within size count (room - size x) (xs ++ ys) ≡ page_within size count (room - size x) xs) → (b : Bool) → leb (size x) room ≡ b → page_within size (suc count) room ((x ∷ xs) ++ ys) ≡ page_within size (suc count) room (x ∷ xs)
      by_test stays true e =
          let short : length (page_within size (suc count) room (x ∷ xs)) ≡ suc (length (page_within size count (room - size x) xs)) = ap length (first_fits count room x xs e) in
          first_fits count room x (xs ++ ys) e ∙ ap (λ (l : List A). x ∷ l) (stays (omega arith)) ∙ sym (first_fits count room x xs e)
      by_test stays false e = first_left count room x (xs ++ ys) e ∙ sym (first_left count room x xs e)

  opened : (count room : ℕ) (xs : List A) → length (page_within size count room xs) ≡ length xs → Opened size count room xs
  opened count room [] h = record { whole = nothing count room; few = omega arith; light = omega arith; next = λ ys. unmoved ys }
    where
      unmoved : (ys : List A) → page_within size count room ys ≡ page_within size (count - 0) (room - 0) ys
      unmoved ys =
          let c : count ≡ count - 0 = omega arith in
          let r : room ≡ room - 0 = omega arith in
          ap (λ n. page_within size n room ys) c ∙ ap (λ m. page_within size (count - 0) m ys) r
  opened zero room (x ∷ xs) h = absurd (omega arith)
  opened (suc count) room (x ∷ xs) h = by_test (opened count (room - size x) xs) (leb (size x) room) refl
    where
      by_test : (length (page_within size count (room - size x) xs) ≡ length xs → Opened size count (room - size x) xs) → (b : Bool) → leb (size x) room ≡ b → Opened size (suc count) room (x ∷ xs)
      by_test opens false e = let none : length (page_within size (suc count) room (x ∷ xs)) ≡ 0 = ap length (first_left count room x xs e) in absurd (omega arith)
      by_test opens true e =
          let one : length (page_within size (suc count) room (x ∷ xs)) ≡ suc (length (page_within size count (room - size x) xs)) = ap length (first_fits count room x xs e) in
          let rest : Opened size count (room - size x) xs = opens (omega arith) in
          let fits : size x ≤ room = leb-true _ _ e in
          let sum : sum_by size (x ∷ xs) ≡ size x + sum_by size xs = sum_by-cons size x xs in
          let light : sum_by size xs ≤ room - size x = rest.light in
          let few : length xs ≤ count = rest.few in
          let fewer : count - length xs ≡ suc count - suc (length xs) = omega arith in
          let less : room - size x - sum_by size xs ≡ room - sum_by size (x ∷ xs) = omega arith in
          record {
            whole = first_fits count room x xs e ∙ ap (λ (l : List A). x ∷ l) rest.whole;
            few = omega arith;
            light = omega arith;
            next = λ ys. first_fits count room x (xs ++ ys) e ∙ ap (λ (l : List A). x ∷ l) (rest.next ys ∙ ap (λ n. xs ++ page_within size (count - length xs) n ys) less ∙ ap (λ n. xs ++ page_within size n (room - sum_by size (x ∷ xs)) ys) fewer);
          }

  longest : (count room : ℕ) (xs : List A) → length (page_within size count room xs) ≤ length xs
  longest zero room xs = omega arith
  longest (suc count) room [] = omega arith
  longest (suc count) room (x ∷ xs) = by_test (longest count (room - size x) xs) (leb (size x) room) refl
    where
      by_test : length (page_within size count (room - size x) xs) ≤ length xs → (b : Bool) → leb (size x) room ≡ b → length (page_within size (suc count) room (x ∷ xs)) ≤ length (x ∷ xs)
      by_test rest true e =
          let one : length (page_within size (suc count) room (x ∷ xs)) ≡ suc (length (page_within size count (room - size x) xs)) = ap length (first_fits count room x xs e) in
          omega arith
      by_test rest false e = let none : length (page_within size (suc count) room (x ∷ xs)) ≡ 0 = ap length (first_left count room x xs e) in omega arith

  pub holds-empty : Holds size (record { items = []; room = page_bytes; more = false }) []
  holds-empty = record { items = refl; more = refl; room = refl }

  module _ (page : Filling A) (offered : List A) (holds : Holds size page offered) where
    -- behind an item that was left out
    pub holds-more : (ys : List A) → page.more ≡ true → Holds size page (offered ++ ys)
    holds-more ys is =
        let short : length (page_of size offered) < length offered = ltb-true _ _ (sym holds.more ∙ is) in
        let same : page_of size (offered ++ ys) ≡ page_of size offered = full_stays page_items page_bytes offered ys short in
        let long : length (offered ++ ys) ≡ length offered + length ys = length-append offered ys in
        let len : length (page_of size (offered ++ ys)) ≡ length (page_of size offered) = ap length same in
        record { items = holds.items ∙ sym same; more = is ∙ sym (lt-ltb _ _ (omega arith)); room = holds.room }

    -- nothing was left out so far
    all_there : page.more ≡ false → Opened size page_items page_bytes offered
    all_there is =
        let long : length offered ≤ length (page_of size offered) = ltb-false _ _ (sym holds.more ∙ is) in
        let short = longest page_items page_bytes offered in
        opened page_items page_bytes offered (omega arith)

    -- an item for which there is no room
    module _ (x : A) (ys : List A) (s : ℕ) (sized : s ≡ min (size x) 18446744073709551615) where
      by_tests : (few fits : Bool) → ltb (length page.items) page_items ≡ few → leb s page.room ≡ fits → few && fits ≡ false → page.items ≡ offered → page.room + sum_by size offered ≡ page_bytes
          → page_within size (page_items - length offered) (page_bytes - sum_by size offered) (x ∷ ys) ≡ []
      by_tests false fits e f h whole left =
          let many : page_items ≤ length offered = subst (λ l. page_items ≤ length l) whole (ltb-false _ _ e) in
          let zero_left : page_items - length offered ≡ 0 = omega arith in
          ap (λ n. page_within size n (page_bytes - sum_by size offered) (x ∷ ys)) zero_left
      by_tests true false e f h whole left =
          let few : length offered < page_items = subst (λ l. length l < page_items) whole (ltb-true _ _ e) in
          let big : page.room < s = leb-false _ _ f in
          let count : page_items - length offered ≡ suc (page_items - 1 - length offered) = omega arith in
          ap (λ n. page_within size n (page_bytes - sum_by size offered) (x ∷ ys)) count
          ∙ first_left (page_items - 1 - length offered) (page_bytes - sum_by size offered) x ys (lt-leb _ _ (omega arith))
      by_tests true true e f h whole left = absurd cc

    module _ (x : A) (s : ℕ) (sized : s ≡ min (size x) 18446744073709551615) where
      pub holds-room : has_room page s ≡ true → Holds size (record { items = page.items ++ x ∷ []; room = page.room - s; more = page.more }) (offered ++ x ∷ [])
      holds-room h =
          let both = and_parts (not page.more && ltb (length page.items) page_items) (leb s page.room) h in
          let first = and_parts (not page.more) (ltb (length page.items) page_items) both.0 in
          let closed : page.more ≡ false = is_false page.more first.0 in
          let o = all_there closed in
          let whole : page.items ≡ offered = holds.items ∙ o.whole in
          let few : length offered < page_items = subst (λ l. length l < page_items) whole (ltb-true _ _ first.1) in
          let fits : s ≤ page.room = leb-true _ _ both.1 in
          let left : page.room + sum_by size offered ≡ page_bytes = subst (λ l. page.room + sum_by size l ≡ page_bytes) whole holds.room in
          let same : size x ≡ s = omega arith in
          let count : page_items - length offered ≡ suc (page_items - 1 - length offered) = omega arith in
          let room : page_bytes - sum_by size offered ≡ page.room = omega arith in
          let one : page_within size (page_items - length offered) (page_bytes - sum_by size offered) (x ∷ []) ≡ x ∷ [] =
          ap (λ n. page_within size n (page_bytes - sum_by size offered) (x ∷ [])) count
          ∙ first_fits (page_items - 1 - length offered) (page_bytes - sum_by size offered) x [] (le-leb _ _ (omega arith))
          ∙ ap (λ (l : List A). x ∷ l) (nothing (page_items - 1 - length offered) (page_bytes - sum_by size offered - size x)) in
          let all : page_of size (offered ++ x ∷ []) ≡ offered ++ x ∷ [] = o.next (x ∷ []) ∙ ap (λ l. offered ++ l) one in
          let len : length (page_of size (offered ++ x ∷ [])) ≡ length (offered ++ x ∷ []) = ap length all in
          let sum : sum_by size (page.items ++ x ∷ []) ≡ sum_by size page.items + size x = sum_by-append size page.items (x ∷ []) ∙ ap (λ n. sum_by size page.items + n) (sum_by-cons size x [] ∙ omega arith) in
          record {
            items = ap (λ l. l ++ x ∷ []) whole ∙ sym all;
            more = closed ∙ sym (le-ltb _ _ (omega arith));
            room = omega (arith, holds.room);
          }

      pub holds-full : has_room page s ≡ false → (ys : List A) → Holds size (record { items = page.items; room = page.room; more = true }) (offered ++ x ∷ ys)
      holds-full h ys = by_more page.more refl
        where
          by_more : (b : Bool) → page.more ≡ b → Holds size (record { items = page.items; room = page.room; more = true }) (offered ++ x ∷ ys)
          by_more true is = let rest = holds-more (x ∷ ys) is in record { items = rest.items; more = sym is ∙ rest.more; room = rest.room }
          by_more false is =
              let o = all_there is in
              let whole : page.items ≡ offered = holds.items ∙ o.whole in
              let full : ltb (length page.items) page_items && leb s page.room ≡ false = is_shut page.more (ltb (length page.items) page_items) (leb s page.room) is h in
              let left : page.room + sum_by size offered ≡ page_bytes = subst (λ l. page.room + sum_by size l ≡ page_bytes) whole holds.room in
              let none : page_within size (page_items - length offered) (page_bytes - sum_by size offered) (x ∷ ys) ≡ [] = by_tests x ys s sized (ltb (length page.items) page_items) (leb s page.room) refl refl full whole left in
              let all : page_of size (offered ++ x ∷ ys) ≡ offered = o.next (x ∷ ys) ∙ ap (λ l. offered ++ l) none ∙ append-nil offered in
              let len : length (page_of size (offered ++ x ∷ ys)) ≡ length offered = ap length all in
              let long : length (offered ++ x ∷ ys) ≡ length offered + suc (length ys) = length-append offered (x ∷ ys) in
              record { items = whole ∙ sym all; more = sym (lt-ltb _ _ (omega arith)); room = holds.room }
