-- Reading on from a place: where the batches past an offset begin, and the items that a page is offered.
use Rattle.std.proofs.Common.{◌≡◌, ◌∙◌, sym, ap, subst, refl, ℕ, zero, suc, ◌+◌, ◌-◌, ◌<◌, ◌≤◌, true, false, leb, ltb, List, [], ◌∷◌, ◌++◌, length, take, drop, map, filter, get_or, append_assoc, ◌^◌, arith}
use Rattle.std.specs.Prelude.{min, slice_index_or}
use Rattle.std.specs.List.{flat_map}
use Rattle.std.specs.List.Sorted.{IsNonDecreasingBy, IsPartitionPoint}
use Rattle.std.proofs.lemmas.Bool.{leb-true, leb-false, lt-ltb, le-ltb}
use Rattle.std.proofs.lemmas.Grind.{flat_map-append}
use Rattle.std.proofs.lemmas.List.Concat.{flat_map-cons}
use Rattle.std.proofs.lemmas.List.{append-nil, length-append, length-map, length-drop, get_or-drop, take-append-drop, map-append}
use Rattle.ox_ops.specs.declared.notice.Notice.{Notice}
use Rattle.ox_ops.specs.declared.notice.NoticeItem.{NoticeItem}
use Rattle.ox_ops.specs.declared.notice.NoticeBatch.{NoticeBatch}
use Rattle.ox_ops.specs.Answer.{items_in}
use Rattle.ox_ops.specs.Page.{item_size}
use Rattle.ox_ops.specs.Filling.{Filling, Holds, has_room}
use Rattle.ox_ops.specs.FillingLaws.{holds-room, holds-full, holds-more}
use Rattle.ox_notice.specs.Kept.{IsOrdered, item_at}

ordered_at : (o t : ℕ) (batches : List NoticeBatch) → IsOrdered o t batches → (k : ℕ) (d : NoticeBatch) → k < length batches → o ≤ (slice_index_or batches k d).offset
ordered_at o t [] h k d l = absurd (omega arith)
ordered_at o t (b ∷ batches) h zero d l = h.0
ordered_at o t (b ∷ batches) h (suc k) d l =
    let first : o ≤ b.offset = h.0 in
    let rest = ordered_at (b.offset + 1) b.time batches h.2 k d (omega arith) in
    omega arith

pub offsets-rise : (o t : ℕ) (batches : List NoticeBatch) → IsOrdered o t batches → IsNonDecreasingBy (λ (b : NoticeBatch). b.offset) batches
offsets-rise o t [] h i j d le l = absurd (omega arith)
offsets-rise o t (b ∷ batches) h zero zero d le l = omega arith
offsets-rise o t (b ∷ batches) h zero (suc j) d le l = let rest = ordered_at (b.offset + 1) b.time batches h.2 j d (omega arith) in omega arith
offsets-rise o t (b ∷ batches) h (suc i) zero d le l = absurd (omega arith)
offsets-rise o t (b ∷ batches) h (suc i) (suc j) d le l = offsets-rise (b.offset + 1) b.time batches h.2 i j d (omega arith) (omega arith)

pub past : (offset : ℕ) (batches : List NoticeBatch) (n : ℕ) → IsPartitionPoint (λ (b : NoticeBatch). leb b.offset offset ≡ true) (λ (b : NoticeBatch). leb b.offset offset ≡ false) batches n
    → filter (λ (b : NoticeBatch). ltb offset b.offset) batches ≡ drop n batches
past offset [] zero h = refl
past offset [] (suc n) h = refl
past offset (b ∷ batches) zero h =
    let big : ltb offset b.offset ≡ true = lt-ltb _ _ (leb-false _ _ (h.1 0 b (omega arith) (omega arith))) in
    let rest : filter (λ (b : NoticeBatch). ltb offset b.offset) batches ≡ batches = past offset batches zero (λ k d a l. absurd (omega arith), λ k d a l. h.1 (suc k) d (omega arith) (omega arith)) in
    rw big (ap (λ (l : List NoticeBatch). b ∷ l) rest)
past offset (b ∷ batches) (suc n) h =
    let small : ltb offset b.offset ≡ false = le-ltb _ _ (leb-true _ _ (h.0 0 b (omega arith) (omega arith))) in
    rw small (past offset batches n (λ k d a l. h.0 (suc k) d (omega arith) (omega arith), λ k d a l. h.1 (suc k) d (omega arith) (omega arith)))

-- ---- skipping

pub drop-over : {A : Type 0} (n : ℕ) (xs ys : List A) → drop n (xs ++ ys) ≡ drop n xs ++ drop (n - length xs) ys
drop-over zero [] ys = refl
drop-over zero (x ∷ xs) ys = let none : 0 ≡ 0 - suc (length xs) = omega arith in ap (λ k. (x ∷ xs) ++ drop k ys) none
drop-over (suc n) [] ys = let same : suc n ≡ suc n - 0 = omega arith in ap (λ k. drop k ys) same
drop-over (suc n) (x ∷ xs) ys = let less : n - length xs ≡ suc n - suc (length xs) = omega arith in drop-over n xs ys ∙ ap (λ k. drop n xs ++ drop k ys) less

pub drop-nothing : {A : Type 0} (n : ℕ) (xs : List A) → length xs ≤ n → drop n xs ≡ []
drop-nothing zero [] h = refl
drop-nothing (suc n) [] h = refl
drop-nothing zero (x ∷ xs) h = absurd (omega arith)
drop-nothing (suc n) (x ∷ xs) h = drop-nothing n xs (omega arith)

pub drop-map : {A B : Type 0} (f : A → B) (n : ℕ) (xs : List A) → drop n (map f xs) ≡ map f (drop n xs)
drop-map f zero xs = refl
drop-map f (suc n) [] = refl
drop-map f (suc n) (x ∷ xs) = drop-map f n xs

-- ---- an item at its place

take-next : {A : Type 0} (i : ℕ) (xs : List A) (x : A) → i < length xs → x ≡ get_or xs i x → take (suc i) xs ≡ take i xs ++ x ∷ []
take-next i [] x l e = absurd (omega arith)
take-next zero (y ∷ xs) x l e = ap (λ z. z ∷ []) (sym e)
take-next (suc i) (y ∷ xs) x l e = ap (λ zs. y ∷ zs) (take-next i xs x (omega arith) e)

pub take-whole : {A : Type 0} (i : ℕ) (xs : List A) → length xs ≤ i → take i xs ≡ xs
take-whole zero [] h = refl
take-whole (suc i) [] h = refl
take-whole zero (x ∷ xs) h = absurd (omega arith)
take-whole (suc i) (x ∷ xs) h = ap (λ ys. x ∷ ys) (take-whole i xs (omega arith))

parted : {A : Type 0} (i : ℕ) (xs : List A) (x : A) → i < length xs → x ≡ get_or xs i x → xs ≡ take i xs ++ x ∷ drop (suc i) xs
parted i [] x l e = absurd (omega arith)
parted zero (y ∷ xs) x l e = ap (λ z. z ∷ xs) (sym e)
parted (suc i) (y ∷ xs) x l e = ap (λ zs. y ∷ zs) (parted i xs x (omega arith) e)

module _ (offset : ℕ) (notices : List Notice) where
  abbrev item : Notice → NoticeItem
  item = item_at offset

  module _ (i s : ℕ) (x : Notice) (page : Filling NoticeItem) (offered : List NoticeItem) (l : i < length notices) (is : x ≡ get_or notices i x) (small : s < 2 ^ 64) (sized : (o : ℕ) → s ≡ item_size (record { offset = o; notice = x })) (holds : Holds item_size page (offered ++ map item (take i notices))) where
    capped : s ≡ min (item_size (item x)) 18446744073709551615
    capped = let e : s ≡ item_size (item x) = sized offset in omega arith

    pub left-out : has_room page s ≡ false → Holds item_size (record { items = page.items; room = page.room; more = true }) (offered ++ map item notices)
    left-out full =
        let all : offered ++ map item notices ≡ (offered ++ map item (take i notices)) ++ item x ∷ map item (drop (suc i) notices) =
        ap (λ ns. offered ++ map item ns) (parted i notices x l is) ∙ ap (λ ms. offered ++ ms) (map-append item (take i notices) (x ∷ drop (suc i) notices))
        ∙ sym (append_assoc offered (map item (take i notices)) (item x ∷ map item (drop (suc i) notices))) in
        subst (λ ms. Holds item_size (record { items = page.items; room = page.room; more = true }) ms) (sym all) (holds-full item_size page (offered ++ map item (take i notices)) holds (item x) s capped full (map item (drop (suc i) notices)))

    pub taken : has_room page s ≡ true → Holds item_size (record { items = page.items ++ item x ∷ []; room = page.room - s; more = page.more }) (offered ++ map item (take (i + 1) notices))
    taken room =
        let one : i + 1 ≡ suc i = omega arith in
        let all : offered ++ map item (take (i + 1) notices) ≡ (offered ++ map item (take i notices)) ++ item x ∷ [] =
        ap (λ n. offered ++ map item (take n notices)) one ∙ ap (λ ns. offered ++ map item ns) (take-next i notices x l is) ∙ ap (λ ms. offered ++ ms) (map-append item (take i notices) (x ∷ []))
        ∙ sym (append_assoc offered (map item (take i notices)) (item x ∷ [])) in
        subst (λ ms. Holds item_size (record { items = page.items ++ item x ∷ []; room = page.room - s; more = page.more }) ms) (sym all) (holds-room item_size page (offered ++ map item (take i notices)) holds (item x) s capped room)

  pub all_offered : (i : ℕ) (page : Filling NoticeItem) (offered : List NoticeItem) → length notices ≤ i → Holds item_size page (offered ++ map item (take i notices)) → Holds item_size page (offered ++ map item notices)
  all_offered i page offered le holds = subst (λ ns. Holds item_size page (offered ++ map item ns)) (take-whole i notices le) holds

-- ---- batches one behind the other

module _ (batches : List NoticeBatch) (skip : ℕ) where
  -- the items of the first so many
  abbrev before : ℕ → List NoticeItem
  before n = flat_map items_in (take n batches)

  length-items : (b : NoticeBatch) → length (items_in b) ≡ length b.notices
  length-items b = length-map b.notices (item_at b.offset)

  next-before : (n : ℕ) (b : NoticeBatch) → n < length batches → b ≡ get_or batches n b → before (n + 1) ≡ before n ++ items_in b
  next-before n b l is = let one : n + 1 ≡ suc n = omega arith in ap before one ∙ ap (flat_map items_in) (take-next n batches b l is) ∙ flat_map-append items_in (take n batches) (b ∷ []) ∙ ap (λ ms. before n ++ ms) (flat_map-cons items_in b [] ∙ append-nil (items_in b))

  pub next-offered : (n left : ℕ) (b : NoticeBatch) (page : Filling NoticeItem) → n < length batches → b ≡ get_or batches n b → left ≡ skip - length (before n)
      → Holds item_size page (drop skip (before n) ++ drop left (items_in b)) → Holds item_size page (drop skip (before (n + 1)))
  next-offered n left b page l is e holds =
      let all : drop skip (before (n + 1)) ≡ drop skip (before n) ++ drop left (items_in b) =
      ap (drop skip) (next-before n b l is) ∙ drop-over skip (before n) (items_in b) ∙ ap (λ k. drop skip (before n) ++ drop k (items_in b)) (sym e) in
      subst (Holds item_size page) (sym all) holds

  pub next-left : (n left : ℕ) (b : NoticeBatch) → n < length batches → b ≡ get_or batches n b → left ≡ skip - length (before n) → left - length b.notices ≡ skip - length (before (n + 1))
  next-left n left b l is e =
      let long : length (before (n + 1)) ≡ length (before n) + length (items_in b) = ap length (next-before n b l is) ∙ length-append (before n) (items_in b) in
      let same : length (items_in b) ≡ length b.notices = length-items b in
      omega arith

  pub all_before : (n : ℕ) (page : Filling NoticeItem) → length batches ≤ n → Holds item_size page (drop skip (before n)) → Holds item_size page (drop skip (flat_map items_in batches))
  all_before n page le holds = subst (λ bs. Holds item_size page (drop skip (flat_map items_in bs))) (take-whole n batches le) holds

  -- behind an item that was left out nothing more is offered
  pub closed_before : (n : ℕ) (page : Filling NoticeItem) → page.more ≡ true → Holds item_size page (drop skip (before n)) → Holds item_size page (drop skip (flat_map items_in batches))
  closed_before n page is holds =
      let rest = flat_map items_in (drop n batches) in
      let all : drop skip (flat_map items_in batches) ≡ drop skip (before n) ++ drop (skip - length (before n)) rest =
      ap (λ bs. drop skip (flat_map items_in bs)) (sym (take-append-drop n batches)) ∙ ap (drop skip) (flat_map-append items_in (take n batches) (drop n batches)) ∙ drop-over skip (before n) rest in
      subst (Holds item_size page) (sym all) (holds-more item_size page (drop skip (before n)) holds (drop (skip - length (before n)) rest) is)

module _ (items : List NoticeBatch) (from skip : ℕ) where
  -- what is left of the batches
  abbrev rest : List NoticeBatch
  rest = drop from items

  pub begins : (left : ℕ) → left ≡ skip → (page : Filling NoticeItem) → Holds item_size page [] → Holds item_size page (drop skip (before rest skip (from - from))) × (left ≡ skip - length (before rest skip (from - from)))
  begins left is page holds =
      let none : from - from ≡ 0 = omega arith in
      let less : left ≡ skip - 0 = omega arith in
      rw none (subst (λ ms. Holds item_size page ms) (sym (drop-nothing skip [] (omega arith))) holds, less)

  pub goes_on : (at left : ℕ) (b : NoticeBatch) (page : Filling NoticeItem) → from ≤ at → at < length items → b ≡ get_or items at b → left ≡ skip - length (before rest skip (at - from))
      → Holds item_size page (drop skip (before rest skip (at - from)) ++ drop left (items_in b))
      → Holds item_size page (drop skip (before rest skip ((at + 1) - from))) × (left - length b.notices ≡ skip - length (before rest skip ((at + 1) - from)))
  goes_on at left b page le l is e holds =
      let long : length rest ≡ length items - from = length-drop from items in
      let in_rest : at - from < length rest = omega arith in
      let place : from + (at - from) ≡ at = omega arith in
      let there : b ≡ get_or rest (at - from) b = is ∙ ap (λ n. get_or items n b) (sym place) ∙ sym (get_or-drop from items (at - from) b) in
      let next : (at + 1) - from ≡ (at - from) + 1 = omega arith in
      rw next (next-offered rest skip (at - from) left b page in_rest there e holds, next-left rest skip (at - from) left b in_rest there e)

  pub ends_with : (at : ℕ) (page : Filling NoticeItem) → from ≤ at → length items ≤ at → Holds item_size page (drop skip (before rest skip (at - from))) → Holds item_size page (drop skip (flat_map items_in rest))
  ends_with at page le l holds =
      let long : length rest ≡ length items - from = length-drop from items in
      all_before rest skip (at - from) page (omega arith) holds

  pub ends_full : (at : ℕ) (page : Filling NoticeItem) → page.more ≡ true → Holds item_size page (drop skip (before rest skip (at - from))) → Holds item_size page (drop skip (flat_map items_in rest))
  ends_full at page is holds = closed_before rest skip (at - from) page is holds
