-- A page that is filled from the pairs of a range.
use Rattle.std.proofs.Common.{◌≡◌, ◌∙◌, sym, ap, subst, refl, ℕ, ◌+◌, ◌-◌, ◌<◌, get_or, length, take, drop, Bool, true, false, List, [], ◌∷◌, ◌++◌, map, Option, Some, None, append_assoc}
use Rattle.std.specs.Prelude.{min}
use Rattle.std.specs.List.{filter_map}
use Rattle.std.proofs.lemmas.List.{map-append, append-nil, at_drop_more, take-append-drop, take_more}
use Rattle.std.proofs.lemmas.List.Elements.{filter_map-append}
use Rattle.ox_ops.specs.declared.answer.Record.{Record}
use Rattle.ox_ops.specs.declared.answer.ShardAnswer.TheVariants as answer
use Rattle.ox_ops.specs.Page.{key_size, record_size}
use Rattle.ox_ops.specs.Answer.{keys_page, records_page}
use Rattle.ox_ops.specs.Filling.{Filling, Holds, has_room}
use Rattle.ox_ops.specs.FillingLaws.{holds-room, holds-full}
use Rattle.ox_puts.specs.Records.{keyed, records_in}

abbrev Pair : Type 0
Pair = List ℕ × Record

-- the records behind the keys are those that were put there
pub behind_keys : (records : List Record) → records_in (keyed records) ≡ records
behind_keys [] = refl
behind_keys (r ∷ records) = ap (λ (rs : List Record). r ∷ rs) (behind_keys records)

module _ {A : Type 0} (size : A → ℕ) (of : Record → A) where
  -- the items of these pairs
  abbrev pub items_of : List Pair → List A
  items_of pairs = map of (records_in pairs)

  items_more : (front back : List Pair) → items_of (front ++ back) ≡ items_of front ++ items_of back
  items_more front back = ap (map of) (map-append (λ (p : Pair). p.1) front back) ∙ map-append of (records_in front) (records_in back)

  module _ (pairs front iter next : List Pair) (k : List ℕ) (r : Record) (page : Filling A) (s : ℕ) (sized : s ≡ min (size (of r)) 18446744073709551615) (step : iter ≡ (k, r) ∷ next) (rest : front ++ iter ≡ pairs)
      (holds : Holds size page (items_of front))
    where
      pub page-full : has_room page s ≡ false → Holds size (record { items = page.items; room = page.room; more = true }) (items_of pairs)
      page-full full =
          let all : items_of pairs ≡ items_of front ++ of r ∷ items_of next = ap items_of (sym rest ∙ ap (λ (ps : List Pair). front ++ ps) step) ∙ items_more front ((k, r) ∷ next) in
          subst (Holds size (record { items = page.items; room = page.room; more = true })) (sym all) (holds-full size page (items_of front) holds (of r) s sized full (items_of next))

      pub page-more : has_room page s ≡ true → Holds size (record { items = page.items ++ of r ∷ []; room = page.room - s; more = page.more }) (items_of (front ++ (k, r) ∷ []))
      page-more room =
          let all : items_of (front ++ (k, r) ∷ []) ≡ items_of front ++ of r ∷ [] = items_more front ((k, r) ∷ []) in
          subst (Holds size (record { items = page.items ++ of r ∷ []; room = page.room - s; more = page.more })) (sym all) (holds-room size page (items_of front) holds (of r) s sized room)

      pub rest-more : (front ++ (k, r) ∷ []) ++ next ≡ pairs
      rest-more = append_assoc front ((k, r) ∷ []) next ∙ ap (λ (ps : List Pair). front ++ ps) (sym step) ∙ rest

  pub page-done : (pairs front iter : List Pair) (page : Filling A) → iter ≡ [] → front ++ iter ≡ pairs → Holds size page (items_of front) → Holds size page (items_of pairs)
  page-done pairs front iter page none rest holds =
      let all : front ≡ pairs = sym (append-nil front) ∙ ap (λ (ps : List Pair). front ++ ps) (sym none) ∙ rest in
      subst (λ (ps : List Pair). Holds size page (items_of ps)) all holds

same-records : (records : List Record) → map (λ (r : Record). r) records ≡ records
same-records [] = refl
same-records (r ∷ records) = ap (λ (rs : List Record). r ∷ rs) (same-records records)

-- the pages of a list and of a scan
pub keys-are : (pairs : List Pair) (records : List Record) (page : Filling (List ℕ)) (items : List (List ℕ)) (more : Bool) → pairs ≡ keyed records → Holds key_size page (map (λ (r : Record). r.key) (records_in pairs)) → items ≡ page.items → more ≡ page.more
    → answer.Keys items more ≡ keys_page (map (λ (r : Record). r.key) records)
keys-are pairs records page items more is holds e f =
    let same : map (λ (r : Record). r.key) (records_in pairs) ≡ map (λ (r : Record). r.key) records = ap (λ (ps : List Pair). map (λ (r : Record). r.key) (records_in ps)) is ∙ ap (map (λ (r : Record). r.key)) (behind_keys records) in
    let held : Holds key_size page (map (λ (r : Record). r.key) records) = subst (Holds key_size page) same holds in
    rw (e, f, held.items, held.more) refl

pub records-are : (pairs : List Pair) (records : List Record) (page : Filling Record) (items : List Record) (more : Bool) → pairs ≡ keyed records → Holds record_size page (map (λ (r : Record). r) (records_in pairs)) → items ≡ page.items → more ≡ page.more
    → answer.Records items more ≡ records_page records
records-are pairs records page items more is holds e f =
    let same : map (λ (r : Record). r) (records_in pairs) ≡ records = same-records (records_in pairs) ∙ ap records_in is ∙ behind_keys records in
    let held : Holds record_size page records = subst (Holds record_size page) same holds in
    rw (e, f, held.items, held.more) refl

pub keys-told : (keys : List (List ℕ)) (page : Filling (List ℕ)) (items : List (List ℕ)) (more : Bool) → Holds key_size page keys → items ≡ page.items → more ≡ page.more → answer.Keys items more ≡ keys_page keys
keys-told keys page items more held e f = rw (e, f, held.items, held.more) refl

pub records-told : (records : List Record) (page : Filling Record) (items : List Record) (more : Bool) → Holds record_size page records → items ≡ page.items → more ≡ page.more → answer.Records items more ≡ records_page records
records-told records page items more held e f = rw (e, f, held.items, held.more) refl

-- ---- a page that is filled from index entries

module _ {X : Type 0} (xs : List X) (i : ℕ) (x : X) (within : i < length xs) (is : x ≡ get_or xs i x) where
  split_at : xs ≡ take i xs ++ x ∷ drop (i + 1) xs
  split_at = sym (take-append-drop i xs) ∙ ap (λ ys. take i xs ++ ys) (at_drop_more (λ ys. ys) xs i x within ∙ ap (λ y. y ∷ drop (i + 1) xs) (sym is))

  one_more : take (i + 1) xs ≡ take i xs ++ x ∷ []
  one_more = take_more xs i x within ∙ ap (λ y. take i xs ++ y ∷ []) (sym is)

module _ {A X : Type 0} (size : A → ℕ) (of : List X → List A) (nil : of [] ≡ []) (append : (xs ys : List X) → of (xs ++ ys) ≡ of xs ++ of ys) (xs : List X) (i : ℕ) (x : X) (within : i < length xs) (is : x ≡ get_or xs i x)
    (a : A) (one : (ys : List X) → of (x ∷ ys) ≡ a ∷ of ys) (page : Filling A) (s : ℕ) (sized : s ≡ min (size a) 18446744073709551615) (holds : Holds size page (of (take i xs)))
  where
    pub entry-full : has_room page s ≡ false → Holds size (record { items = page.items; room = page.room; more = true }) (of xs)
    entry-full full =
        let all : of xs ≡ of (take i xs) ++ a ∷ of (drop (i + 1) xs) = ap of (split_at xs i x within is) ∙ append (take i xs) (x ∷ drop (i + 1) xs) ∙ ap (λ ys. of (take i xs) ++ ys) (one (drop (i + 1) xs)) in
        subst (Holds size (record { items = page.items; room = page.room; more = true })) (sym all) (holds-full size page (of (take i xs)) holds a s sized full (of (drop (i + 1) xs)))

    pub entry-room : has_room page s ≡ true → Holds size (record { items = page.items ++ a ∷ []; room = page.room - s; more = page.more }) (of (take (i + 1) xs))
    entry-room room =
        let all : of (take (i + 1) xs) ≡ of (take i xs) ++ a ∷ [] = ap of (one_more xs i x within is) ∙ append (take i xs) (x ∷ []) ∙ ap (λ ys. of (take i xs) ++ ys) (one [] ∙ ap (λ ys. a ∷ ys) nil) in
        subst (Holds size (record { items = page.items ++ a ∷ []; room = page.room - s; more = page.more })) (sym all) (holds-room size page (of (take i xs)) holds a s sized room)

-- an entry whose record isn't there is passed over
pub entry-skip : {X A : Type 0} (f : X → Option A) (xs : List X) (i : ℕ) (x : X) → i < length xs → x ≡ get_or xs i x → f x ≡ None → filter_map f (take i xs) ≡ filter_map f (take (i + 1) xs)
entry-skip f xs i x within is none = sym (ap (filter_map f) (one_more xs i x within is) ∙ filter_map-append f (take i xs) (x ∷ []) ∙ rw none (append-nil (filter_map f (take i xs))))

pub one-found : {X A : Type 0} (f : X → Option A) (x : X) (a : A) → f x ≡ Some a → (ys : List X) → filter_map f (x ∷ ys) ≡ a ∷ filter_map f ys
one-found f x a e ys = rw e refl
