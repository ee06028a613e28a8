-- What follows for pairs in rising order of keys.
use Rattle.std.proofs.Common.{◌≡◌, ◌≢◌, ◌∙◌, ℕ, ◌+◌, Bool, true, false, List, [], ◌∷◌, ◌++◌, Option, Some, None, filter, find, sum_by, option_to_list, refl, sym, ap, arith, inl, inr}
use Rattle.std.specs.Prelude.{not, if◌then◌else◌}
use Rattle.std.specs.Option.{option_map, option_or}
use Rattle.std.specs.Ordering.{is_lt, is_eq, is_ne, is_gt}
use Rattle.std.specs.Cmp.{tied_itself}
use Rattle.std.specs.declared.cmp.Ordering.{Ordering}
use Rattle.std.specs.declared.cmp.Ordering.TheVariants.{Less, Equal, Greater}
use Rattle.std.proofs.lemmas.Bool.{cases_Bool}
use Rattle.std.proofs.lemmas.List.Folds.{find-append}
use Rattle.std.proofs.lemmas.List.Sums.{sum_by-append, sum_by-cons}
use Rattle.std.proofs.lemmas.List.Filters.{sum_by-filter_both}
use Rattle.ox_types.specs.Order.{key_cmp, IsBefore}
use Rattle.ox_types.specs.OrderLaws.{key_total, key_anti, key_turned}
use Rattle.ox_types.specs.Comparisons.{less_of, equal_of, greater_of}
use Rattle.ox_order.specs.Range.{in_range}
use Rattle.ox_order.specs.declared.range.KeyRange.{KeyRange}
use Rattle.ox_table.specs.Table.{Pairs, IsBelow, IsRising, below, having, above, table_get, inserted, removed, within, without}

-- ---- the order of the pairs

module _ {V : Type 0} where
  IsBelow-earlier : (a b : List ℕ) (pairs : Pairs V) → IsBefore a b → IsBelow b pairs → IsBelow a pairs
  IsBelow-earlier a b [] lt h = tt
  IsBelow-earlier a b (p ∷ pairs) lt h = (key_total.trans a b p.0 lt h.0, IsBelow-earlier a b pairs lt h.1)

  IsBelow-filter : (t : List ℕ × V → Bool) (key : List ℕ) (pairs : Pairs V) → IsBelow key pairs → IsBelow key (filter t pairs)
  IsBelow-filter t key [] h = tt
  IsBelow-filter t key (p ∷ pairs) h = elim (cases_Bool (t p)) [
    | inl passes ↦ rw passes (h.0, IsBelow-filter t key pairs h.1)
    | inr fails ↦ rw fails (IsBelow-filter t key pairs h.1)
  ]

  -- what a filter leaves still rises
  pub IsRising-filter : (t : List ℕ × V → Bool) (pairs : Pairs V) → IsRising pairs → IsRising (filter t pairs)
  IsRising-filter t [] h = tt
  IsRising-filter t (p ∷ pairs) h = elim (cases_Bool (t p)) [
    | inl passes ↦ rw passes (IsBelow-filter t p.0 pairs h.0, IsRising-filter t pairs h.1)
    | inr fails ↦ rw fails (IsRising-filter t pairs h.1)
  ]

  -- the key stands after that of each pair
  abbrev IsAbove : List ℕ → Pairs V → Type 0
  IsAbove key [] = Unit {0}
  IsAbove key (p ∷ pairs) = IsBefore p.0 key × IsAbove key pairs

  IsAbove-below : (key : List ℕ) (pairs : Pairs V) → IsAbove key (below key pairs)
  IsAbove-below key [] = tt
  IsAbove-below key (p ∷ pairs) = elim (cases_Bool (is_lt (key_cmp p.0 key))) [
    | inl passes ↦ rw passes (less_of _ passes, IsAbove-below key pairs)
    | inr fails ↦ rw fails (IsAbove-below key pairs)
  ]

  IsBelow-above : (key : List ℕ) (pairs : Pairs V) → IsBelow key (above key pairs)
  IsBelow-above key [] = tt
  IsBelow-above key (p ∷ pairs) = elim (cases_Bool (is_gt (key_cmp p.0 key))) [
    | inl passes ↦ rw passes ((key_turned p.0 key).0 (greater_of _ passes), IsBelow-above key pairs)
    | inr fails ↦ rw fails (IsBelow-above key pairs)
  ]

  IsBelow-between : (a key : List ℕ) (value : V) (xs ys : Pairs V) → IsBelow a xs → IsBefore a key → IsBelow key ys → IsBelow a (xs ++ (key, value) ∷ ys)
  IsBelow-between a key value [] ys x lt y = (lt, IsBelow-earlier a key ys lt y)
  IsBelow-between a key value (p ∷ xs) ys x lt y = (x.0, IsBelow-between a key value xs ys x.1 lt y)

  IsRising-between : (key : List ℕ) (value : V) (xs ys : Pairs V) → IsRising xs → IsRising ys → IsAbove key xs → IsBelow key ys → IsRising (xs ++ (key, value) ∷ ys)
  IsRising-between key value [] ys x y low high = (high, y)
  IsRising-between key value (p ∷ xs) ys x y low high = (IsBelow-between p.0 key value xs ys x.0 low.0 high, IsRising-between key value xs ys x.1 y low.1 high)

  -- an insertion keeps the order
  pub IsRising-inserted : (pairs : Pairs V) (key : List ℕ) (value : V) → IsRising pairs → IsRising (inserted pairs key value)
  IsRising-inserted pairs key value h =
      IsRising-between key value (below key pairs) (above key pairs) (IsRising-filter _ pairs h) (IsRising-filter _ pairs h) (IsAbove-below key pairs) (IsBelow-above key pairs)

-- ---- the pairs on the two sides of a key

-- the key is that of the pair, or stands before it
abbrev IsFrom : {V : Type 0} → List ℕ → Pairs V → Type 0
IsFrom key pairs = (below key pairs ≡ []) × (having key pairs ≡ []) × (above key pairs ≡ pairs)

module _ {V : Type 0} where
  -- each pair stands past a key that isn't less than this one
  from_above : (key : List ℕ) (pairs : Pairs V) → IsBelow key pairs → IsFrom key pairs
  from_above key [] h = (refl, refl, refl)
  from_above key (p ∷ pairs) h =
      let past : key_cmp p.0 key ≡ Greater = (key_turned p.0 key).1 h.0 in
      let rest = from_above key pairs h.1 in
      rw past (rest.0, rest.1, ap (λ (ps : Pairs V). p ∷ ps) rest.2)

  split_at : (pairs : Pairs V) (key : List ℕ) (p : List ℕ × V) (r : Ordering) → key_cmp p.0 key ≡ r → IsBelow p.0 pairs
      → pairs ≡ below key pairs ++ having key pairs ++ above key pairs
      → p ∷ pairs ≡ below key (p ∷ pairs) ++ having key (p ∷ pairs) ++ above key (p ∷ pairs)
  split_at pairs key p Less e low h = rw e (ap (λ (ps : Pairs V). p ∷ ps) h)
  split_at pairs key p Equal e low h =
      let same : p.0 ≡ key = key_anti p.0 key e in
      let rest = from_above key pairs (rw same at low) in
      rw (e, rest.0, rest.1, rest.2) refl
  split_at pairs key p Greater e low h =
      let rest = from_above key pairs (IsBelow-earlier key p.0 pairs ((key_turned p.0 key).0 e) low) in
      rw (e, rest.0, rest.1, rest.2) refl

  -- the pairs before the key, the pair that has it, and the pairs past it
  pub split-pairs : (pairs : Pairs V) (key : List ℕ) → IsRising pairs → pairs ≡ below key pairs ++ having key pairs ++ above key pairs
  split-pairs [] key h = refl
  split-pairs (p ∷ pairs) key h = split_at pairs key p (key_cmp p.0 key) refl h.0 (split-pairs pairs key h.1)

  having_at : (pairs : Pairs V) (key : List ℕ) (p : List ℕ × V) (r : Ordering) → key_cmp p.0 key ≡ r → IsBelow p.0 pairs
      → having key pairs ≡ option_to_list (option_map (λ v. (key, v)) (table_get pairs key))
      → having key (p ∷ pairs) ≡ option_to_list (option_map (λ v. (key, v)) (table_get (p ∷ pairs) key))
  having_at pairs key p Less e low h = rw e h
  having_at pairs key p Equal e low h =
      let same : p.0 ≡ key = key_anti p.0 key e in
      let rest = from_above key pairs (rw same at low) in
      rw (e, rest.1, same) refl
  having_at pairs key p Greater e low h = rw e h

  -- at most one pair has the key, and its value is the key's
  pub having-pairs : (pairs : Pairs V) (key : List ℕ) → IsRising pairs → having key pairs ≡ option_to_list (option_map (λ v. (key, v)) (table_get pairs key))
  having-pairs [] key h = refl
  having-pairs (p ∷ pairs) key h = having_at pairs key p (key_cmp p.0 key) refl h.0 (having-pairs pairs key h.1)

  removed_at : (pairs : Pairs V) (key : List ℕ) (p : List ℕ × V) (r : Ordering) → key_cmp p.0 key ≡ r → IsBelow p.0 pairs
      → removed pairs key ≡ below key pairs ++ above key pairs
      → removed (p ∷ pairs) key ≡ below key (p ∷ pairs) ++ above key (p ∷ pairs)
  removed_at pairs key p Less e low h = rw e (ap (λ (ps : Pairs V). p ∷ ps) h)
  removed_at pairs key p Equal e low h = rw e h
  removed_at pairs key p Greater e low h =
      let rest = from_above key pairs (IsBelow-earlier key p.0 pairs ((key_turned p.0 key).0 e) low) in
      rw (e, rest.0, rest.2) (ap (λ (ps : Pairs V). p ∷ ps) (rw (rest.0, rest.2) at h))

  -- a removal leaves the two sides
  pub removed-pairs : (pairs : Pairs V) (key : List ℕ) → IsRising pairs → removed pairs key ≡ below key pairs ++ above key pairs
  removed-pairs [] key h = refl
  removed-pairs (p ∷ pairs) key h = removed_at pairs key p (key_cmp p.0 key) refl h.0 (removed-pairs pairs key h.1)

-- ---- values after an edit

module _ {X : Type 0} (t p : X → Bool) where
  -- a filter that passes whatever is sought
  find-filter_keeps : ((x : X) → t x ≡ true → p x ≡ true) → (xs : List X) → find t (filter p xs) ≡ find t xs
  find-filter_keeps h [] = refl
  find-filter_keeps h (x ∷ xs) = elim (cases_Bool (t x)) [
    | inl sought ↦ rw (h x sought, sought) refl
    | inr other ↦ elim (cases_Bool (p x)) [
      | inl passes ↦ rw (passes, other) (find-filter_keeps h xs)
      | inr fails ↦ rw (fails, other) (find-filter_keeps h xs)
    ]
  ]

  -- a filter that lets through nothing that is sought
  find-filter_drops : ((x : X) → t x ≡ true → p x ≡ false) → (xs : List X) → find t (filter p xs) ≡ None
  find-filter_drops h [] = refl
  find-filter_drops h (x ∷ xs) = elim (cases_Bool (t x)) [
    | inl sought ↦ rw (h x sought) (find-filter_drops h xs)
    | inr other ↦ elim (cases_Bool (p x)) [
      | inl passes ↦ rw (passes, other) (find-filter_drops h xs)
      | inr fails ↦ rw fails (find-filter_drops h xs)
    ]
  ]

is_eq-same : (a b : List ℕ) → is_eq (key_cmp a b) ≡ true → a ≡ b
is_eq-same a b e = key_anti a b (equal_of _ e)

is_eq-itself : (a : List ℕ) → is_eq (key_cmp a a) ≡ true
is_eq-itself a = ap is_eq (tied_itself key_total a)

option_or-none : {X : Type 0} (o : Option X) → option_or o None ≡ o
option_or-none None = refl
option_or-none (Some x) = refl

apart : (a b : List ℕ) (r : Ordering) → key_cmp a b ≡ r → (r ≡ Equal → ⊥) → a ≢ b
apart a b r e n same = n (sym e ∙ ap (λ c. key_cmp c b) same ∙ tied_itself key_total b)

not_true : (b : Bool) → (b ≡ true → ⊥) → b ≡ false
not_true true h = absurd (h refl)
not_true false h = refl

module _ {V : Type 0} where
  pub table_get-inserted : (pairs : Pairs V) (key : List ℕ) (value : V) → table_get (inserted pairs key value) key ≡ Some value
  table_get-inserted pairs key value =
      let lesser = find-filter_drops (λ (p : List ℕ × V). is_eq (key_cmp p.0 key)) (λ p. is_lt (key_cmp p.0 key)) (λ p e. ap is_lt (equal_of _ e)) pairs in
      rw (find-append (λ (p : List ℕ × V). is_eq (key_cmp p.0 key)) (below key pairs) ((key, value) ∷ above key pairs), lesser, is_eq-itself key) refl

  inserted_other : (pairs : Pairs V) (key q : List ℕ) (value : V) (r : Ordering) → q ≢ key → key_cmp q key ≡ r
      → find (λ (p : List ℕ × V). is_eq (key_cmp p.0 q)) (inserted pairs key value) ≡ find (λ (p : List ℕ × V). is_eq (key_cmp p.0 q)) pairs
  inserted_other pairs key q value Less ne e =
      let sought : List ℕ × V → Bool = λ p. is_eq (key_cmp p.0 q) in
      let other : is_eq (key_cmp key q) ≡ false = not_true _ (λ same. ne (sym (is_eq-same key q same))) in
      let lesser = find-filter_keeps sought (λ p. is_lt (key_cmp p.0 key)) (λ p same. ap (λ k. is_lt (key_cmp k key)) (is_eq-same p.0 q same) ∙ ap is_lt e) pairs in
      let greater = find-filter_drops sought (λ p. is_gt (key_cmp p.0 key)) (λ p same. ap (λ k. is_gt (key_cmp k key)) (is_eq-same p.0 q same) ∙ ap is_gt e) pairs in
      rw (find-append sought (below key pairs) ((key, value) ∷ above key pairs), lesser, other, greater) (option_or-none _)
  inserted_other pairs key q value Equal ne e = absurd (ne (key_anti q key e))
  inserted_other pairs key q value Greater ne e =
      let sought : List ℕ × V → Bool = λ p. is_eq (key_cmp p.0 q) in
      let other : is_eq (key_cmp key q) ≡ false = not_true _ (λ same. ne (sym (is_eq-same key q same))) in
      let lesser = find-filter_drops sought (λ p. is_lt (key_cmp p.0 key)) (λ p same. ap (λ k. is_lt (key_cmp k key)) (is_eq-same p.0 q same) ∙ ap is_lt e) pairs in
      let greater = find-filter_keeps sought (λ p. is_gt (key_cmp p.0 key)) (λ p same. ap (λ k. is_gt (key_cmp k key)) (is_eq-same p.0 q same) ∙ ap is_gt e) pairs in
      rw (find-append sought (below key pairs) ((key, value) ∷ above key pairs), lesser, other, greater) refl

  pub table_get-inserted_other : (pairs : Pairs V) (key q : List ℕ) (value : V) → q ≢ key → table_get (inserted pairs key value) q ≡ table_get pairs q
  table_get-inserted_other pairs key q value ne = ap (option_map (λ (p : List ℕ × V). p.1)) (inserted_other pairs key q value (key_cmp q key) ne refl)

  pub table_get-removed : (pairs : Pairs V) (key : List ℕ) → table_get (removed pairs key) key ≡ None
  table_get-removed pairs key =
      ap (option_map (λ (p : List ℕ × V). p.1)) (find-filter_drops (λ (p : List ℕ × V). is_eq (key_cmp p.0 key)) (λ p. is_ne (key_cmp p.0 key)) (λ p e. ap is_ne (equal_of _ e)) pairs)

  pub table_get-removed_other : (pairs : Pairs V) (key q : List ℕ) → q ≢ key → table_get (removed pairs key) q ≡ table_get pairs q
  table_get-removed_other pairs key q ne =
      ap (option_map (λ (p : List ℕ × V). p.1)) (find-filter_keeps (λ (p : List ℕ × V). is_eq (key_cmp p.0 q)) (λ p. is_ne (key_cmp p.0 key))
      (λ p e. differs p.0 (key_cmp p.0 key) refl (λ same. ne (sym (is_eq-same p.0 q e) ∙ same))) pairs)
    where
      differs : (a : List ℕ) (r : Ordering) → key_cmp a key ≡ r → (a ≡ key → ⊥) → is_ne (key_cmp a key) ≡ true
      differs a Less e h = rw e refl
      differs a Equal e h = absurd (h (key_anti a key e))
      differs a Greater e h = rw e refl

  pub table_get-within : (range : KeyRange) (pairs : Pairs V) (q : List ℕ) → table_get (within range pairs) q ≡ (if in_range range q then table_get pairs q else None)
  table_get-within range pairs q = elim (cases_Bool (in_range range q)) [
    | inl holds ↦ rw holds (ap (option_map (λ (p : List ℕ × V). p.1)) (find-filter_keeps (λ (p : List ℕ × V). is_eq (key_cmp p.0 q)) (λ p. in_range range p.0)
        (λ p e. ap (in_range range) (is_eq-same p.0 q e) ∙ holds) pairs))
    | inr fails ↦ rw fails (ap (option_map (λ (p : List ℕ × V). p.1)) (find-filter_drops (λ (p : List ℕ × V). is_eq (key_cmp p.0 q)) (λ p. in_range range p.0)
        (λ p e. ap (in_range range) (is_eq-same p.0 q e) ∙ fails) pairs))
  ]

  pub table_get-without : (range : KeyRange) (pairs : Pairs V) (q : List ℕ) → table_get (without range pairs) q ≡ (if in_range range q then None else table_get pairs q)
  table_get-without range pairs q = elim (cases_Bool (in_range range q)) [
    | inl holds ↦ rw holds (ap (option_map (λ (p : List ℕ × V). p.1)) (find-filter_drops (λ (p : List ℕ × V). is_eq (key_cmp p.0 q)) (λ p. not (in_range range p.0))
        (λ p e. ap (λ k. not (in_range range k)) (is_eq-same p.0 q e) ∙ ap not holds) pairs))
    | inr fails ↦ rw fails (ap (option_map (λ (p : List ℕ × V). p.1)) (find-filter_keeps (λ (p : List ℕ × V). is_eq (key_cmp p.0 q)) (λ p. not (in_range range p.0))
        (λ p e. ap (λ k. not (in_range range k)) (is_eq-same p.0 q e) ∙ ap not fails) pairs))
  ]

-- ---- a table is told by its values

module _ {V : Type 0} where
  get_first : (p : List ℕ × V) (pairs : Pairs V) → table_get (p ∷ pairs) p.0 ≡ Some p.1
  get_first p pairs = rw (is_eq-itself p.0) refl

  -- a key before all pairs has no value
  get_below : (key : List ℕ) (pairs : Pairs V) → IsBelow key pairs → table_get pairs key ≡ None
  get_below key [] h = refl
  get_below key (p ∷ pairs) h =
      let past : key_cmp p.0 key ≡ Greater = (key_turned p.0 key).1 h.0 in
      rw past (get_below key pairs h.1)

  get_later : (p : List ℕ × V) (pairs : Pairs V) (q : List ℕ) → q ≢ p.0 → table_get (p ∷ pairs) q ≡ table_get pairs q
  get_later p pairs q ne =
      let other : is_eq (key_cmp p.0 q) ≡ false = not_true _ (λ same. ne (sym (is_eq-same p.0 q same))) in
      rw other refl

  -- a first pair whose key stands before those of the others tells two tables apart
  first_differs : (x : List ℕ × V) (xs ys : Pairs V) → IsBelow x.0 ys → table_get (x ∷ xs) x.0 ≡ table_get ys x.0 → ⊥
  first_differs x xs ys low h = cc (sym (get_first x xs) ∙ h ∙ get_below x.0 ys low)

  -- what stands after a first pair with the same key
  tails_agree : (x y : List ℕ × V) (xs ys : Pairs V) → x.0 ≡ y.0 → IsBelow x.0 xs → IsBelow y.0 ys → (q : List ℕ) (r : Ordering) → key_cmp q x.0 ≡ r
      → table_get (x ∷ xs) q ≡ table_get (y ∷ ys) q → table_get xs q ≡ table_get ys q
  tails_agree x y xs ys e low high q Less r h =
      let ne : q ≢ x.0 = apart q x.0 Less r (λ s. cc s) in
      sym (get_later x xs q ne) ∙ h ∙ get_later y ys q (λ s. ne (s ∙ sym e))
  tails_agree x y xs ys e low high q Greater r h =
      let ne : q ≢ x.0 = apart q x.0 Greater r (λ s. cc s) in
      sym (get_later x xs q ne) ∙ h ∙ get_later y ys q (λ s. ne (s ∙ sym e))
  tails_agree x y xs ys e low high q Equal r h =
      let same = key_anti q x.0 r in
      rw (same, get_below x.0 xs low) (rw e (sym (get_below y.0 ys high)))

  -- two first pairs with the same key and value
  firsts_agree : (x y : List ℕ × V) (xs ys : Pairs V) → x.0 ≡ y.0 → table_get (x ∷ xs) x.0 ≡ table_get (y ∷ ys) x.0 → x.1 ≡ y.1
  firsts_agree x y xs ys e h =
      let there : table_get (y ∷ ys) x.0 ≡ Some y.1 = ap (table_get (y ∷ ys)) e ∙ get_first y ys in
      let values : Some x.1 ≡ Some y.1 = sym (get_first x xs) ∙ h ∙ there in
      cc values

  same_firsts : (x y : List ℕ × V) (xs ys : Pairs V) (r : Ordering) → key_cmp x.0 y.0 ≡ r → IsRising (x ∷ xs) → IsRising (y ∷ ys)
      → ((q : List ℕ) → table_get (x ∷ xs) q ≡ table_get (y ∷ ys) q)
      → (((q : List ℕ) → table_get xs q ≡ table_get ys q) → xs ≡ ys) → x ∷ xs ≡ y ∷ ys
  same_firsts x y xs ys Less r a b h more = absurd (first_differs x xs (y ∷ ys) (r, IsBelow-earlier x.0 y.0 ys r b.0) (h x.0))
  same_firsts x y xs ys Greater r a b h more =
      let lt = (key_turned x.0 y.0).0 r in
      absurd (first_differs y ys (x ∷ xs) (lt, IsBelow-earlier y.0 x.0 xs lt a.0) (sym (h y.0)))
  same_firsts x y xs ys Equal r a b h more =
      let key = key_anti x.0 y.0 r in
      let value = firsts_agree x y xs ys key (h x.0) in
      let rest = more (λ q. tails_agree x y xs ys key a.0 b.0 q (key_cmp q x.0) refl (h q)) in
      λ i. (key i, value i) ∷ rest i

  -- tables with the same values are the same
  pub same_pairs : (xs ys : Pairs V) → IsRising xs → IsRising ys → ((q : List ℕ) → table_get xs q ≡ table_get ys q) → xs ≡ ys
  same_pairs [] [] a b h = refl
  same_pairs [] (y ∷ ys) a b h = cc (h y.0 ∙ get_first y ys)
  same_pairs (x ∷ xs) [] a b h = cc (sym (h x.0) ∙ get_first x xs)
  same_pairs (x ∷ xs) (y ∷ ys) a b h = same_firsts x y xs ys (key_cmp x.0 y.0) refl a b h (same_pairs xs ys a.1 b.1)

-- ---- sums over the pairs

module _ {V : Type 0} (f : List ℕ × V → ℕ) where
  -- an insertion adds the new pair, and drops the one that had its key
  pub sum_by-inserted : (pairs : Pairs V) (key : List ℕ) (value : V) → IsRising pairs
      → sum_by f (inserted pairs key value) + sum_by f (having key pairs) ≡ sum_by f pairs + f (key, value)
  sum_by-inserted pairs key value h =
      let new = sum_by-append f (below key pairs) ((key, value) ∷ above key pairs) in
      let one = sum_by-cons f (key, value) (above key pairs) in
      let low = sum_by-append f (below key pairs) (having key pairs) in
      let old = ap (sum_by f) (split-pairs pairs key h) ∙ sum_by-append f (below key pairs ++ having key pairs) (above key pairs) in
      omega arith

  -- a removal drops the pair that had the key
  pub sum_by-removed : (pairs : Pairs V) (key : List ℕ) → IsRising pairs → sum_by f (removed pairs key) + sum_by f (having key pairs) ≡ sum_by f pairs
  sum_by-removed pairs key h =
      let new = ap (sum_by f) (removed-pairs pairs key h) ∙ sum_by-append f (below key pairs) (above key pairs) in
      let low = sum_by-append f (below key pairs) (having key pairs) in
      let old = ap (sum_by f) (split-pairs pairs key h) ∙ sum_by-append f (below key pairs ++ having key pairs) (above key pairs) in
      omega arith

  -- a range and the others share the sum
  pub sum_by-within : (range : KeyRange) (pairs : Pairs V) → sum_by f (within range pairs) + sum_by f (without range pairs) ≡ sum_by f pairs
  sum_by-within range pairs = sum_by-filter_both (λ p. in_range range p.0) (λ p. not (in_range range p.0)) (λ p. refl) f pairs
