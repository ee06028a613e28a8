-- The search finds the numbers of the greatest sequence key.
use Rattle.std.proofs.Common.{◌≡◌, ◌≢◌, ◌≤◌, ◌<◌, ◌∙◌, ◌+◌, ◌-◌, ◌*◌, ◌^◌, ℕ, Bool, true, false, All, List, [], ◌∷◌, ◌++◌, Option, Some, None, length, get_or, map, filter, fold, replicate, refl, sym, ap, subst, arith, inl, inr}
use Rattle.std.specs.Prelude.{◌⊎◌}
use Rattle.std.specs.List.{filter_map}
use Rattle.std.specs.Option.{ForSome}
use Rattle.std.specs.Ordering.{nat_cmp, is_lt, is_le, ordering_then, ordering_reverse}
use Rattle.std.specs.Cmp.{tied_itself, IsTotalOrder}
use Rattle.std.specs.Cmp.Lexicographic.{slice_cmp, nat_list_cmp_total}
use Rattle.std.specs.FinMap.{IsAntisymmetric, nat_cmp-IsAntisymmetric, slice_cmp-IsAntisymmetric}
use Rattle.std.specs.declared.cmp.Ordering.{Ordering}
use Rattle.std.specs.declared.cmp.Ordering.TheVariants.{Less, Equal, Greater}
use Rattle.std.proofs.lemmas.Bool.{cases_Bool, cases_lt}
use Rattle.std.proofs.lemmas.List.{length-replicate}
use Rattle.std.proofs.lemmas.List.Elements.{All-nil, All-cons, All-head, All-tail, All-weaker}
use Rattle.ox_types.specs.Order.{has_slash, key_cmp}
use Rattle.ox_types.specs.OrderLaws.{key_total, key_anti, key_turned}
use Rattle.ox_types.specs.Lists.{last_of}
use Rattle.ox_table.specs.Table.{IsRising}
use Rattle.ox_table.specs.TableLaws.{IsRising-filter}
use Rattle.ox_ops.specs.declared.answer.Record.{Record}
use Rattle.ox_ops.specs.Sequence.{sequence_key, numbers_of, greater_of, last_numbers}
use Rattle.ox_puts.specs.Records.{keyed}
use Rattle.ox_puts.specs.Search.{IsCut, IsUpTo, IsIn, IsLast, Sees, next_of}
use Rattle.ox_puts.specs.declared.search.Look.{Look}
use Rattle.ox_puts.specs.declared.search.Look.TheVariants.{Other}
use Rattle.ox_puts.proofs.Keyed.{filter-keyed}
use Rattle.ox_puts.proofs.Digits.{less_is, equal_is}
use Rattle.ox_puts.proofs.Groups.{Fit, groups, IsSequence, numbers_of-is, sequence-cmp, more-cmp}

-- ---- comparisons

pub le_cases : (r : Ordering) → is_le r ≡ true → (r ≡ Less) ⊎ (r ≡ Equal)
le_cases Less h = inl refl
le_cases Equal h = inr refl
le_cases Greater h = cc h

pub lt_case : (r : Ordering) → is_lt r ≡ true → r ≡ Less
lt_case Less h = refl
lt_case Equal h = cc h
lt_case Greater h = cc h

-- a key before one that isn't past a third
up_to : (a b c : List ℕ) → key_cmp a b ≡ Less → is_le (key_cmp b c) ≡ true → is_le (key_cmp a c) ≡ true
up_to a b c lt le = elim (le_cases (key_cmp b c) le) [
  | inl less ↦ ap is_le (key_total.trans a b c lt less)
  | inr equal ↦ ap (λ k. is_le (key_cmp a k)) (sym (key_anti b c equal)) ∙ ap is_le lt
]

not_past : (a b : List ℕ) → is_le (key_cmp a b) ≡ true → key_cmp b a ≡ Less → ⊥
not_past a b le lt = cc (sym (ap is_le (key_total.antisymm a b ∙ ap ordering_reverse lt)) ∙ le)

before : (a b c : List ℕ) → key_cmp a b ≡ Less → is_le (key_cmp b c) ≡ true → key_cmp a c ≡ Less
before a b c lt le = elim (le_cases (key_cmp b c) le) [
  | inl less ↦ key_total.trans a b c lt less
  | inr equal ↦ ap (key_cmp a) (sym (key_anti b c equal)) ∙ lt
]

-- ---- the last of records in order

up_to_found : (x y : Record) (found : Option Record) → key_cmp x.key y.key ≡ Less → IsUpTo y found → IsUpTo x found
up_to_found x y None lt h = h
up_to_found x y (Some c) lt h = up_to x.key y.key c.key lt h

itself : (x : Record) → IsUpTo x (Some x)
itself x = ap is_le (tied_itself key_total x.key)

last_greatest : (rs : List Record) → IsRising (keyed rs) → All (λ q. IsUpTo q (last_of rs)) rs
last_greatest [] h = All-nil (λ (q : Record). IsUpTo q None)
last_greatest (x ∷ []) h = All-cons (λ (q : Record). IsUpTo q (Some x)) x [] (itself x) (All-nil (λ (q : Record). IsUpTo q (Some x)))
last_greatest (x ∷ y ∷ rs) h =
    let P : Record → Type 0 = λ q. IsUpTo q (last_of (y ∷ rs)) in
    let others : All P (y ∷ rs) = last_greatest (y ∷ rs) h.1 in
    All-cons P x (y ∷ rs) (up_to_found x y (last_of (y ∷ rs)) h.0.0 (All-head P y rs others)) others

last_in : (rs : List Record) (c : Record) → last_of rs ≡ Some c → IsIn c rs
last_in [] c h = cc h
last_in (x ∷ []) c h = let e : x ≡ c = cc h in inl e
last_in (x ∷ y ∷ rs) c h = inr (last_in (y ∷ rs) c h)

module _ {X : Type 0} (p : X → Bool) where
  all_passing : (P : X → Type 0) (xs : List X) → All P (filter p xs) → All (λ x. p x ≡ true → P x) xs
  all_passing P [] h = All-nil (λ (x : X). p x ≡ true → P x)
  all_passing P (x ∷ xs) h = elim (cases_Bool (p x)) [
    | inl passes ↦
        let h' = rw passes at h in
        All-cons (λ (x : X). p x ≡ true → P x) x xs (λ _. All-head P x (filter p xs) h') (all_passing P xs (All-tail P x (filter p xs) h'))
    | inr fails ↦ All-cons (λ (x : X). p x ≡ true → P x) x xs (λ e. cc (sym fails ∙ e)) (all_passing P xs (rw fails at h))
  ]

  in_more : (x c : X) (xs : List X) → p x ≡ true → (IsIn c (filter p xs) → IsIn c xs × (p c ≡ true)) → (x ≡ c) ⊎ IsIn c (filter p xs) → ((x ≡ c) ⊎ IsIn c xs) × (p c ≡ true)
  in_more x c xs passes others (inl same) = (inl same, sym (ap p same) ∙ passes)
  in_more x c xs passes others (inr more) = let r = others more in (inr r.0, r.1)

  filter_in : (xs : List X) (c : X) → IsIn c (filter p xs) → IsIn c xs × (p c ≡ true)
  filter_in [] c h = absurd h
  filter_in (x ∷ xs) c h = elim (cases_Bool (p x)) [
    | inl passes ↦ in_more x c xs passes (λ m. filter_in xs c m) (rw passes at h)
    | inr fails ↦ let r = filter_in xs c (rw fails at h) in (inr r.0, r.1)
  ]

module _ (prefix : List ℕ) (k : ℕ) (rs : List Record) (rising : IsRising (keyed rs)) where
  -- a look-up that takes every sequence key into account
  looked : (p : Record → Bool) (found : Option Record) → found ≡ last_of (filter p rs) → All (λ q. (numbers : List ℕ) → numbers_of prefix k q.key ≡ Some numbers → p q ≡ true) rs → IsLast prefix k rs found
  looked p found e h =
      let up = subst IsRising (filter-keyed (λ x. p x.1) rs) (IsRising-filter (λ x. p x.1) (keyed rs) rising) in
      let last = all_passing p (λ (q : Record). IsUpTo q (last_of (filter p rs))) rs (last_greatest (filter p rs) up) in
      rw e (record {
        all = λ i d lt numbers there. last i d lt (h i d lt numbers there);
        there = λ c at. (filter_in p rs c (last_in (filter p rs) c at)).0;
      })

  -- the first look-up, from the greatest sequence key
  pub from_greatest : (found : Option Record) (top : List ℕ) → ((q numbers : List ℕ) → numbers_of prefix k q ≡ Some numbers → is_le (key_cmp q top) ≡ true) → found ≡ last_of (filter (λ (x : Record). is_le (key_cmp x.key top)) rs) → IsLast prefix k rs found
  from_greatest found top h e = looked (λ (x : Record). is_le (key_cmp x.key top)) found e (λ i d lt numbers there. h _ numbers there)

  -- a look-up below a key that is none
  pub from_other : (c : Record) (found : Option Record) → IsLast prefix k rs (Some c) → numbers_of prefix k c.key ≡ None → found ≡ last_of (filter (λ (x : Record). is_lt (key_cmp x.key c.key)) rs) → IsLast prefix k rs found
  from_other c found h none e =
      looked (λ (x : Record). is_lt (key_cmp x.key c.key)) found e (λ i d lt numbers there. below (get_or rs i d) numbers there (h.all i d lt numbers there))
    where
      below : (q : Record) (numbers : List ℕ) → numbers_of prefix k q.key ≡ Some numbers → is_le (key_cmp q.key c.key) ≡ true → is_lt (key_cmp q.key c.key) ≡ true
      below q numbers there le = elim (le_cases (key_cmp q.key c.key) le) [
        | inl less ↦ ap is_lt less
        | inr equal ↦ cc (sym none ∙ ap (numbers_of prefix k) (sym (key_anti q.key c.key equal)) ∙ there)
      ]

  -- a look-up from a cut
  pub from_cut : (c : Record) (cut : List ℕ) (found : Option Record) → IsLast prefix k rs (Some c) → IsCut prefix k c.key cut → found ≡ last_of (filter (λ (x : Record). is_le (key_cmp x.key cut)) rs) → IsLast prefix k rs found
  from_cut c cut found h is e =
      looked (λ (x : Record). is_le (key_cmp x.key cut)) found e (λ i d lt numbers there. is.none_between _ numbers there (h.all i d lt numbers there))

  -- a look-up from what was seen of a key
  pub from_seen : (c : Record) (look : Look) (cut : Option (List ℕ)) (found : Option Record) → IsLast prefix k rs (Some c) → Sees prefix k c.key look → look ≡ Other cut → found ≡ next_of c.key cut rs → IsLast prefix k rs found
  from_seen c look None found h seen is e = from_other c found h (subst (Sees prefix k c.key) is seen) e
  from_seen c look (Some cut) found h seen is e = from_cut c cut found h (subst (Sees prefix k c.key) is seen) e

-- ---- the greatest numbers

abbrev pub le : List ℕ → List ℕ → Type 0
le a b = is_le (slice_cmp nat_cmp a b) ≡ true

pub numbers_anti : IsAntisymmetric (slice_cmp nat_cmp)
numbers_anti = slice_cmp-IsAntisymmetric nat_cmp-IsAntisymmetric

greater_le : (a x m : List ℕ) → le a m → le x m → le (greater_of a x) m
greater_le a x m p q = elim (cases_Bool (is_lt (slice_cmp nat_cmp a x))) [
  | inl less ↦ rw less q
  | inr not_less ↦ rw not_less p
]

turned_le : (a m : List ℕ) → le a m → is_lt (slice_cmp nat_cmp m a) ≡ false
turned_le a m h = turned (slice_cmp nat_cmp m a) (ap is_le (sym (nat_list_cmp_total.antisymm a m)) ∙ h)
  where
    turned : (r : Ordering) → is_le (ordering_reverse r) ≡ true → is_lt r ≡ false
    turned Less h = cc h
    turned Equal h = refl
    turned Greater h = refl

-- the greatest stays, and it comes
greater_first : (x m : List ℕ) → le x m → greater_of m x ≡ m
greater_first x m h = rw (turned_le x m h) refl

greater_second : (a m : List ℕ) → le a m → greater_of a m ≡ m
greater_second a m h = elim (le_cases (slice_cmp nat_cmp a m) h) [
  | inl less ↦ rw less refl
  | inr equal ↦ rw equal (numbers_anti a m equal)
]

abbrev pub AllLe : List (List ℕ) → List ℕ → Type 0
AllLe [] m = Unit {0}
AllLe (x ∷ xs) m = le x m × AllLe xs m

fold_greatest : (xs : List (List ℕ)) (a m : List ℕ) → le a m → AllLe xs m → (a ≡ m) ⊎ IsIn m xs → fold greater_of a xs ≡ m
fold_greatest [] a m p q (inl same) = same
fold_greatest [] a m p q (inr none) = absurd none
fold_greatest (x ∷ xs) a m p q (inl same) = fold_greatest xs (greater_of a x) m (greater_le a x m p q.0) q.1 (inl (ap (λ b. greater_of b x) same ∙ greater_first x m q.0))
fold_greatest (x ∷ xs) a m p q (inr (inl same)) = fold_greatest xs (greater_of a x) m (greater_le a x m p q.0) q.1 (inl (ap (greater_of a) same ∙ greater_second a m p))
fold_greatest (x ∷ xs) a m p q (inr (inr more)) = fold_greatest xs (greater_of a x) m (greater_le a x m p q.0) q.1 (inr more)

zeros_le : (k : ℕ) (ns : List ℕ) → length ns ≡ k → le (replicate k 0) ns
zeros_le ℕ.zero [] l = refl
zeros_le ℕ.zero (n ∷ ns) l = absurd (omega arith)
zeros_le (ℕ.suc k) [] l = absurd (omega arith)
zeros_le (ℕ.suc k) (n ∷ ns) l = elim (cases_lt 0 n) [
  | inl more ↦ rw (less_is 0 n more) refl
  | inr none ↦ rw (equal_is 0 n (omega arith)) (zeros_le k ns (omega arith))
]

greatest_le : (k : ℕ) (ns : List ℕ) → Fit ns → length ns ≡ k → le ns (replicate k 18446744073709551615)
greatest_le ℕ.zero [] f l = refl
greatest_le ℕ.zero (n ∷ ns) f l = absurd (omega arith)
greatest_le (ℕ.suc k) [] f l = absurd (omega arith)
greatest_le (ℕ.suc k) (n ∷ ns) f l =
    let small : n < 2 ^ 64 = f.0 in
    elim (cases_lt n 18446744073709551615) [
      | inl less ↦ rw (less_is n 18446744073709551615 less) refl
      | inr most ↦ rw (equal_is n 18446744073709551615 (omega arith)) (greatest_le k ns f.1 (omega arith))
    ]

zeros_fit : (k : ℕ) → Fit (replicate k 0)
zeros_fit ℕ.zero = tt
zeros_fit (ℕ.suc k) = (omega arith, zeros_fit k)

zeros_before : (prefix : List ℕ) (k : ℕ) (ms : List ℕ) → Fit ms → length ms ≡ k → is_le (key_cmp (sequence_key prefix (replicate k 0)) (sequence_key prefix ms)) ≡ true
zeros_before prefix k ms f l = ap is_le (sequence-cmp prefix (replicate k 0) ms (zeros_fit k) f (length-replicate k 0 ∙ sym l)) ∙ zeros_le k ms l

greatest_fit : (k : ℕ) → Fit (replicate k 18446744073709551615)
greatest_fit ℕ.zero = tt
greatest_fit (ℕ.suc k) = (omega arith, greatest_fit k)

-- each sequence key stands at or before the greatest
pub at_greatest : (prefix : List ℕ) (k : ℕ) (q ms top : List ℕ) → top ≡ sequence_key prefix (replicate k 18446744073709551615) → numbers_of prefix k q ≡ Some ms → is_le (key_cmp q top) ≡ true
at_greatest prefix k q ms top e there =
    let one = numbers_of-is prefix k q ms there in
    ap is_le (λ i. key_cmp (one.text i) (e i))
    ∙ ap is_le (sequence-cmp prefix ms (replicate k 18446744073709551615) one.fit (greatest_fit k) (one.count ∙ sym (length-replicate k 18446744073709551615)))
    ∙ greatest_le k ms one.fit one.count

module _ (prefix : List ℕ) (k : ℕ) where
  abbrev pub found_in : List Record → List (List ℕ)
  found_in rs = filter_map (numbers_of prefix k) (map (λ (r : Record). r.key) rs)

  all_le : (rs : List Record) (m : List ℕ) → All (λ (q : Record). (numbers : List ℕ) → numbers_of prefix k q.key ≡ Some numbers → le numbers m) rs → AllLe (found_in rs) m
  all_le [] m h = tt
  all_le (r ∷ rs) m h =
      let P : Record → Type 0 = λ q. (numbers : List ℕ) → numbers_of prefix k q.key ≡ Some numbers → le numbers m in
      le_at (numbers_of prefix k r.key) (All-head P r rs h) (all_le rs m (All-tail P r rs h))
    where
      le_at : (o : Option (List ℕ)) → ((numbers : List ℕ) → o ≡ Some numbers → le numbers m) → AllLe (found_in rs) m → AllLe (Rattle.std.specs.List.cons_option o (found_in rs)) m
      le_at None one others = others
      le_at (Some x) one others = (one x refl, others)

  pub in_found : (rs : List Record) (c : Record) (m : List ℕ) → IsIn c rs → numbers_of prefix k c.key ≡ Some m → IsIn m (found_in rs)
  in_found [] c m h e = absurd h
  in_found (r ∷ rs) c m (inl same) e =
      let here : numbers_of prefix k r.key ≡ Some m = ap (λ (x : Record). numbers_of prefix k x.key) same ∙ e in
      rw here (inl refl)
  in_found (r ∷ rs) c m (inr more) e = in_at (numbers_of prefix k r.key) (in_found rs c m more e)
    where
      in_at : (o : Option (List ℕ)) → IsIn m (found_in rs) → IsIn m (Rattle.std.specs.List.cons_option o (found_in rs))
      in_at None there = there
      in_at (Some x) there = inr there

  none_found : (rs : List Record) → All (λ (q : Record). numbers_of prefix k q.key ≡ None) rs → found_in rs ≡ []
  none_found [] h = refl
  none_found (r ∷ rs) h =
      let P : Record → Type 0 = λ q. numbers_of prefix k q.key ≡ None in
      let here : numbers_of prefix k r.key ≡ None = All-head P r rs h in
      rw here (none_found rs (All-tail P r rs h))

  -- the last record is a sequence key
  pub greatest-is : (rs : List Record) (c : Record) (numbers : List ℕ) → IsLast prefix k rs (Some c) → numbers_of prefix k c.key ≡ Some numbers → last_numbers (map (λ (r : Record). r.key) rs) prefix k ≡ numbers
  greatest-is rs c numbers h e =
      let it = numbers_of-is prefix k c.key numbers e in
      fold_greatest (found_in rs) (replicate k 0) numbers (zeros_le k numbers it.count) (all_le rs numbers (λ i d lt ms there. order (get_or rs i d) ms there (h.all i d lt ms there))) (inr (in_found rs c numbers (h.there c refl) e))
    where
      order : (q : Record) (ms : List ℕ) → numbers_of prefix k q.key ≡ Some ms → is_le (key_cmp q.key c.key) ≡ true → le ms numbers
      order q ms there up =
          let one = numbers_of-is prefix k q.key ms there in
          let it = numbers_of-is prefix k c.key numbers e in
          ap is_le (sym (sequence-cmp prefix ms numbers one.fit it.fit (one.count ∙ sym it.count))) ∙ ap is_le (λ i. key_cmp (sym one.text i) (sym it.text i)) ∙ up

  -- no record is one
  none-is : (rs : List Record) → All (λ (q : Record). (numbers : List ℕ) → numbers_of prefix k q.key ≡ Some numbers → ⊥) rs → last_numbers (map (λ (r : Record). r.key) rs) prefix k ≡ replicate k 0
  none-is rs h = ap (fold greater_of (replicate k 0)) (none_found rs (λ i d lt. none_at _ refl (h i d lt)))
    where
      none_at : {o : Option (List ℕ)} (p : Option (List ℕ)) → o ≡ p → ((numbers : List ℕ) → o ≡ Some numbers → ⊥) → o ≡ None
      none_at None e never = e
      none_at (Some x) e never = absurd (never x e)

  pub nothing-is : (rs : List Record) → IsLast prefix k rs None → last_numbers (map (λ (r : Record). r.key) rs) prefix k ≡ replicate k 0
  nothing-is rs h = none-is rs h.all

  -- the last record stands before every sequence key
  pub low-is : (rs : List Record) (c : Record) (low : List ℕ) → IsLast prefix k rs (Some c) → low ≡ sequence_key prefix (replicate k 0) → key_cmp c.key low ≡ Less → last_numbers (map (λ (r : Record). r.key) rs) prefix k ≡ replicate k 0
  low-is rs c low h e less = none-is rs (λ i d lt ms there. never (get_or rs i d) ms there (h.all i d lt ms there))
    where
      never : (q : Record) (ms : List ℕ) → numbers_of prefix k q.key ≡ Some ms → is_le (key_cmp q.key c.key) ≡ true → ⊥
      never q ms there up =
          let one = numbers_of-is prefix k q.key ms there in
          let above : is_le (key_cmp low q.key) ≡ true = ap is_le (λ i. key_cmp (e i) (one.text i)) ∙ zeros_before prefix k ms one.fit one.count in
          not_past q.key c.key up (before c.key low q.key less above)

-- ---- a search ends

-- how many records stand before the key
abbrev pub count_before : List ℕ → List Record → ℕ
count_before key rs = length (filter (λ (r : Record). is_lt (key_cmp r.key key)) rs)

-- how far the search may go on
abbrev pub ahead : List Record → Option Record → ℕ
ahead rs None = 0
ahead rs (Some c) = 1 + count_before c.key rs

fewer : (a b : List ℕ) (rs : List Record) → key_cmp a b ≡ Less → count_before a rs ≤ count_before b rs
fewer a b [] h = omega arith
fewer a b (r ∷ rs) h =
    let others = fewer a b rs h in
    elim (cases_Bool (is_lt (key_cmp r.key a))) [
      | inl low ↦
          let low_too : is_lt (key_cmp r.key b) ≡ true = ap is_lt (key_total.trans r.key a b (lt_case (key_cmp r.key a) low) h) in
          rw (low, low_too) (omega arith)
      | inr high ↦ elim (cases_Bool (is_lt (key_cmp r.key b))) [
        | inl between ↦ rw (high, between) (omega arith)
        | inr past ↦ rw (high, past) others
      ]
    ]

-- a record before the key counts there, and not before itself
shrinks : (c : Record) (key : List ℕ) (rs : List Record) → key_cmp c.key key ≡ Less → IsIn c rs → count_before c.key rs < count_before key rs
shrinks c key [] h none = absurd none
shrinks c key (r ∷ rs) h (inl same) =
    let high : is_lt (key_cmp r.key c.key) ≡ false = ap is_lt (ap (λ (x : Record). key_cmp x.key c.key) same ∙ tied_itself key_total c.key) in
    let low : is_lt (key_cmp r.key key) ≡ true = ap is_lt (ap (λ (x : Record). key_cmp x.key key) same ∙ h) in
    let others = fewer c.key key rs h in
    rw (high, low) (omega arith)
shrinks c key (r ∷ rs) h (inr more) =
    let others = shrinks c key rs h more in
    elim (cases_Bool (is_lt (key_cmp r.key c.key))) [
      | inl low ↦
          let low_too : is_lt (key_cmp r.key key) ≡ true = ap is_lt (key_total.trans r.key c.key key (lt_case (key_cmp r.key c.key) low) h) in
          rw (low, low_too) (omega arith)
      | inr high ↦ elim (cases_Bool (is_lt (key_cmp r.key key))) [
        | inl between ↦ rw (high, between) (omega arith)
        | inr past ↦ rw (high, past) others
      ]
    ]

-- the next look-up finds a record before this one, or none
ahead_at : (rs : List Record) (c : Record) (next : Option Record) → ((n : Record) → next ≡ Some n → (key_cmp n.key c.key ≡ Less) × IsIn n rs) → ahead rs next < ahead rs (Some c)
ahead_at rs c None h = omega arith
ahead_at rs c (Some n) h = let r = h n refl in let less = shrinks n c.key rs r.0 r.1 in omega arith

pub ahead_other : (rs : List Record) (c : Record) (next : Option Record) → next ≡ last_of (filter (λ (x : Record). is_lt (key_cmp x.key c.key)) rs) → ahead rs next < ahead rs (Some c)
ahead_other rs c next e = ahead_at rs c next (λ n at.
    let r = filter_in (λ (x : Record). is_lt (key_cmp x.key c.key)) rs n (last_in _ n (sym e ∙ at)) in
    (lt_case (key_cmp n.key c.key) r.1, r.0))

pub ahead_cut : (rs : List Record) (c : Record) (cut : List ℕ) (next : Option Record) → key_cmp cut c.key ≡ Less → next ≡ last_of (filter (λ (x : Record). is_le (key_cmp x.key cut)) rs) → ahead rs next < ahead rs (Some c)
ahead_cut rs c cut next less e = ahead_at rs c next (λ n at.
    let r = filter_in (λ (x : Record). is_le (key_cmp x.key cut)) rs n (last_in _ n (sym e ∙ at)) in
    (after n.key r.1, r.0))
  where
    after : (n : List ℕ) → is_le (key_cmp n cut) ≡ true → key_cmp n c.key ≡ Less
    after n h = elim (le_cases (key_cmp n cut) h) [
      | inl lt ↦ key_total.trans n cut c.key lt less
      | inr eq ↦ ap (λ x. key_cmp x c.key) (key_anti n cut eq) ∙ less
    ]

pub ahead_seen : (prefix : List ℕ) (k : ℕ) (rs : List Record) (c : Record) (look : Look) (cut : Option (List ℕ)) (found : Option Record) → Sees prefix k c.key look → look ≡ Other cut → found ≡ next_of c.key cut rs → ahead rs found < ahead rs (Some c)
ahead_seen prefix k rs c look None found seen is e = ahead_other rs c found e
ahead_seen prefix k rs c look (Some cut) found seen is e = let it = subst (Sees prefix k c.key) is seen in ahead_cut rs c cut found it.less e
