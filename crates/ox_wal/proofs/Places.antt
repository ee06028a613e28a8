-- A file breaks at one place at most.
use Rattle.std.proofs.Common.{◌≡◌, ◌⊎◌, inl, inr, ℕ, ◌+◌, ◌<◌, ◌^◌, suc, List, [], ◌∷◌, ◌++◌, All, length, take, drop, Some, None, refl, sym, ap, ◌∙◌, subst, arith, append_assoc, length-append}
use Rattle.std.proofs.lemmas.Bool.Decides.{nat_tests}
use Rattle.std.proofs.lemmas.List.{append-nil, append_cancel_left, take_at, drop_at}
use Rattle.std.proofs.lemmas.Nat.{from_be_bytes-to_be_bytes_4}
use Rattle.std.specs.Prelude.{nat_lt, if◌then◌else◌}
use Rattle.std.specs.Int.{from_be_bytes, w32}
use Rattle.ox_types.specs.Durable.{DurableState}
use Rattle.ox_journal.specs.Half.{be32, record_text, records_text, front}
use Rattle.ox_journal.specs.Next.{next_of, number_of, StandsAt}
use Rattle.ox_journal.specs.declared.reading.Next.TheVariants.{Cut, Record}
use Rattle.ox_wal.specs.Files.{state_in, Breaks}
use Rattle.ox_wal.proofs.Batches.{state_front}

same_number : (m n : ℕ) → m < 2 ^ 32 → n < 2 ^ 32 → be32 m ≡ be32 n → m ≡ n
same_number m n below_m below_n same = sym (from_be_bytes-to_be_bytes_4 m below_m) ∙ ap (λ (l : List ℕ). from_be_bytes w32 l) same ∙ from_be_bytes-to_be_bytes_4 n below_n

-- two records at one place are the same
same_record : (p q x y : List ℕ) → length p < 2 ^ 32 → length q < 2 ^ 32 → 1 ∷ record_text p ++ x ≡ 1 ∷ record_text q ++ y → p ≡ q
same_record p q x y below_p below_q e =
    let heads : be32 (length p) ≡ be32 (length q) = ap (λ (l : List ℕ). take 4 (drop 1 l)) e in
    let sizes : length p ≡ length q = same_number (length p) (length q) below_p below_q heads in
    let tails : p ++ x ≡ q ++ y = ap (λ (l : List ℕ). drop 5 l) e in
    sym (take_at p x (length p) refl) ∙ ap (λ (l : List ℕ). take (length p) l) tails ∙ take_at q y (length p) (sym sizes)

same_rest : (p q x y : List ℕ) → p ≡ q → 1 ∷ record_text p ++ x ≡ 1 ∷ record_text q ++ y → x ≡ y
same_rest p q x y is e = append_cancel_left (1 ∷ record_text p) x y (e ∙ ap (λ (l : List ℕ). 1 ∷ record_text l ++ y) (sym is))

fits_record : (n l : ℕ) → n + 4 < l → (if nat_lt (n + 4) l then Record n else Cut) ≡ Cut → ⊥
fits_record n l less e = let is : (if nat_lt (n + 4) l then Record n else Cut) ≡ Record n = grind (arith, nat_tests) in let f : Record n ≡ Cut = sym is ∙ e in cc

number_is : (p x : List ℕ) → length p < 2 ^ 32 → number_of (record_text p ++ x) ≡ length p
unfolding number_of
number_is p x below = from_be_bytes-to_be_bytes_4 (length p) below

-- a record with more behind it isn't cut short
not_cut : (p x : List ℕ) → length p < 2 ^ 32 → 0 < length x → next_of (1 ∷ record_text p ++ x) ≡ Cut → ⊥
not_cut p x below more cut =
    let text = record_text p ++ x in
    let number : number_of text ≡ length p = number_is p x below in
    let four : length (record_text p) ≡ length (be32 (length p)) + length p = length-append (be32 (length p)) p in
    let size : length (be32 (length p)) ≡ 4 = refl in
    let long : length text ≡ length (record_text p) + length x = length-append (record_text p) x in
    fits_record (number_of text) (length text) (omega arith) cut

-- what is wrong at a gate behind these payloads
abbrev Wrong : List (List ℕ) → List ℕ → Type 0
Wrong base text = (next_of text ≡ Cut)
    ⊎ ((payload : List ℕ) × (rest : List ℕ) × (text ≡ 1 ∷ record_text payload ++ rest) × (length payload < 2 ^ 32) × (state_in (base ++ payload ∷ []) ≡ None))

-- a payload behind which a state stands isn't wrong
not_wrong : (base more : List (List ℕ)) (p x text : List ℕ) (d : DurableState) → text ≡ 1 ∷ record_text p ++ x → 0 < length x → length p < 2 ^ 32 → state_in (base ++ p ∷ more) ≡ Some d → Wrong base text → ⊥
not_wrong base more p x text d is long below folds (inl cut) = not_cut p x below long (ap next_of (sym is) ∙ cut)
not_wrong base more p x text d is long below folds (inr bad) =
    let same : bad.0 ≡ p = same_record bad.0 p bad.1 x bad.3 below (sym bad.2 ∙ is) in
    let between = state_front (base ++ p ∷ []) more d (ap (λ (l : List (List ℕ)). state_in l) (append_assoc base (p ∷ []) more) ∙ folds) in
    let clash : None ≡ Some between.0 = sym bad.4 ∙ ap (λ (l : List ℕ). state_in (base ++ l ∷ [])) same ∙ between.1 in
    cc

-- payloads, what stands behind them, and what is wrong there
record Broken (base done : List (List ℕ)) (text rest : List ℕ) : Type 0 where
  pub is : text ≡ records_text done ++ rest
  pub sizes : All (λ p. length p < 2 ^ 32) done
  pub gate : (done ≡ []) ⊎ (0 < length rest)
  pub state : DurableState
  pub folds : state_in (base ++ done) ≡ Some state
  pub wrong : Wrong (base ++ done) rest

tail_sizes : (p : List ℕ) (ps : List (List ℕ)) → All (λ q. length q < 2 ^ 32) (p ∷ ps) → All (λ q. length q < 2 ^ 32) ps
tail_sizes p ps sizes k d within = sizes (suc k) d (omega arith)

some_rest : (p : List ℕ) (ps : List (List ℕ)) (rest : List ℕ) → (p ∷ ps ≡ []) ⊎ (0 < length rest) → 0 < length rest
some_rest p ps rest (inl none) = cc
some_rest p ps rest (inr some) = some

next_broken : (base : List (List ℕ)) (p : List ℕ) (ps : List (List ℕ)) (text rest : List ℕ) → Broken base (p ∷ ps) text rest → (text ≡ 1 ∷ record_text p ++ (records_text ps ++ rest)) × Broken (base ++ p ∷ []) ps (records_text ps ++ rest) rest
next_broken base p ps text rest b =
    let same : base ++ p ∷ ps ≡ (base ++ p ∷ []) ++ ps = sym (append_assoc base (p ∷ []) ps) in (
      b.is ∙ append_assoc (1 ∷ record_text p) (records_text ps) rest,
      record {
        is = refl;
        sizes = tail_sizes p ps b.sizes;
        gate = inr (some_rest p ps rest b.gate);
        state = b.state;
        folds = subst (λ (l : List (List ℕ)). state_in l ≡ Some b.state) same b.folds;
        wrong = subst (λ (l : List (List ℕ)). Wrong l rest) same b.wrong;
      },
    )

-- it isn't before a payload that was read
not_before : (base : List (List ℕ)) (p : List ℕ) (ps : List (List ℕ)) (text rest one : List ℕ) → Broken base (p ∷ ps) text rest → Broken base [] text one → ⊥
not_before base p ps text rest one two b =
    let next = next_broken base p ps text rest two in
    let long : length (records_text ps ++ rest) ≡ length (records_text ps) + length rest = length-append (records_text ps) rest in
    let some = some_rest p ps rest two.gate in
    not_wrong base ps p (records_text ps ++ rest) one two.state (sym b.is ∙ next.0) (omega arith) (two.sizes 0 [] (omega arith)) two.folds
    (subst (λ (l : List (List ℕ)). Wrong l one) (append-nil base) b.wrong)

one_place : (base xs ys : List (List ℕ)) (text u v : List ℕ) → Broken base xs text u → Broken base ys text v → xs ≡ ys
one_place base [] [] text u v one two = refl
one_place base [] (y ∷ ys) text u v one two = absurd (not_before base y ys text v u two one)
one_place base (x ∷ xs) [] text u v one two = absurd (not_before base x xs text u v one two)
one_place base (x ∷ xs) (y ∷ ys) text u v one two =
    let a = next_broken base x xs text u one in
    let b = next_broken base y ys text v two in
    let e = sym a.0 ∙ b.0 in
    let same : x ≡ y = same_record x y _ _ (one.sizes 0 [] (omega arith)) (two.sizes 0 [] (omega arith)) e in
    let rest : records_text xs ++ u ≡ records_text ys ++ v = same_rest x y _ _ same e in
    let other : Broken (base ++ x ∷ []) ys (records_text xs ++ u) v =
    subst (λ (t : List ℕ). Broken (base ++ x ∷ []) ys t v) (sym rest) (subst (λ (p : List ℕ). Broken (base ++ p ∷ []) ys (records_text ys ++ v) v) (sym same) b.1) in
    ap (λ (p : List ℕ). p ∷ xs) same ∙ ap (λ (ps : List (List ℕ)). y ∷ ps) (one_place (base ++ x ∷ []) xs ys (records_text xs ++ u) u v a.1 other)

broken_of : (file : List ℕ) (round at : ℕ) (breaks : Breaks file round at) → Broken [] breaks.done (drop 10 file) breaks.rest
unfolding front
broken_of file round at breaks = record {
  is = ap (λ (l : List ℕ). drop 10 l) breaks.text;
  sizes = breaks.sizes;
  gate = breaks.gate;
  state = breaks.state;
  folds = breaks.folds;
  wrong = wrong_of breaks.fault;
}
  where
    behind : drop at file ≡ breaks.rest
    behind = ap (λ (l : List ℕ). drop at l) breaks.text ∙ drop_at (front round breaks.done) breaks.rest at (sym breaks.place)

    wrong_of : (next_of (drop at file) ≡ Cut) ⊎ ((payload : List ℕ) × StandsAt file at payload × (length payload < 2 ^ 32) × (state_in (breaks.done ++ payload ∷ []) ≡ None)) → Wrong breaks.done breaks.rest
    wrong_of (inl cut) = inl (ap next_of (sym behind) ∙ cut)
    wrong_of (inr bad) = inr (bad.0, bad.1.rest, sym behind ∙ bad.1.text, bad.2, bad.3)

pub same_place : (file : List ℕ) (round a b : ℕ) → Breaks file round a → Breaks file round b → a ≡ b
same_place file round a b one two =
    one.place ∙ ap (λ (l : List (List ℕ)). length (front round l)) (one_place [] one.done two.done (drop 10 file) one.rest two.rest (broken_of file round a one) (broken_of file round b two)) ∙ sym two.place
