-- Runs of one term.
use Rattle.std.proofs.Common.{◌≡◌, ℕ, zero, suc, ◌+◌, ◌-◌, ◌<◌, ◌≤◌, Bool, true, false, leb, List, [], ◌∷◌, ◌++◌, length, get_or, drop, refl, sym, ap, ◌∙◌, arith, append_assoc}
use Rattle.std.specs.Prelude.{◌==◌, if◌then◌else◌}
use Rattle.std.specs.List.Sorted.{IsNonDecreasingBy, IsPartitionPoint}
use Rattle.std.proofs.lemmas.Bool.{leb-true, leb-false, eq-eqb, eqb-true}
use Rattle.std.proofs.lemmas.Bool.Decides.{nat_tests}
use Rattle.ox_types.specs.declared.log.Head.{Head}
use Rattle.ox_types.specs.declared.log.Entry.{Entry}
use Rattle.ox_types.specs.declared.log.TermRun.{TermRun}
use Rattle.ox_types.specs.Log.{onto_runs, runs_of, head_from}
use Rattle.ox_types.specs.Durable.{may_follow}
use Rattle.ox_wal.specs.Follow.{last_term, Follow}
use Rattle.ox_wal.proofs.Following.{follow_parts}

-- terms of entries that follow
follow_at : (top t c : ℕ) (es : List Entry) → may_follow top t c es ≡ true → (k : ℕ) (d : Entry) → k < length es → t ≤ (get_or es k d).term
follow_at top t c [] h k d lt = absurd (omega arith)
follow_at top t c (e ∷ es) h zero d lt = (follow_parts top t c e es h).1
follow_at top t c (e ∷ es) h (suc k) d lt =
    let p = follow_parts top t c e es h in
    let low : t ≤ e.term = p.1 in
    let rest = follow_at top e.term (c + 1) es p.3 k d (omega arith) in
    omega arith

pub terms_rise : (top t c : ℕ) (es : List Entry) → may_follow top t c es ≡ true → IsNonDecreasingBy (λ (e : Entry). e.term) es
terms_rise top t c [] h i j d le lt = absurd (omega arith)
terms_rise top t c (e ∷ es) h zero zero d le lt = omega arith
terms_rise top t c (e ∷ es) h zero (suc j) d le lt = let p = follow_parts top t c e es h in follow_at top e.term (c + 1) es p.3 j d (omega arith)
terms_rise top t c (e ∷ es) h (suc i) zero d le lt = absurd (omega arith)
terms_rise top t c (e ∷ es) h (suc i) (suc j) d le lt = let p = follow_parts top t c e es h in terms_rise top e.term (c + 1) es p.3 i j d (omega arith) (omega arith)

pub follow_drop : (n : ℕ) (es : List Entry) → Follow es → Follow (drop n es)
follow_drop zero es f = f
follow_drop (suc n) [] f = f
follow_drop (suc n) (e ∷ es) f =
    let p = follow_parts f.top f.term f.count e es f.is in
    follow_drop n es (record { top = f.top; term = e.term; count = f.count + 1; is = p.3 })

-- runs begin with the term of the first entry
record Begins (e : Entry) (runs : List TermRun) : Type 0 where
  run : TermRun
  rest : List TermRun
  is : runs ≡ run ∷ rest
  term : run.term ≡ e.term

begins_onto : (e : Entry) (runs : List TermRun) → Begins e (onto_runs e runs)
begins_onto e [] = record { run = record { term = e.term; last = e.offset }; rest = []; is = refl; term = refl }
begins_onto e (r ∷ runs) = by_test (r.term == e.term) refl
  where
    by_test : (b : Bool) → (r.term == e.term) ≡ b → Begins e (if r.term == e.term then r ∷ runs else record { term = e.term; last = e.offset } ∷ r ∷ runs)
    by_test true h = record { run = r; rest = runs; is = rw h refl; term = eqb-true _ _ h }
    by_test false h = record { run = record { term = e.term; last = e.offset }; rest = r ∷ runs; is = rw h refl; term = refl }

-- a run begins before one of another term, and takes in one of its own
onto_other : (e : Entry) (runs : List TermRun) (r : TermRun) (rest : List TermRun) → runs ≡ r ∷ rest → e.term < r.term → onto_runs e runs ≡ record { term = e.term; last = e.offset } ∷ runs
onto_other e runs r rest is higher =
    ap (λ (l : List TermRun). onto_runs e l) is ∙ test r.term e.term higher ∙ ap (λ (l : List TermRun). record { term = e.term; last = e.offset } ∷ l) (sym is)
  where
    test : (a b : ℕ) → b < a → (if a == b then r ∷ rest else record { term = e.term; last = e.offset } ∷ r ∷ rest) ≡ record { term = e.term; last = e.offset } ∷ r ∷ rest
    test a b lt = grind (arith, nat_tests)

onto_same : (e : Entry) (t last : ℕ) (rest : List TermRun) → t ≡ e.term → onto_runs e (record { term = t; last = last } ∷ rest) ≡ record { term = t; last = last } ∷ rest
onto_same e t last rest same = rw (eq-eqb t e.term same) refl

-- the entries up to a place have the term of the first, and one behind it has a higher one
pub run_front : (top c t : ℕ) (x : Entry) (es : List Entry) (n : ℕ) (d : Entry) → x.term ≡ t → may_follow top t c es ≡ true → n ≤ length es
    → IsPartitionPoint (λ (e : Entry). leb e.term t ≡ true) (λ (e : Entry). leb e.term t ≡ false) (x ∷ es) (suc n)
    → runs_of (x ∷ es) ≡ record { term = t; last = (get_or (x ∷ es) n d).offset } ∷ runs_of (drop n es)
run_front top c t x [] zero d same h le point = ap (λ (k : ℕ). record { term = k; last = x.offset } ∷ []) same
run_front top c t x [] (suc n) d same h le point = absurd (omega arith)
run_front top c t x (y ∷ es) zero d same h le point =
    let begins = begins_onto y (runs_of es) in
    let higher : t < y.term = leb-false _ _ (point.1 1 y (omega arith) (omega arith)) in
    let term : begins.run.term ≡ y.term = begins.term in
    onto_other x (runs_of (y ∷ es)) begins.run begins.rest begins.is (omega arith)
    ∙ ap (λ (k : ℕ). record { term = k; last = x.offset } ∷ runs_of (y ∷ es)) same
run_front top c t x (y ∷ es) (suc n) d same h le point =
    let p = follow_parts top t c y es h in
    let low : t ≤ y.term = p.1 in
    let high : y.term ≤ t = leb-true _ _ (point.0 1 y (omega arith) (omega arith)) in
    let here : y.term ≡ t = omega arith in
    let rest = run_front top (c + 1) t y es n d here (ap (λ (k : ℕ). may_follow top k (c + 1) es) (sym here) ∙ p.3) (omega arith)
    (λ k e a l. point.0 (suc k) e (omega arith) (omega arith), λ k e a l. point.1 (suc k) e (omega arith) (omega arith)) in
    ap (λ (l : List TermRun). onto_runs x l) rest
    ∙ onto_same x t _ (runs_of (drop n es)) (sym same)

-- the head of entries that follow
pub head_is : (top : ℕ) (h : Head) (es : List Entry) → may_follow top h.term h.count es ≡ true → head_from h es ≡ record { term = last_term h.term es; count = h.count + length es }
head_is top h [] follows = ap (λ (n : ℕ). record { term = h.term; count = n }) (omega arith)
head_is top h (e ∷ es) follows =
    let p = follow_parts top h.term h.count e es follows in
    let next : Head = record { term = e.term; count = e.offset + 1 } in
    let at : e.offset ≡ h.count = p.0 in
    let behind : h.count + 1 ≡ e.offset + 1 = omega arith in
    head_is top next es (ap (λ (n : ℕ). may_follow top e.term n es) (sym behind) ∙ p.3)
    ∙ ap (λ (n : ℕ). record { term = last_term e.term es; count = n }) (omega arith)

-- the length of the first run
pub run_is : (es : List Entry) (n t : ℕ) (e : Entry) → 0 < length es → Follow es → t ≡ (get_or es 0 e).term → n ≤ length es
    → IsPartitionPoint (λ (e : Entry). leb e.term t ≡ true) (λ (e : Entry). leb e.term t ≡ false) es n
    → (0 < n) × ((d : Entry) → runs_of es ≡ record { term = (get_or es 0 d).term; last = (get_or es (n - 1) d).offset } ∷ runs_of (drop n es))
run_is [] n t e some f is le point = absurd (omega arith)
run_is (x ∷ es) zero t e some f is le point =
    let higher : t < x.term = leb-false _ _ (point.1 0 x (omega arith) (omega arith)) in
    absurd (omega arith)
run_is (x ∷ es) (suc n) t e some f is le point =
    let p = follow_parts f.top f.term f.count x es f.is in
    let less : suc n - 1 ≡ n = omega arith in
    let front = λ (d : Entry). run_front f.top (f.count + 1) t x es n d (sym is) (ap (λ (k : ℕ). may_follow f.top k (f.count + 1) es) is ∙ p.3) (omega arith) point in (
      omega arith,
      λ d. front d ∙ ap (λ (k : ℕ). record { term = k; last = (get_or (x ∷ es) n d).offset } ∷ runs_of (drop n es)) is
          ∙ ap (λ (k : ℕ). record { term = x.term; last = (get_or (x ∷ es) k d).offset } ∷ runs_of (drop n es)) (sym less),
    )

-- a run more is found
pub runs_more : (runs : List TermRun) (r : TermRun) (rest all : List TermRun) → runs ++ r ∷ rest ≡ all → (runs ++ r ∷ []) ++ rest ≡ all
runs_more runs r rest all h = append_assoc runs (r ∷ []) rest ∙ h
