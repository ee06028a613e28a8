-- Dropping the oldest one by one is the retention of the definitions.
use Rattle.std.proofs.Common.{◌≡◌, ◌∙◌, sym, ap, refl, ℕ, suc, ◌+◌, ◌<◌, ◌≤◌, Bool, true, false, leb, List, [], ◌∷◌, ◌++◌, length, sum_by, All, arith}
use Rattle.std.proofs.lemmas.Bool.{leb-true, le-leb, lt-leb}
use Rattle.std.proofs.lemmas.List.Sums.{sum_by-cons, sum_by-append}
use Rattle.ox_ops.specs.declared.notice.Notice.{Notice}
use Rattle.ox_ops.specs.declared.notice.NoticeBatch.{NoticeBatch}
use Rattle.ox_ops.specs.State.{ShardState}
use Rattle.ox_ops.specs.Weight.{batch_weight}
use Rattle.ox_ops.specs.Apply.{kept_time, kept_weight, old, young, heavy, light, dropped, last_offset, retained, with_batch}
use Rattle.ox_notice.specs.Kept.{Kept, kept_of, IsOrdered, IsHeld}
use Rattle.ox_notice.specs.Trim.{trim}

-- the low mark and the batches of the definitions
abbrev kept_from : ℕ → ℕ → List NoticeBatch → Kept
kept_from time low batches = record { low = last_offset low (dropped time batches); batches = light (young time batches) }

-- behind a young batch all are young
all_young : (time o t : ℕ) (batches : List NoticeBatch) → IsOrdered o t batches → time ≤ t + kept_time → young time batches ≡ batches
all_young time o t [] h le = refl
all_young time o t (b ∷ batches) h le =
    let later : t ≤ b.time = h.1 in
    let is : leb time (b.time + kept_time) ≡ true = le-leb _ _ (omega arith) in
    rw is (ap (λ (l : List NoticeBatch). b ∷ l) (all_young time (b.offset + 1) b.time batches h.2 (omega arith)))

-- and none is too old
none_old : (time o t : ℕ) (batches : List NoticeBatch) → IsOrdered o t batches → time ≤ t + kept_time → old time batches ≡ []
none_old time o t [] h le = refl
none_old time o t (b ∷ batches) h le =
    let later : t ≤ b.time = h.1 in
    let is : leb time (b.time + kept_time) ≡ true = le-leb _ _ (omega arith) in
    rw is (none_old time (b.offset + 1) b.time batches h.2 (omega arith))

trim-is : (time low o t : ℕ) (batches : List NoticeBatch) → IsOrdered o t batches → trim time low batches ≡ kept_from time low batches
trim-is time low o t [] h = refl
trim-is time low o t (b ∷ batches) h =
    by_tests (leb time (b.time + kept_time)) (leb (sum_by batch_weight (b ∷ batches)) kept_weight) refl refl
    (trim-is time b.offset (b.offset + 1) b.time batches h.2)
    (λ le. all_young time (b.offset + 1) b.time batches h.2 le)
    (λ le. none_old time (b.offset + 1) b.time batches h.2 le)
  where
    by_tests : (y l : Bool) → leb time (b.time + kept_time) ≡ y → leb (sum_by batch_weight (b ∷ batches)) kept_weight ≡ l
        → trim time b.offset batches ≡ kept_from time b.offset batches
        → (time ≤ b.time + kept_time → young time batches ≡ batches)
        → (time ≤ b.time + kept_time → old time batches ≡ [])
        → trim time low (b ∷ batches) ≡ kept_from time low (b ∷ batches)
    by_tests false l e f rest same none = rw e rest
    by_tests true true e f rest same none = rw (e, f, same (leb-true _ _ e), none (leb-true _ _ e)) (rw f refl)
    by_tests true false e f rest same none =
        let young_is : young time batches ≡ batches = same (leb-true _ _ e) in
        let old_is : old time batches ≡ [] = none (leb-true _ _ e) in
        rw (e, f, young_is, old_is) (rw f (rw (young_is, old_is) at rest))

-- ---- what a batch adds

with_batch-some : (offset time : ℕ) (notices : List Notice) (batches : List NoticeBatch) → (notices ≡ [] → ⊥) → with_batch offset time notices batches ≡ batches ++ record { offset = offset; time = time; notices = notices } ∷ []
with_batch-some offset time [] batches h = absurd (h refl)
with_batch-some offset time (n ∷ notices) batches h = refl

-- a batch that is too heavy by itself takes all others with it
trim-heavy : (time low : ℕ) (batches : List NoticeBatch) (b : NoticeBatch) → kept_weight < batch_weight b → trim time low (batches ++ b ∷ []) ≡ record { low = b.offset; batches = [] }
trim-heavy time low [] b h = by_test (leb time (b.time + kept_time)) refl
  where
    heavy : leb (sum_by batch_weight (b ∷ [])) kept_weight ≡ false
    heavy = let one : sum_by batch_weight (b ∷ []) ≡ batch_weight b + 0 = sum_by-cons batch_weight b [] in lt-leb _ _ (omega arith)

    by_test : (y : Bool) → leb time (b.time + kept_time) ≡ y → trim time low (b ∷ []) ≡ record { low = b.offset; batches = [] }
    by_test true e = rw (e, heavy) refl
    by_test false e = rw e refl
trim-heavy time low (x ∷ batches) b h = by_test (leb time (x.time + kept_time)) refl (trim-heavy time x.offset batches b h)
  where
    heavy : leb (sum_by batch_weight (x ∷ (batches ++ b ∷ []))) kept_weight ≡ false
    heavy =
        let all : sum_by batch_weight (x ∷ (batches ++ b ∷ [])) ≡ batch_weight x + sum_by batch_weight (batches ++ b ∷ []) = sum_by-cons batch_weight x (batches ++ b ∷ []) in
        let both : sum_by batch_weight (batches ++ b ∷ []) ≡ sum_by batch_weight batches + sum_by batch_weight (b ∷ []) = sum_by-append batch_weight batches (b ∷ []) in
        let one : sum_by batch_weight (b ∷ []) ≡ batch_weight b + 0 = sum_by-cons batch_weight b [] in
        lt-leb _ _ (omega arith)

    by_test : (y : Bool) → leb time (x.time + kept_time) ≡ y → trim time x.offset (batches ++ b ∷ []) ≡ record { low = b.offset; batches = [] } → trim time low (x ∷ (batches ++ b ∷ [])) ≡ record { low = b.offset; batches = [] }
    by_test true e rest = rw (e, heavy) rest
    by_test false e rest = rw e rest

pub ordered-behind : (o t : ℕ) (batches : List NoticeBatch) (b : NoticeBatch) → IsOrdered o t batches → All (λ (x : NoticeBatch). x.offset < b.offset) batches → All (λ (x : NoticeBatch). x.time ≤ b.time) batches → o ≤ b.offset → t ≤ b.time
    → IsOrdered o t (batches ++ b ∷ [])
ordered-behind o t [] b h later not_earlier p q = (p, q, tt)
ordered-behind o t (x ∷ batches) b h later not_earlier p q =
    let first : x.offset < b.offset = later 0 x (omega arith) in
    let early : x.time ≤ b.time = not_earlier 0 x (omega arith) in
    (h.0, h.1, ordered-behind (x.offset + 1) x.time batches b h.2 (λ k d l. later (suc k) d (omega arith)) (λ k d l. not_earlier (suc k) d (omega arith)) (omega arith) early)

ordered-weaker : (o t : ℕ) (batches : List NoticeBatch) → IsOrdered o t batches → IsOrdered 0 0 batches
ordered-weaker o t [] h = tt
ordered-weaker o t (b ∷ batches) h = (omega arith, omega arith, h.2)

pub trim-held : (time low o t : ℕ) (batches : List NoticeBatch) → IsOrdered o t batches → IsHeld (trim time low batches).batches
trim-held time low o t [] h = record { light = omega arith; ordered = tt }
trim-held time low o t (b ∷ batches) h = by_tests (leb time (b.time + kept_time)) (leb (sum_by batch_weight (b ∷ batches)) kept_weight) refl refl (trim-held time b.offset (b.offset + 1) b.time batches h.2)
  where
    by_tests : (y l : Bool) → leb time (b.time + kept_time) ≡ y → leb (sum_by batch_weight (b ∷ batches)) kept_weight ≡ l → IsHeld (trim time b.offset batches).batches → IsHeld (trim time low (b ∷ batches)).batches
    by_tests false l e f rest = rw e rest
    by_tests true false e f rest = rw (e, f) rest
    by_tests true true e f rest = rw (e, f) (record { light = leb-true _ _ f; ordered = ordered-weaker o t (b ∷ batches) h })

-- ---- the clause of `add`

module _ (s : ShardState) (time low : ℕ) (batches : List NoticeBatch) (at : s.time ≡ time) (mark : s.low ≡ low) (held : IsHeld batches) where
  pub adds-nothing : (offset : ℕ) (notices : List Notice) → notices ≡ [] → kept_of (retained s (with_batch offset time notices batches)) ≡ trim time low batches
  adds-nothing offset notices none = rw (none, at, mark) (sym (trim-is time low 0 0 batches held.ordered))

  -- the batch that a command adds
  module _ (offset : ℕ) (notices : List Notice) (some : notices ≡ [] → ⊥) (later : All (λ (x : NoticeBatch). x.offset < offset) batches) (not_earlier : All (λ (x : NoticeBatch). x.time ≤ time) batches) where
    abbrev added : NoticeBatch
    added = record { offset = offset; time = time; notices = notices }

    pub ordered : IsOrdered 0 0 (batches ++ added ∷ [])
    ordered = ordered-behind 0 0 batches added held.ordered later not_earlier (omega arith) (omega arith)

    pub adds : kept_of (retained s (with_batch offset time notices batches)) ≡ trim time low (batches ++ added ∷ [])
    adds = rw (with_batch-some offset time notices batches some, at, mark) (sym (trim-is time low 0 0 (batches ++ added ∷ []) ordered))

    pub adds-heavy : kept_weight < batch_weight added → kept_of (retained s (with_batch offset time notices batches)) ≡ record { low = offset; batches = [] }
    adds-heavy h = adds ∙ trim-heavy time low batches added h
