-- The order of added entries is total, and tests by it are passed by the first entries of a list that stands in order.
use Rattle.std.proofs.Common.{◌≡◌, ◌∙◌, ℕ, zero, suc, ◌<◌, ◌≤◌, Bool, true, false, List, [], ◌∷◌, length, get_or, refl, sym, ap, arith, inl, inr}
use Rattle.std.specs.List.Sorted.{IsPartitionedBy, IsPartitionPoint}
use Rattle.std.specs.Ordering.{is_lt, is_le, ordering_then}
use Rattle.std.specs.Cmp.{IsTotalOrder, alike_right}
use Rattle.std.specs.declared.cmp.Ordering.{Ordering}
use Rattle.std.specs.declared.cmp.Ordering.TheVariants.{Less, Equal, Greater}
use Rattle.std.proofs.lemmas.Bool.{cases_lt}
use Rattle.ox_types.specs.Order.{bytes_cmp, key_cmp}
use Rattle.ox_types.specs.Comparisons.{less_of}
use Rattle.ox_types.specs.Lists.{IsCut}
use Rattle.ox_ops.specs.declared.write.IndexEntry.{IndexEntry}
use Rattle.ox_index.specs.declared.added.Added.{Added}
use Rattle.ox_index.specs.Order.{entry_cmp, added_cmp, StandsBefore, IsInOrder}
use Rattle.ox_index.specs.OrderTotal.{name_total, entry_total, added_total}

module _ {K : Type 0} {R : K → K → Ordering} (o : IsTotalOrder R) where
  -- what isn't past q is before all that q is before
  down_lt : (p q t : K) (r : Ordering) → R p q ≡ r → is_le r ≡ true → is_lt (R q t) ≡ true → is_lt (R p t) ≡ true
  down_lt p q t Less e le lt = ap is_lt (o.trans p q t e (less_of _ lt))
  down_lt p q t Equal e le lt = ap is_lt (o.congr p q t e) ∙ lt
  down_lt p q t Greater e le lt = cc le

  below_le : (p q t : K) (s : Ordering) → R p q ≡ Less → R q t ≡ s → is_le s ≡ true → is_le (R p t) ≡ true
  below_le p q t Less e f le = ap is_le (o.trans p q t e f)
  below_le p q t Equal e f le = ap is_le (sym (alike_right o q t p f) ∙ e)
  below_le p q t Greater e f le = cc le

  down_le : (p q t : K) (r : Ordering) → R p q ≡ r → is_le r ≡ true → is_le (R q t) ≡ true → is_le (R p t) ≡ true
  down_le p q t Less e le h = below_le p q t (R q t) e refl h
  down_le p q t Equal e le h = ap is_le (o.congr p q t e) ∙ h
  down_le p q t Greater e le h = cc le

-- the first of two comparisons that are less together
first_le : (r s : Ordering) → ordering_then r s ≡ Less → is_le r ≡ true
first_le Less s e = refl
first_le Equal s e = refl
first_le Greater s e = cc e

-- what stands before has no greater entry and name
pub entries_rise : (a b : Added) → added_cmp a b ≡ Less → is_le (entry_cmp a.entry b.entry) ≡ true
entries_rise a b e = first_le (entry_cmp a.entry b.entry) (key_cmp a.key b.key) e

le_first : (r s : Ordering) → is_le (ordering_then r s) ≡ true → is_le r ≡ true
le_first Less s e = refl
le_first Equal s e = refl
le_first Greater s e = cc e

pub names_rise : (a b : Added) → added_cmp a b ≡ Less → is_le (bytes_cmp a.entry.name b.entry.name) ≡ true
names_rise a b e = le_first (bytes_cmp a.entry.name b.entry.name) (key_cmp a.entry.key b.entry.key) (entries_rise a b e)

-- a test that what stands before passes too
abbrev pub GoesDown : (Added → Bool) → Type 0
GoesDown t = (a b : Added) → added_cmp a b ≡ Less → t b ≡ true → t a ≡ true

pub name_lt : (name : List ℕ) → GoesDown (λ a. is_lt (bytes_cmp a.entry.name name))
name_lt name a b e h = down_lt name_total a.entry.name b.entry.name name _ refl (names_rise a b e) h

pub name_le : (name : List ℕ) → GoesDown (λ a. is_le (bytes_cmp a.entry.name name))
name_le name a b e h = down_le name_total a.entry.name b.entry.name name _ refl (names_rise a b e) h

pub entry_lt : (entry : IndexEntry) → GoesDown (λ a. is_lt (entry_cmp a.entry entry))
entry_lt entry a b e h = down_lt entry_total a.entry b.entry entry _ refl (entries_rise a b e) h

pub entry_le : (entry : IndexEntry) → GoesDown (λ a. is_le (entry_cmp a.entry entry))
entry_le entry a b e h = down_le entry_total a.entry b.entry entry _ refl (entries_rise a b e) h

pub added_lt : (x : Added) → GoesDown (λ a. is_lt (added_cmp a x))
added_lt x a b e h = down_lt added_total a b x Less e refl h

-- ---- by place

pub before_at : (a : Added) (xs : List Added) → StandsBefore a xs → (k : ℕ) (d : Added) → k < length xs → added_cmp a (get_or xs k d) ≡ Less
before_at a [] b k d lt = absurd (omega arith)
before_at a (x ∷ xs) b zero d lt = b.0
before_at a (x ∷ xs) b (suc k) d lt = before_at a xs b.1 k d (omega arith)

pub rising_at : (xs : List Added) → IsInOrder xs → (i j : ℕ) (d : Added) → i < j → j < length xs → added_cmp (get_or xs i d) (get_or xs j d) ≡ Less
rising_at [] r i j d lt h = absurd (omega arith)
rising_at (x ∷ xs) r i zero d lt h = absurd (omega arith)
rising_at (x ∷ xs) r zero (suc j) d lt h = before_at x xs r.0 j d (omega arith)
rising_at (x ∷ xs) r (suc i) (suc j) d lt h = rising_at xs r.1 i j d (omega arith) (omega arith)

parted : (t : Added → Bool) → GoesDown t → (xs : List Added) → IsInOrder xs → IsPartitionedBy t xs
parted t down xs r i j d le h passes = elim (cases_lt i j) [
  | inl lt ↦ down _ _ (rising_at xs r i j d lt h) passes
  | inr ge ↦
      let same : i ≡ j = omega arith in
      rw same passes
]

-- what `partition_point` answers for such a test
pub cut_at : (t : Added → Bool) → GoesDown t → (xs : List Added) (n : ℕ) → IsInOrder xs → n ≤ length xs
    → (IsPartitionedBy t xs → IsPartitionPoint (λ y. t y ≡ true) (λ y. t y ≡ false) xs n) → IsCut t xs n
cut_at t down xs n r inside point =
    let halves = point (parted t down xs r) in
    record { inside = inside; front = halves.0; back = halves.1 }
