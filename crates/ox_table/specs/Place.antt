-- Places in a list of pairs, as a search by key answers them.
use Rattle.std.specs.Prelude.{◌≡◌, ℕ, ◌+◌, ◌-◌, ◌<◌, ◌≤◌, List, ◌++◌, length, take, drop}
use Rattle.std.specs.List.{HoldsAt, AllWithin}
use Rattle.std.specs.declared.cmp.Ordering.TheVariants.{Less, Equal, Greater}
use Rattle.ox_types.specs.Order.{key_cmp}
use Rattle.ox_order.specs.declared.range.KeyRange.{KeyRange}
use Rattle.ox_table.specs.Table.{Pairs, within, without}

-- the pair of the key stands at this place, between the lesser and the greater keys
pub record IsPlaceOf {V : Type 0} (pairs : Pairs V) (key : List ℕ) (place : ℕ) : Type 0 where
  pub inside : place < length pairs
  pub less : AllWithin (λ p. key_cmp p.0 key ≡ Less) pairs 0 place
  pub equal : HoldsAt (λ p. key_cmp p.0 key ≡ Equal) pairs place
  pub greater : AllWithin (λ p. key_cmp p.0 key ≡ Greater) pairs (place + 1) (length pairs)

-- no pair has the key, which would go to this place
pub record IsGapFor {V : Type 0} (pairs : Pairs V) (key : List ℕ) (place : ℕ) : Type 0 where
  pub inside : place ≤ length pairs
  pub less : AllWithin (λ p. key_cmp p.0 key ≡ Less) pairs 0 place
  pub greater : AllWithin (λ p. key_cmp p.0 key ≡ Greater) pairs place (length pairs)

-- the pairs from start up to end are those in the range
pub record IsRunOf {V : Type 0} (pairs : Pairs V) (range : KeyRange) (start end : ℕ) : Type 0 where
  pub ordered : start ≤ end
  pub inside : end ≤ length pairs
  pub run : take (end - start) (drop start pairs) ≡ within range pairs
  pub others : take start pairs ++ drop end pairs ≡ without range pairs
