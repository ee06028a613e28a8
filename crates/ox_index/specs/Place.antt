-- Places in a list of added entries, as a search answers them.
use Rattle.std.specs.Prelude.{◌≡◌, ℕ, ◌<◌, ◌≤◌, Bool, List, length, Option, Some, None, if◌then◌else◌}
use Rattle.std.specs.List.{insert, remove}
use Rattle.std.specs.Ordering.{is_lt, is_le}
use Rattle.ox_types.specs.Order.{bytes_cmp}
use Rattle.ox_order.specs.declared.range.Lo.{Lo}
use Rattle.ox_order.specs.declared.range.Lo.TheVariants.{Start, At, Past}
use Rattle.ox_order.specs.declared.range.Hi.{Hi}
use Rattle.ox_order.specs.declared.range.Hi.TheVariants.{End, Before}
use Rattle.ox_index.specs.declared.added.Added.{Added}
use Rattle.ox_index.specs.Order.{entry_cmp}
use Rattle.ox_index.specs.Pairs.{with_added, without_added}

-- the entry stands before the low end of the range in the index of this name
abbrev pub is_before_start : List ℕ → Lo → Added → Bool
is_before_start name Start a = is_lt (bytes_cmp a.entry.name name)
is_before_start name (At low) a = is_lt (entry_cmp a.entry (record { name = name; key = low }))
is_before_start name (Past low) a = is_le (entry_cmp a.entry (record { name = name; key = low }))

-- the entry stands before the high end of the range in the index of this name
abbrev pub is_before_end : List ℕ → Hi → Added → Bool
is_before_end name End a = is_le (bytes_cmp a.entry.name name)
is_before_end name (Before high) a = is_lt (entry_cmp a.entry (record { name = name; key = high }))

-- the entry stands at this place
pub record IsPlaceOf (a : Added) (added : List Added) (place : ℕ) : Type 0 where
  pub inside : place < length added
  pub same : with_added a added ≡ added
  pub taken : without_added a added ≡ remove added place

-- the entry isn't there, and would go to this place
pub record IsGapFor (a : Added) (added : List Added) (place : ℕ) : Type 0 where
  pub inside : place ≤ length added
  pub put : with_added a added ≡ insert added place a
  pub same : without_added a added ≡ added

-- the value, where it passes the test
abbrev pub kept : {X : Type 0} → (X → Bool) → Option X → Option X
kept test None = None
kept test (Some x) = if test x then Some x else None
