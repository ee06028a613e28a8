-- The order of added entries: by name, then secondary key, then key.
use Rattle.std.specs.Prelude.{◌≡◌, List, [], ◌∷◌}
use Rattle.std.specs.Ordering.{ordering_then}
use Rattle.std.specs.declared.cmp.Ordering.{Ordering}
use Rattle.std.specs.declared.cmp.Ordering.TheVariants.{Less}
use Rattle.ox_types.specs.Order.{bytes_cmp, key_cmp}
use Rattle.ox_ops.specs.declared.write.IndexEntry.{IndexEntry}
use Rattle.ox_index.specs.declared.added.Added.{Added}

-- names by their bytes, then secondary keys
abbrev pub entry_cmp : IndexEntry → IndexEntry → Ordering
entry_cmp a b = ordering_then (bytes_cmp a.name b.name) (key_cmp a.key b.key)

abbrev pub added_cmp : Added → Added → Ordering
added_cmp a b = ordering_then (entry_cmp a.entry b.entry) (key_cmp a.key b.key)

-- a stands before each of these
abbrev pub StandsBefore : Added → List Added → Type 0
StandsBefore a [] = Unit {0}
StandsBefore a (b ∷ more) = (added_cmp a b ≡ Less) × StandsBefore a more

-- each stands before those after it
abbrev pub IsInOrder : List Added → Type 0
IsInOrder [] = Unit {0}
IsInOrder (a ∷ more) = StandsBefore a more × IsInOrder more
