-- What the added entries say of one index.
use Rattle.std.specs.Prelude.{◌≡◌, ℕ, Bool, false, List, [], ◌∷◌, ◌++◌, map, filter, Option}
use Rattle.std.specs.List.{list_any}
use Rattle.std.specs.Str.{bytes_eq}
use Rattle.std.specs.Ordering.{is_lt, is_eq, is_gt, is_ne}
use Rattle.ox_ops.specs.declared.query.Compare.{Compare}
use Rattle.ox_ops.specs.Answer.{IndexPair, compared}
use Rattle.ox_index.specs.declared.added.Added.{Added}
use Rattle.ox_index.specs.Order.{added_cmp}

-- the secondary key of an added entry and the key of its record
abbrev pub pair_of : Added → IndexPair
pair_of a = record { second = a.entry.key; key = a.key }

-- is it an entry of the index of this name?
abbrev pub has_name : List ℕ → Added → Bool
has_name name a = bytes_eq a.entry.name name

-- the pairs of the index of this name
abbrev pub pairs_under : List ℕ → List Added → List IndexPair
pairs_under name added = map pair_of (filter (has_name name) added)

-- the entries with this one in its place
abbrev pub with_added : Added → List Added → List Added
with_added a added = filter (λ x. is_lt (added_cmp x a)) added ++ a ∷ filter (λ x. is_gt (added_cmp x a)) added

-- the entries but this one
abbrev pub without_added : Added → List Added → List Added
without_added a added = filter (λ x. is_ne (added_cmp x a)) added

-- the entry of the index of this name that a comparison of secondary keys wants
abbrev pub found : List ℕ → Compare → List ℕ → List Added → Option Added
found name compare second added = compared (λ (a : Added). a.entry.key) compare second (filter (has_name name) added)

-- is the entry among these?
abbrev pub has_added : Added → List Added → Bool
has_added a added = list_any (λ x. is_eq (added_cmp x a)) added

-- no entry is there twice
abbrev pub IsDistinct : List Added → Type 0
IsDistinct [] = Unit {0}
IsDistinct (a ∷ added) = (has_added a added ≡ false) × IsDistinct added

-- these entries in their order
abbrev pub in_order_of : List Added → List Added
in_order_of [] = []
in_order_of (a ∷ added) = with_added a (in_order_of added)
