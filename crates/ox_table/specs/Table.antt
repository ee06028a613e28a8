-- A table: pairs of a key and a value, in rising order of keys.
use Rattle.std.specs.Prelude.{ℕ, not, List, [], ◌∷◌, ◌++◌, Option, None, filter, find}
use Rattle.std.specs.List.{last_or}
use Rattle.std.specs.Option.{option_map}
use Rattle.std.specs.Ordering.{is_lt, is_le, is_eq, is_ne, is_ge, is_gt}
use Rattle.ox_types.specs.Order.{key_cmp, IsBefore}
use Rattle.ox_order.specs.Range.{in_range}
use Rattle.ox_order.specs.declared.range.KeyRange.{KeyRange}

abbrev pub Pairs : Type 0 → Type 0
Pairs V = List (List ℕ × V)

-- the key stands before that of each pair
abbrev pub IsBelow : {V : Type 0} → List ℕ → Pairs V → Type 0
IsBelow key [] = Unit {0}
IsBelow key (p ∷ pairs) = IsBefore key p.0 × IsBelow key pairs

-- each key stands before those after it
abbrev pub IsRising : {V : Type 0} → Pairs V → Type 0
IsRising [] = Unit {0}
IsRising (p ∷ pairs) = IsBelow p.0 pairs × IsRising pairs

-- the pairs whose keys stand before the key, that are the key, and that stand after it
abbrev pub below : {V : Type 0} → List ℕ → Pairs V → Pairs V
below key pairs = filter (λ p. is_lt (key_cmp p.0 key)) pairs

abbrev pub having : {V : Type 0} → List ℕ → Pairs V → Pairs V
having key pairs = filter (λ p. is_eq (key_cmp p.0 key)) pairs

abbrev pub above : {V : Type 0} → List ℕ → Pairs V → Pairs V
above key pairs = filter (λ p. is_gt (key_cmp p.0 key)) pairs

-- the value of the key
abbrev pub table_get : {V : Type 0} → Pairs V → List ℕ → Option V
table_get pairs key = option_map (λ p. p.1) (find (λ p. is_eq (key_cmp p.0 key)) pairs)

-- the last pair whose key is the key or stands before it
abbrev pub floor_of : {V : Type 0} → Pairs V → List ℕ → Option (List ℕ × V)
floor_of pairs key = last_or None (filter (λ p. is_le (key_cmp p.0 key)) pairs)

-- the first pair whose key is the key or stands after it
abbrev pub ceiling_of : {V : Type 0} → Pairs V → List ℕ → Option (List ℕ × V)
ceiling_of pairs key = find (λ p. is_ge (key_cmp p.0 key)) pairs

-- the last pair whose key stands before the key
abbrev pub lower_of : {V : Type 0} → Pairs V → List ℕ → Option (List ℕ × V)
lower_of pairs key = last_or None (filter (λ p. is_lt (key_cmp p.0 key)) pairs)

-- the first pair whose key stands after the key
abbrev pub higher_of : {V : Type 0} → Pairs V → List ℕ → Option (List ℕ × V)
higher_of pairs key = find (λ p. is_gt (key_cmp p.0 key)) pairs

-- the pairs with this one, in place of one that has its key
abbrev pub inserted : {V : Type 0} → Pairs V → List ℕ → V → Pairs V
inserted pairs key value = below key pairs ++ (key, value) ∷ above key pairs

-- the pairs that have other keys
abbrev pub removed : {V : Type 0} → Pairs V → List ℕ → Pairs V
removed pairs key = filter (λ p. is_ne (key_cmp p.0 key)) pairs

-- the pairs whose keys are in the range, and the others
abbrev pub within : {V : Type 0} → KeyRange → Pairs V → Pairs V
within range pairs = filter (λ p. in_range range p.0) pairs

abbrev pub without : {V : Type 0} → KeyRange → Pairs V → Pairs V
without range pairs = filter (λ p. not (in_range range p.0)) pairs
