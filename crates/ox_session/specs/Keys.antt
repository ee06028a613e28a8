-- The keys of one session.
use Rattle.std.specs.Prelude.{ℕ, Bool, not, List, [], ◌∷◌, ◌++◌, map, filter}
use Rattle.std.specs.List.{list_any}
use Rattle.std.specs.Str.{bytes_eq}
use Rattle.std.specs.Ordering.{is_lt}
use Rattle.ox_types.specs.Order.{key_cmp, IsBefore}
use Rattle.ox_session.specs.declared.roster.Roster.{Roster}

-- the keys of a roster, in the order of keys
abbrev pub keys_in : Roster → List (List ℕ)
keys_in r = map (λ p. p.0) r.keys

-- the keys with this one in its place
abbrev pub with_key : List ℕ → List (List ℕ) → List (List ℕ)
with_key key keys = filter (λ k. is_lt (key_cmp k key)) keys ++ key ∷ filter (λ k. is_lt (key_cmp key k)) keys

-- the keys but this one
abbrev pub without_key : List ℕ → List (List ℕ) → List (List ℕ)
without_key key keys = filter (λ k. not (bytes_eq k key)) keys

-- is the key among these?
abbrev pub has_key : List ℕ → List (List ℕ) → Bool
has_key key keys = list_any (λ k. bytes_eq k key) keys

-- a key stands before these
abbrev pub IsBeforeAll : List ℕ → List (List ℕ) → Type 0
IsBeforeAll key [] = Unit {0}
IsBeforeAll key (k ∷ keys) = IsBefore key k × IsBeforeAll key keys

-- each key stands before those after it
abbrev pub KeysRise : List (List ℕ) → Type 0
KeysRise [] = Unit {0}
KeysRise (k ∷ keys) = IsBeforeAll k keys × KeysRise keys
