-- The text of a line, word by word, as it is written.
use Rattle.std.specs.Prelude.{ℕ, Bool, true, false, List, [], ◌∷◌, ◌++◌, codes, if◌then◌else◌}
use Rattle.std.specs.List.{flat_map}
use Rattle.ox_schedule.specs.Spelling.{joined}

-- are there items?
abbrev pub has_some : {A : Type 0} → List A → Bool
has_some [] = false
has_some (x ∷ xs) = true

-- the word between an operation and the one before it
abbrev pub plus_words : Bool → List (List ℕ)
plus_words follows = if follows then codes "+" ∷ [] else []

-- operations, the first of which may follow another
abbrev pub ops_behind : Bool → List (List (List ℕ)) → List (List ℕ)
ops_behind follows [] = []
ops_behind follows (op ∷ ops) = plus_words follows ++ joined (op ∷ ops)

-- a word behind a comma
abbrev pub behind_comma : List ℕ → List ℕ
behind_comma w = 44 ∷ w
