-- Lists of entries: their terms, their offsets, and which of two has the higher head.
use Rattle.std.specs.Prelude.{◌≡◌, ℕ, suc, ◌<◌, ◌≤◌, List, [], ◌∷◌, length, ◌⊎◌}
use Rattle.ox_types.specs.declared.log.Entry.{Entry}

-- the term of the last entry, 0 where there is none
abbrev pub last_term : List Entry → ℕ
last_term [] = 0
last_term (e ∷ []) = e.term
last_term (e ∷ (f ∷ entries)) = last_term (f ∷ entries)

-- the head of the first list isn't above that of the second: by term, then by count
abbrev pub IsHeadWithin : List Entry → List Entry → Type 0
IsHeadWithin xs ys = (last_term xs < last_term ys) ⊎ ((last_term xs ≡ last_term ys) × (length xs ≤ length ys))

-- the offsets of the entries run from this one by ones
abbrev pub AreNumbered : ℕ → List Entry → Type 0
AreNumbered offset [] = Unit {0}
AreNumbered offset (e ∷ entries) = (e.offset ≡ offset) × AreNumbered (suc offset) entries

-- each entry is of this term
abbrev pub AreOfTerm : ℕ → List Entry → Type 0
AreOfTerm term [] = Unit {0}
AreOfTerm term (e ∷ entries) = (e.term ≡ term) × AreOfTerm term entries
