-- Words as they stand in schedules and reports.
use Rattle.std.specs.Prelude.{ℕ, Bool, ◌&&◌, ◌||◌, ◌==◌, nat_le, List, [], ◌∷◌, ◌++◌, length, Option, Some, None, codes, decimal, if◌then◌else◌}
use Rattle.std.specs.List.{flat_map}
use Rattle.percent_encoding.specs.Percent.{percent_encode_byte}
use Rattle.ox_order.specs.declared.range.Lo.{Lo}
use Rattle.ox_order.specs.declared.range.Lo.TheVariants.{Start, At, Past}
use Rattle.ox_order.specs.declared.range.Hi.{Hi}
use Rattle.ox_order.specs.declared.range.Hi.TheVariants.{End, Before}
use Rattle.ox_order.specs.declared.range.KeyRange.{KeyRange}

-- letters, digits, and - _ . /
abbrev pub is_plain : ℕ → Bool
is_plain b = (nat_le 97 b && nat_le b 122) || (nat_le 65 b && nat_le b 90) || (nat_le 48 b && nat_le b 57) || b == 45 || b == 95 || b == 46 || b == 47

-- a plain byte as it is, any other as % and two capital hexadecimal digits
abbrev pub escape : ℕ → List ℕ
escape b = if is_plain b then b ∷ [] else percent_encode_byte b

-- the one spelling of bytes
unfoldable pub spelt : List ℕ → List ℕ
spelt bytes = flat_map escape bytes

-- a value, or * for the empty one
abbrev pub value_word : List ℕ → List ℕ
value_word value = if length value == 0 then codes "*" else spelt value

-- the low end of a range: from the beginning, from a key, or past it
abbrev pub lo_word : Lo → List ℕ
lo_word Start = codes "*"
lo_word (At key) = spelt key
lo_word (Past key) = codes ">" ++ spelt key

-- the high end of a range: to the end, or before a key
abbrev pub hi_word : Hi → List ℕ
hi_word End = codes "*"
hi_word (Before key) = spelt key

-- both ends of a range
abbrev pub range_words : KeyRange → List (List ℕ)
range_words r = lo_word r.lo ∷ hi_word r.hi ∷ []

-- a word behind a space
abbrev pub behind_space : List ℕ → List ℕ
behind_space w = 32 ∷ w

-- words, each behind a space
abbrev pub spaced : List (List ℕ) → List ℕ
spaced ws = flat_map behind_space ws

-- a number behind a space
abbrev pub field : ℕ → List ℕ
field n = 32 ∷ decimal n

-- a number behind a space, or this word where there is none
abbrev pub field_or : List ℕ → Option ℕ → List ℕ
field_or word None = 32 ∷ word
field_or word (Some n) = field n
