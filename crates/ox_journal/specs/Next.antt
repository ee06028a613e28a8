-- What stands at a gate.
use Rattle.std.specs.Prelude.{◌≡◌, ℕ, ◌+◌, ◌<◌, ◌==◌, nat_lt, List, [], ◌∷◌, ◌++◌, take, drop, length, if◌then◌else◌}
use Rattle.std.specs.Int.{from_be_bytes, w32}
use Rattle.ox_journal.specs.Half.{record_text}
use Rattle.ox_journal.specs.declared.reading.Next.{Next}
use Rattle.ox_journal.specs.declared.reading.Next.TheVariants.{Ends, Cut, Record}

-- the length that a record begins with
unfoldable pub number_of : List ℕ → ℕ
number_of text = from_be_bytes w32 (take 4 text)

-- the end, a record of this length, or a file that ends before the gate, the record or its following gate does
abbrev pub next_of : List ℕ → Next
next_of [] = Cut
next_of (gate ∷ text) = if gate == 1 then (if nat_lt (number_of text + 4) (length text) then Record (number_of text) else Cut) else Ends

-- at this place of a file stand an open gate, the record with this payload, and something behind it
pub record StandsAt (file : List ℕ) (at : ℕ) (payload : List ℕ) : Type 0 where
  pub rest : List ℕ
  pub text : drop at file ≡ 1 ∷ record_text payload ++ rest
  pub more : 0 < length rest
