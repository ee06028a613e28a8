-- A half that is filled behind its closed master gate.
use Rattle.std.specs.Prelude.{◌≡◌, ◌⊎◌, ℕ, ◌+◌, ◌%◌, List, [], ◌∷◌, ◌++◌, length, ◌<◌, ◌^◌}
use Rattle.ox_outside.specs.Disk.{Shown, MayLeave}
use Rattle.ox_journal.specs.Half.{mark, be32, record_text, Shut, Staged}
use Rattle.ox_journal.specs.Pair.{Holds}

-- this text stands behind the closed master gate, which stays closed whatever a crash leaves
pub record Fills (disk : Shown) (text : List ℕ) : Type 0 where
  pub staged : Staged [] text disk.seen
  pub left : (c : List ℕ) → MayLeave disk c → Shut [] c

-- the front of this text is written, and the rest is in the buffer
pub record Gathers (disk : Shown) (filled : ℕ) (buffer text : List ℕ) : Type 0 where
  pub written : List ℕ
  pub fills : Fills disk written
  pub filled_is : filled ≡ length written
  pub text_is : written ++ buffer ≡ text

-- records behind open gates, of which the last lacks so many bytes
abbrev pub begun_text : ℕ → List (List ℕ) → List ℕ
begun_text left [] = []
begun_text left (last ∷ []) = 1 ∷ be32 (length last + left) ++ last
begun_text left (payload ∷ next ∷ payloads) = 1 ∷ record_text payload ++ begun_text left (next ∷ payloads)

-- each record's length is a u32
abbrev pub BegunSizes : ℕ → List (List ℕ) → Type 0
BegunSizes left [] = Unit {0}
BegunSizes left (last ∷ []) = length last + left < 2 ^ 32
BegunSizes left (payload ∷ next ∷ payloads) = (length payload < 2 ^ 32) × BegunSizes left (next ∷ payloads)

-- the round that comes next
abbrev pub next_round : ℕ → ℕ
next_round round = (round + 1) % 3

-- what stands behind the master gate of a half of this round with these records, of which the last lacks so many bytes
abbrev pub inner : ℕ → ℕ → List (List ℕ) → List ℕ
inner round left payloads = mark ++ round ∷ begun_text left payloads

-- The half that isn't the journal is filled with these records, of which the last lacks so many bytes.
pub record IsRewriting (spare : Shown) (round filled left : ℕ) (buffer : List ℕ) (new : List (List ℕ)) : Type 0 where
  pub gathers : Gathers spare filled buffer (inner (next_round round) left new)
  pub sizes : BegunSizes left new

-- these payloads, or those in their place
abbrev pub OldOrNew : List (List ℕ) → List (List ℕ) → List ℕ → List ℕ → Type 0
OldOrNew old new first second = Holds first second old ⊎ Holds first second new
