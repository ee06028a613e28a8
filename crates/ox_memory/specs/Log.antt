-- The file of a disk in memory, by the calls that changed it.
use Rattle.std.specs.Prelude.{◌≡◌, ◌⊎◌, ℕ, ◌≤◌, ◌+◌, List, [], ◌∷◌, ◌++◌, length, take, drop, replicate, fold}
use Rattle.ox_outside.specs.Disk.{Shown, Torn}
use Rattle.ox_memory.specs.declared.log.Call.{Call}
use Rattle.ox_memory.specs.declared.log.Call.TheVariants.{Write, Sync, Crash}
use Rattle.ox_memory.specs.declared.log.Image.{Image}
use Rattle.ox_memory.specs.declared.log.Image.TheVariants.{NoneKept, AllKept}
use Rattle.ox_memory.specs.declared.log.Image.TheVariants.{Torn as EachTorn}

-- a file with these bytes at this place
abbrev pub put : List ℕ → ℕ → List ℕ → List ℕ
put file at bytes = take at file ++ bytes ++ drop (at + length bytes) file

-- a file with the bytes of a write
abbrev pub wrote : List ℕ → Call → List ℕ
wrote file (Write at bytes) = put file at bytes
wrote file Sync = file
wrote file (Crash image) = file

-- a file with a 1 in place of each byte of a write
abbrev pub tore : List ℕ → Call → List ℕ
tore file (Write at bytes) = put file at (replicate (length bytes) 1)
tore file Sync = file
tore file (Crash image) = file

-- the file that is safe, and the writes since
pub record Pending : Type 0 where
  pub safe : List ℕ
  pub writes : List Call

-- what a read gives
abbrev pub seen_of : Pending → List ℕ
seen_of file = fold wrote file.safe file.writes

-- what a crash of this kind leaves
abbrev pub image_of : Image → Pending → List ℕ
image_of NoneKept file = file.safe
image_of AllKept file = seen_of file
image_of EachTorn file = fold tore file.safe file.writes

abbrev pub after_call : Pending → Call → Pending
after_call file (Write at bytes) = record { safe = file.safe; writes = file.writes ++ Write at bytes ∷ [] }
after_call file Sync = record { safe = seen_of file; writes = [] }
after_call file (Crash image) = record { safe = image_of image file; writes = [] }

-- what these calls make of an empty file
abbrev pub after : List Call → Pending
after log = fold after_call (record { safe = []; writes = [] }) log

-- each write begins within the file or at its end
abbrev pub Fits : List ℕ → List Call → Type 0
Fits file [] = Unit {0}
Fits file (Write at bytes ∷ writes) = (at ≤ length file) × Fits (put file at bytes) writes
Fits file (Sync ∷ writes) = Fits file writes
Fits file (Crash image ∷ writes) = Fits file writes

-- the file, and after it each of these writes cut short
abbrev pub CutShort : List ℕ → List Call → List ℕ → Type 0
CutShort file [] c = c ≡ file
CutShort file (Write at bytes ∷ writes) c = (d : List ℕ) × Torn at (length bytes) file d × CutShort d writes c
CutShort file (Sync ∷ writes) c = CutShort file writes c
CutShort file (Crash image ∷ writes) c = CutShort file writes c

-- what a read gives, or the safe file with each write since then cut short
abbrev pub Leaves : Pending → List ℕ → Type 0
Leaves file c = (c ≡ seen_of file) ⊎ CutShort file.safe file.writes c

-- The disk tells what a crash might have left by its calls: what one after the first n may leave, for some n from t on.
abbrev pub shown : List Call → ℕ → Shown
shown log calls = record {
  seen = seen_of (after log);
  calls = calls;
  moment = length log;
  left_since = λ t c. (n : ℕ) × (t ≤ n) × (n ≤ length log) × Leaves (after (take n log)) c;
}
