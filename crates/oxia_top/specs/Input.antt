-- Reading an input to its end, and why it was not.
use Rattle.std.specs.Prelude.{ℕ, ◌+◌, ◌<◌, ◌≤◌, List, length}
use Rattle.ox_outside.specs.Causes.{Rose}
use Rattle.ox_outside.specs.Stream.{Stream, Consumes, IsAtEnd}
use Rattle.oxia_top.specs.declared.input.InputFault.{InputFault}
use Rattle.oxia_top.specs.declared.input.InputFault.TheVariants.{ReadFault, TooLong, NoMemory}

-- the most bytes that a command reads
abbrev pub input_limit : ℕ
input_limit = 67108864

-- the bytes that one read asks for
abbrev pub piece : ℕ
piece = 4096

-- these bytes were read, and they are all that there was
pub record ReadsToEnd (old new : Stream) (bytes : List ℕ) : Type 0 where
  pub taken : Consumes old.told new.told bytes
  pub ended : IsAtEnd new.told
  pub short : length bytes ≤ input_limit

-- more than the limit was read, and at most one read more
pub record ReadsTooMuch (old new : Stream) : Type 0 where
  pub bytes : List ℕ
  pub taken : Consumes old.told new.told bytes
  pub long : input_limit < length bytes
  pub most : length bytes ≤ input_limit + piece

-- what was read is within the limit, and then the source failed
pub record ReadBreaksOff (old new : Stream) : Type 0 where
  pub bytes : List ℕ
  pub taken : Consumes old.told new.told bytes
  pub short : length bytes ≤ input_limit
  pub rose : Rose old.faults new.faults

-- why an input was not read to its end
abbrev pub InputFails : Stream → Stream → InputFault → Type 0
InputFails old new ReadFault = ReadBreaksOff old new
InputFails old new TooLong = ReadsTooMuch old new
InputFails old new NoMemory = Unit {0}
