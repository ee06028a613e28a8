-- What a create or a recovery makes of two disks.
use Rattle.std.specs.Prelude.{◌≡◌, ℕ, []}
use Rattle.ox_outside.specs.Disk.{Shown, IsSynced, Quiet}
use Rattle.ox_journal.specs.Head.{head_of, choice}
use Rattle.ox_journal.specs.Pair.{IsReading}
use Rattle.ox_journal.specs.declared.head.Choice.{Choice}
use Rattle.ox_journal.specs.declared.head.Choice.TheVariants.{Neither, Live}

-- what the heads of two files say
abbrev pub chosen : Shown → Shown → Choice
chosen first second = choice (head_of first.seen) (head_of second.seen)

-- the two disks as they were
pub record BothQuiet (first second first_new second_new : Shown) : Type 0 where
  pub one : Quiet first first_new
  pub two : Quiet second second_new

-- the two disks, taken as the journal's half and the other
pub record Recovered (first second live spare : Shown) (half round end : ℕ) : Type 0 where
  pub heads : chosen first second ≡ Live half round
  pub zero : half ≡ 0 → BothQuiet first second live spare
  pub one : half ≡ 1 → BothQuiet first second spare live
  pub reading : IsReading live spare round end []

-- a pair without a journal
pub record IsUnformatted (first second : Shown) : Type 0 where
  pub one_synced : IsSynced first
  pub two_synced : IsSynced second
  pub heads : chosen first second ≡ Neither
