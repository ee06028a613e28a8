-- What crashes leave of two disks in a run of several calls.
use Rattle.std.specs.Prelude.{◌≡◌, ◌⊎◌, ℕ, ◌==◌, if◌then◌else◌, List, [], ◌∷◌, Option, Some, None}
use Rattle.ox_outside.specs.Disk.{Shown}
use Rattle.ox_journal.specs.Head.{head_of}
use Rattle.ox_journal.specs.Pair.{LeavesPairs, Holds}
use Rattle.ox_journal.specs.declared.head.Head.TheVariants.{Dead}

-- one of these has P
abbrev pub OneOf : {S : Type 0} → (S → Type 0) → List S → Type 0
OneOf P [] = ⊥
OneOf P (x ∷ xs) = P x ⊎ OneOf P xs

-- the two disks of a journal, the first half's first
abbrev pub in_order : {D : Type 0} → ℕ → D → D → D × D
in_order half live spare = if half == 0 then (live, spare) else (spare, live)

-- what two files hold: no journal, or these payloads
abbrev pub FilesHold : Option (List (List ℕ)) → List ℕ → List ℕ → Type 0
FilesHold None first second = (head_of first ≡ Dead) × (head_of second ≡ Dead)
FilesHold (Some payloads) first second = Holds first second payloads

module _ {D S : Type 0} (shows : D → Shown) (stands : S → List ℕ → List ℕ → Type 0) where
  -- a read now, and a crash since the old pair of disks, give two files that stand for one of these states
  abbrev pub LeavesOneOf : List S → D × D → D × D → Type 0
  LeavesOneOf states old new = LeavesPairs (shows old.0) (shows old.1) (shows new.0) (shows new.1) (λ c d. OneOf (λ s. stands s c d) states)

  -- The disks share no clock, so what a crash leaves of both is said step by step: there are pairs of disks between the first
  -- and the last, and a crash within a step leaves two files that stand for one of its states.
  abbrev pub LeavesInTurn : List (List S) → D × D → D × D → Type 0
  LeavesInTurn [] old new = new ≡ old
  LeavesInTurn (states ∷ steps) old new = (mid : D × D) × LeavesOneOf states old mid × LeavesInTurn steps mid new
