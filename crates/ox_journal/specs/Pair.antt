-- What two files stand for.
use Rattle.std.specs.Prelude.{◌≡◌, ◌⊎◌, ℕ, ◌+◌, ◌%◌, ◌<◌, ◌≤◌, ◌^◌, List, [], All, ◌++◌, length}
use Rattle.ox_outside.specs.Disk.{Shown, MayLeave, IsSynced}
use Rattle.ox_journal.specs.Half.{front, Shut}
use Rattle.ox_journal.specs.Head.{head_of}
use Rattle.ox_journal.specs.declared.head.Head.TheVariants.{Dead, Round}

-- a live half of this round with these records
pub record IsHalf (round : ℕ) (payloads : List (List ℕ)) (file : List ℕ) : Type 0 where
  pub shut : Shut (front round payloads) file
  pub sizes : All (λ p. length p < 2 ^ 32) payloads
  pub in_range : round < 3

-- a half that isn't the journal while the journal's round is this: not live, or one round behind
abbrev pub Older : ℕ → List ℕ → Type 0
Older round file = (head_of file ≡ Dead) ⊎ ((r : ℕ) × (head_of file ≡ Round r) × (round ≡ (r + 1) % 3))

abbrev pub IsJournal : List (List ℕ) → List ℕ → List ℕ → Type 0
IsJournal payloads live spare = (round : ℕ) × IsHalf round payloads live × Older round spare

-- the two files hold these payloads
abbrev pub Holds : List ℕ → List ℕ → List (List ℕ) → Type 0
Holds first second payloads = IsJournal payloads first second ⊎ IsJournal payloads second first

-- A closed half: its master gate is closed whatever a crash leaves, and a read shows it on a file that isn't blank.
pub record IsClosed (disk : Shown) : Type 0 where
  pub shut : Shut [] disk.seen
  pub left : (c : List ℕ) → MayLeave disk c → Shut [] c
  pub long : 2 ≤ length disk.seen

-- the half that isn't the journal while the journal's round is this: safe and older, or closed while it is filled
abbrev pub IsAside : ℕ → Shown → Type 0
IsAside round spare = (IsSynced spare × Older round spare.seen) ⊎ IsClosed spare

-- these records are read, and the next gate is at `end`
pub record IsReading (live spare : Shown) (round end : ℕ) (payloads : List (List ℕ)) : Type 0 where
  pub rest : List ℕ
  pub text : live.seen ≡ front round payloads ++ rest
  pub place : end ≡ length (front round payloads)
  pub sizes : All (λ p. length p < 2 ^ 32) payloads
  pub in_range : round < 3
  pub synced : IsSynced live
  pub aside : IsAside round spare

-- all records are read, and the next stands behind the gate at `end`
pub record IsOpen (live spare : Shown) (round end : ℕ) (payloads : List (List ℕ)) : Type 0 where
  pub half : IsHalf round payloads live.seen
  pub place : end ≡ length (front round payloads)
  pub synced : IsSynced live
  pub aside : IsAside round spare

-- What a read gives now, what a crash now leaves, and what a crash at any moment since the old pair might have left, has P.
pub record LeavesPairs (live spare live_new spare_new : Shown) (P : List ℕ → List ℕ → Type 0) : Type 0 where
  pub seen : P live_new.seen spare_new.seen
  pub now : (c d : List ℕ) → MayLeave live_new c → MayLeave spare_new d → P c d
  pub each : (c d : List ℕ) → live_new.left_since live.moment c → spare_new.left_since spare.moment d → P c d
