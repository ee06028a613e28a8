-- What the first bytes of a half say, and which half is the journal.
use Rattle.std.specs.Prelude.{ℕ, ◌<◌, ◌+◌, ◌%◌, ◌==◌, nat_lt, bytes_eq, List, [], ◌∷◌, take, drop, if◌then◌else◌}
use Rattle.ox_journal.specs.Half.{mark}
use Rattle.ox_journal.specs.declared.head.Head.{Head}
use Rattle.ox_journal.specs.declared.head.Head.TheVariants.{Dead, Bad, Round}
use Rattle.ox_journal.specs.declared.head.Choice.{Choice}
use Rattle.ox_journal.specs.declared.head.Choice.TheVariants.{Neither, Damaged, Live}

-- a round is 0, 1 or 2
abbrev pub RoundsInRange : Head → Type 0
RoundsInRange Dead = Unit {0}
RoundsInRange (Bad at) = Unit {0}
RoundsInRange (Round round) = round < 3

-- a half is 0 or 1
abbrev pub ChoiceInRange : Choice → Type 0
ChoiceInRange Neither = Unit {0}
ChoiceInRange (Damaged half at) = half < 2
ChoiceInRange (Live half round) = (half < 2) × (round < 3)

abbrev pub round_of : List ℕ → Head
round_of [] = Bad 9
round_of (round ∷ rest) = if nat_lt round 3 then Round round else Bad 9

abbrev pub marked : List ℕ → Head
marked rest = if bytes_eq (take 8 rest) mark then round_of (drop 8 rest) else Bad 1

-- blank or closed, bad at a place, or live with a round
abbrev pub head_of : List ℕ → Head
head_of [] = Dead
head_of (gate ∷ []) = Dead
head_of (gate ∷ byte ∷ rest) = if gate == 1 then marked (byte ∷ rest) else Dead

-- two live halves: the one whose round comes next after the other's
abbrev pub later_of : ℕ → ℕ → Choice
later_of a b = if a == b then Damaged 1 9 else (if a == (b + 1) % 3 then Live 0 a else Live 1 b)

abbrev pub choice : Head → Head → Choice
choice (Bad at) second = Damaged 0 at
choice Dead (Bad at) = Damaged 1 at
choice (Round a) (Bad at) = Damaged 1 at
choice Dead Dead = Neither
choice (Round a) Dead = Live 0 a
choice Dead (Round b) = Live 1 b
choice (Round a) (Round b) = later_of a b
