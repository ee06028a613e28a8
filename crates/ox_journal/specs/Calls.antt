-- How many calls of a disk were made.
use Rattle.std.specs.Prelude.{◌≡◌, ℕ, suc, zero, ◌==◌, if◌then◌else◌, List, [], ◌∷◌}
use Rattle.ox_outside.specs.Disk.{Shown, CallsLater}

-- so many calls later; none leaves the count
abbrev pub Calls : ℕ → Shown → Shown → Type 0
Calls zero old new = new.calls ≡ old.calls
Calls (suc n) old new = CallsLater (suc n) old new

-- the calls that close a master gate: a read, and where the half is blank or live a write and a sync
abbrev pub closing_calls : List ℕ → ℕ
closing_calls [] = 3
closing_calls (gate ∷ []) = 3
closing_calls (gate ∷ byte ∷ rest) = if gate == 1 then 3 else 1
