-- Timers by rising id.
use Rattle.std.specs.Prelude.{ℕ, ◌<◌, List, [], ◌∷◌, All}
use Rattle.ox_types.specs.declared.timer.Timer.{Timer}

-- each id is above those before it
abbrev pub IdsRise : List Timer → Type 0
IdsRise [] = Unit {0}
IdsRise (t ∷ timers) = All (λ (u : Timer). t.id < u.id) timers × IdsRise timers
