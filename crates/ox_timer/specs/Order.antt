-- Running timers by rising id.
use Rattle.std.specs.Prelude.{ℕ, ◌<◌, List, length}
use Rattle.std.specs.List.{slice_index_or}
use Rattle.ox_timer.specs.declared.running.Running.{Running}

-- each id is above those before it
abbrev pub RunningRise : List Running → Type 0
RunningRise running = (i j : ℕ) (d : Running) → i < j → j < length running → (slice_index_or running i d).id < (slice_index_or running j d).id
