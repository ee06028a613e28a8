use Rattle.std.proofs.Common.{◌≡◌, ◌++◌, take, map}
use Rattle.ox_solo_safety.specs.Run.{origin_of}
use Rattle.oxia_top.proofs.telling.note_origins.Given as goal

abbrev pub invariant-loop-entry : goal.invariant-loop-entry
invariant-loop-entry l = l.origins ≡ l.initial.origins ++ map (origin_of l.shard l.cause) (take l.entry-index l.entries)
