-- What the program tells of events, one by one.
use Rattle.std.specs.Prelude.{◌≡◌, ℕ, List, ◌++◌, map}
use Rattle.ox_meaning.specs.Shard.{shard_meaning}
use Rattle.ox_schedule.specs.Events.{Event}
use Rattle.ox_solo_safety.specs.Run.{happens, run_from, world_after}
use Rattle.oxia_top.specs.Events.{event_of}
use Rattle.oxia_top.specs.Report.{moment_text, moments_text}
use Rattle.oxia_top.specs.Running.{Running}

-- the program's world is the one behind the event, and the text goes on by its lines
pub record IsToldOf (old : Running) (number : ℕ) (e : Event) (text text' : List ℕ) (new : Running) : Type 0 where
  pub is : new ≡ record { blocks = old.blocks; world = (happens shard_meaning old.blocks old.world (event_of e)).world }
  pub told : text' ≡ text ++ moment_text number e (happens shard_meaning old.blocks old.world (event_of e)).effects

-- it is the one behind all of them, which are numbered from 1
pub record AreToldOf (old : Running) (es : List Event) (text text' : List ℕ) (new : Running) : Type 0 where
  pub is : new ≡ record { blocks = old.blocks; world = world_after shard_meaning old.blocks old.world (map event_of es) }
  pub told : text' ≡ text ++ moments_text 1 es (run_from shard_meaning old.blocks old.world (map event_of es))
