-- The world of a run as the program keeps it, and one event in it.
use Rattle.std.specs.Prelude.{◌≡◌, ℕ, ◌+◌, ◌≤◌, List, ◌++◌, length, map}
use Rattle.std.specs.List.{flat_map}
use Rattle.ox_types.specs.declared.log.Entry.{Entry}
use Rattle.ox_types.specs.Durable.{DurableState, count_of, head_of}
use Rattle.ox_ops.specs.State.{ShardState}
use Rattle.ox_solo_replica.specs.declared.output.Output.{Output}
use Rattle.ox_wire.specs.declared.origin.Cause.{Cause}
use Rattle.ox_wire.specs.declared.origin.Origin.{Origin}
use Rattle.ox_solo_safety.specs.World.{World}
use Rattle.ox_wire.specs.Effects.{Effect}
use Rattle.ox_wire.specs.Effects.{kept_effects}
use Rattle.ox_solo_safety.specs.Run.{Happened, Knife as Knives, whole_effects, sent_effects, messages_of, answer_effects, origin_of, grown}
use Rattle.ox_solo_safety.specs.Run.{Knife as knives}
use Rattle.ox_report.specs.Effect.{effect_line}
use Rattle.oxia_top.specs.declared.letter.Letter.{Letter}
use Rattle.oxia_top.specs.declared.knife.Knife.{Knife}
use Rattle.oxia_top.specs.declared.knife.Knife.TheVariants as knife
use Rattle.oxia_top.specs.Letters.{messages_in}
use Rattle.oxia_top.specs.Node.{NodeState, between}

-- how many blocks a replica has, and the world of its run
pub record Running : Type 0 where
  pub blocks : ℕ
  pub world : World ShardState

abbrev pub running_of : NodeState → List Letter → ℕ → List Origin → List Entry → Running
running_of n letters arrivals origins history = record {
  blocks = n.blocks;
  world = record {
    power = n.power;
    replica = n.state;
    messages = messages_in letters;
    arrivals = arrivals;
    origins = origins;
    history = history;
  };
}

-- the node of a world, and a world with another one
abbrev pub node_in : Running → NodeState
node_in r = record { blocks = r.blocks; power = r.world.power; state = r.world.replica }

abbrev pub with_node : World ShardState → NodeState → World ShardState
with_node w n = record w { power = n.power; replica = n.state }

-- The program's world is the one behind an event, and the text goes on by what was seen.
pub record Follows (old : Running) (h : Happened ShardState) (text text' : List ℕ) (new : Running) : Type 0 where
  pub is : new ≡ record { blocks = old.blocks; world = h.world }
  pub told : text' ≡ text ++ flat_map effect_line h.effects

-- whether a step may be cut, and where
abbrev pub knife_of : Knife → Knives
knife_of knife.Free = knives.Free
knife_of (knife.At call image) = knives.At call image

-- calls of the disks are counted from 1
abbrev pub IsKnife : Knife → Type 0
IsKnife knife.Free = Unit {0}
IsKnife (knife.At call image) = 1 ≤ call

-- the origins of the entries of a log from an offset on
abbrev pub origins_from : ℕ → Cause → ℕ → DurableState → List Origin
origins_from s x from d = map (origin_of s x) (between d from (count_of d))

-- What a step gave is kept, where the log had so many entries before it.
abbrev pub settled : World ShardState → ℕ → Cause → ℕ → Output → World ShardState
settled w s x from output = record w {
  messages = w.messages ++ messages_of s output.sends;
  origins = w.origins ++ origins_from s x from w.replica.disk;
  history = grown w.history w.replica;
}

-- the origins alone are kept
abbrev pub noted : World ShardState → ℕ → Cause → ℕ → World ShardState
noted w s x from = record w { origins = w.origins ++ origins_from s x from w.replica.disk }

-- what is seen of a whole step in a world behind it
abbrev pub whole_seen : World ShardState → ℕ → Knives → Output → List Effect
whole_seen w s k output =
    kept_effects output.kept (head_of w.replica.disk) ++ whole_effects k ++ sent_effects (length w.messages + 1) s output.sends
    ++ answer_effects output.replies
