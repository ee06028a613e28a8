-- What holds of the parts of every schedule: requests that have bytes in the grammar of commands and queries, as those have
-- which `check` takes, and, in one of one node, names and numbers that are in their range.
use Rattle.std.specs.Prelude.{ℕ, Bool, true, ◌&&◌, ◌==◌}
use Rattle.ox_ops.specs.Forms.{command, query}
use Rattle.ox_schedule.specs.declared.schedule.Request.{Request}
use Rattle.ox_schedule.specs.declared.schedule.Request.TheVariants.{Write, Read}
use Rattle.ox_schedule.specs.Events.{Turn, Event}
use Rattle.ox_wire.specs.declared.event.Turn.TheVariants.{Client, Deliver, Tick}
use Rattle.ox_wire.specs.declared.event.Event.TheVariants as event
use Rattle.ox_schedule.specs.declared.schedule.First.{First}
use Rattle.ox_schedule.specs.declared.schedule.First.TheVariants.{Solo}
use Rattle.ox_schedule.specs.Spelling.{is_call, is_term}
use Rattle.ox_schedule.specs.Schedule.{is_room}

-- the command or query is lawful in its form
abbrev pub is_encodable : Request → Bool
is_encodable (Write g c) = command.is_lawful c
is_encodable (Read q) = query.is_lawful q

-- the same of the request of what an actor takes, if it has one
abbrev pub turn_encodable : Turn → Bool
turn_encodable (Client node shard r) = is_encodable r
turn_encodable (Deliver message) = true
turn_encodable (Tick node shard ms) = true

-- the same of the request of an event, if it has one
abbrev pub asks_encodable : Event → Bool
asks_encodable (event.Takes t) = turn_encodable t
asks_encodable (event.Cut call i t) = turn_encodable t
asks_encodable (event.Stop node) = true
asks_encodable (event.Start node) = true
asks_encodable (event.Lose node) = true
asks_encodable (event.Fence node shard term) = true
asks_encodable (event.Lead node shard term) = true

-- node 1 and shard 0
abbrev pub is_first_place : ℕ → ℕ → Bool
is_first_place node shard = node == 1 && shard == 0

-- an actor takes it at node 1 and shard 0, where it names them
abbrev pub turn_of_one_node : Turn → Bool
turn_of_one_node (Client node shard r) = is_first_place node shard
turn_of_one_node (Deliver message) = true
turn_of_one_node (Tick node shard ms) = is_first_place node shard

-- the event is at node 1 and shard 0, where it names them; a cut's call is at least 1, and a term is 1 to 2^53
abbrev pub is_of_one_node : Event → Bool
is_of_one_node (event.Takes t) = turn_of_one_node t
is_of_one_node (event.Cut call i t) = is_call call && turn_of_one_node t
is_of_one_node (event.Stop node) = node == 1
is_of_one_node (event.Start node) = node == 1
is_of_one_node (event.Lose node) = node == 1
is_of_one_node (event.Fence node shard term) = is_first_place node shard && is_term term
is_of_one_node (event.Lead node shard term) = is_first_place node shard && is_term term

-- the blocks, where the first line says how many, are 8 to 65,536
abbrev pub blocks_fit : First → Bool
blocks_fit (Solo shards blocks) = is_room blocks
