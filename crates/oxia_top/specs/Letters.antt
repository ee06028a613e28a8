-- Messages that were sent, as the program keeps them.
use Rattle.std.specs.Prelude.{◌≡◌, ℕ, ◌-◌, ◌==◌, List, map, slice_get, Option, Some, None, if◌then◌else◌}
use Rattle.ox_types.specs.declared.peer.Peer.TheVariants.{Node, Coordinator}
use Rattle.ox_wire.specs.declared.body.Body.TheVariants as body
use Rattle.ox_solo_safety.specs.World.{Message}
use Rattle.ox_solo_safety.specs.Run.{lead_body}
use Rattle.oxia_top.specs.declared.letter.Letter.{Letter}
use Rattle.oxia_top.specs.declared.letter.Letter.TheVariants as letter
use Rattle.oxia_top.specs.declared.letter.Found.{Found}
use Rattle.oxia_top.specs.declared.letter.Found.TheVariants as found

-- coordinator 0 sends to node 1, and node 1 to a coordinator
abbrev pub message_of : Letter → Message
message_of (letter.NewTerm shard term) = record { from = Coordinator 0; to = Node 1; shard = shard; body = body.NewTerm term }
message_of (letter.BecomeLeader shard term) = record { from = Coordinator 0; to = Node 1; shard = shard; body = lead_body term }
message_of (letter.ToCoordinator to shard b) = record { from = Node 1; to = Coordinator to; shard = shard; body = b }

abbrev pub messages_in : List Letter → List Message
messages_in letters = map message_of letters

-- the message with this number, counted from 1
abbrev pub letter_at : List Letter → ℕ → Option Letter
letter_at letters k = if k == 0 then None else slice_get letters (k - 1)

-- what a delivery finds
abbrev pub found_as : Option Letter → Found
found_as None = found.Nothing
found_as (Some (letter.NewTerm shard term)) = found.NewTerm shard term
found_as (Some (letter.BecomeLeader shard term)) = found.BecomeLeader shard term
found_as (Some (letter.ToCoordinator to shard b)) = found.ToCoordinator

-- what is found is what a delivery of this message, if there is one, needs
abbrev pub Finds : Option Message → Found → Type 0
Finds m found.Nothing = m ≡ None
Finds m found.ToCoordinator = (x : Message) × (c : ℕ) × (m ≡ Some x) × (x.to ≡ Coordinator c)
Finds m (found.NewTerm shard term) = m ≡ Some (message_of (letter.NewTerm shard term))
Finds m (found.BecomeLeader shard term) = m ≡ Some (message_of (letter.BecomeLeader shard term))
