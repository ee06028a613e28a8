-- What is seen of an event.
use Rattle.std.specs.Prelude.{ℕ, List, [], ◌∷◌}
use Rattle.ox_types.specs.declared.log.Head.{Head}
use Rattle.ox_types.specs.declared.log.Seat.{Seat}
use Rattle.ox_types.specs.declared.durable.KeptAs.{KeptAs}
use Rattle.ox_types.specs.declared.peer.Peer.{Peer}
use Rattle.ox_wire.specs.declared.body.Body.{Body}
use Rattle.ox_wire.specs.declared.message.Outcome.{Outcome}

-- Arrivals and messages are numbered from 1.
pub data Effect : Type 0 where
  Down Unknown Ignored : Effect
  Arrival : (number : ℕ) → Effect
  Opened : (shard : ℕ) → (term : ℕ) → (seat : Seat) → (head : Head) → Effect
  -- a batch that was kept, and the head of the log with it
  Kept : (acts : List KeptAs) → (head : Head) → Effect
  WasCut Whole : Effect
  Sent : (number : ℕ) → (from : Peer) → (to : Peer) → (shard : ℕ) → (body : Body) → Effect
  Answered : (arrival : ℕ) → (outcome : Outcome) → Effect

-- the effect of a batch, where it isn't empty
abbrev pub kept_effects : List KeptAs → Head → List Effect
kept_effects [] head = []
kept_effects (a ∷ acts) head = Effect.Kept (a ∷ acts) head ∷ []
