-- The events of a run as data: what a client asks is bytes. And events whose requests are held in another way.
use Rattle.std.specs.Prelude.{Bool, true, false}
use Rattle.ox_wire.specs.declared.event.Image.{Image}
use Rattle.ox_wire.specs.declared.event.Image.TheVariants as image
use Rattle.ox_wire.specs.declared.event.Request.{Request}
use Rattle.ox_wire.specs.declared.event.Turn.{Turn}
use Rattle.ox_wire.specs.declared.event.Turn.TheVariants as turn
use Rattle.ox_wire.specs.declared.event.Event.{Event}
use Rattle.ox_wire.specs.declared.event.Event.TheVariants as event

abbrev pub RunTurn : Type 0
RunTurn = Turn Request

abbrev pub RunEvent : Type 0
RunEvent = Event Request

-- is what was written found again?
abbrev pub stands : Image → Bool
stands image.Nothing = false
stands image.Kept = true
stands image.Torn = true

-- what an actor takes, with its request made by f
abbrev pub turn_by : {P Q : Type 0} → (P → Q) → Turn P → Turn Q
turn_by f (turn.Client node shard request) = turn.Client node shard (f request)
turn_by f (turn.Deliver message) = turn.Deliver message
turn_by f (turn.Tick node shard ms) = turn.Tick node shard ms

-- the event with its request made by f
abbrev pub event_by : {P Q : Type 0} → (P → Q) → Event P → Event Q
event_by f (event.Takes t) = event.Takes (turn_by f t)
event_by f (event.Cut call i t) = event.Cut call i (turn_by f t)
event_by f (event.Stop node) = event.Stop node
event_by f (event.Start node) = event.Start node
event_by f (event.Lose node) = event.Lose node
event_by f (event.Fence node shard term) = event.Fence node shard term
event_by f (event.Lead node shard term) = event.Lead node shard term
