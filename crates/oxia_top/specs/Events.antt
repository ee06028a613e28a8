-- The events of a schedule as what happens next in a run: a request is the bytes of its command or of its query.
use Rattle.std.specs.Prelude.{true, false}
use Rattle.ox_ops.specs.Forms.{command, query}
use Rattle.ox_schedule.specs.declared.schedule.Request.{Request}
use Rattle.ox_schedule.specs.declared.schedule.Request.TheVariants.{Write, Read}
use Rattle.ox_schedule.specs.Events.{Turn, Event}
use Rattle.ox_wire.specs.declared.event.Request.{Request as Asked}
use Rattle.ox_wire.specs.Events.{RunTurn, RunEvent, turn_by, event_by}

-- what a node is asked
abbrev pub request_of : Request → Asked
request_of (Write grouping c) = record { write = true; body = command.text c }
request_of (Read q) = record { write = false; body = query.text q }

-- what an actor takes
abbrev pub turn_of : Turn → RunTurn
turn_of t = turn_by request_of t

-- what happens next
abbrev pub event_of : Event → RunEvent
event_of e = event_by request_of e
