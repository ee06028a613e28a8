-- The events of a schedule: what a client asks is held as its words say it.
use Rattle.ox_wire.specs.declared.event.Turn.{Turn as TurnOf}
use Rattle.ox_wire.specs.declared.event.Event.{Event as EventOf}
use Rattle.ox_schedule.specs.declared.schedule.Request.{Request}

abbrev pub Turn : Type 0
Turn = TurnOf Request

abbrev pub Event : Type 0
Event = EventOf Request
