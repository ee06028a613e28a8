-- Which inputs a replica is given.
use Rattle.std.specs.Prelude.{◌≤◌}
use Rattle.ox_wire.specs.declared.body.Body.{Body}
use Rattle.ox_wire.specs.declared.body.Body.TheVariants.{NewTerm}
use Rattle.ox_solo_replica.specs.declared.input.Input.{Input}
use Rattle.ox_solo_replica.specs.declared.input.Input.TheVariants.{Peer, Client, Tick}

-- a message that begins a term has a term within the bound
abbrev pub IsMessage : Body → Type 0
IsMessage (NewTerm t) = t ≤ 9007199254740992
IsMessage _ = Unit {0}

abbrev pub IsInput : Input → Type 0
IsInput (Peer from body) = IsMessage body
IsInput (Client tag write body) = Unit {0}
IsInput (Tick ms) = Unit {0}
