-- One step of a replica: a total function of its state and an input, by cases on the input.
use Rattle.std.specs.Prelude.{ℕ, Bool, true, false, List, ◌++◌, map}
use Rattle.ox_types.specs.declared.durable.Action.{Action}
use Rattle.ox_types.specs.declared.durable.LogView.{LogView}
use Rattle.ox_types.specs.declared.log.TermTable.{TermTable}
use Rattle.ox_types.specs.declared.peer.Peer.{Peer}
use Rattle.ox_types.specs.declared.peer.Peer.TheVariants.{Node, Coordinator}
use Rattle.ox_types.specs.Durable.{DurableState, table_of}
use Rattle.ox_wire.specs.declared.body.Body.{Body}
use Rattle.ox_wire.specs.declared.body.Body.TheVariants.{NewTerm, BecomeLeader}
use Rattle.ox_machine.specs.Meaning.{Meaning}
use Rattle.ox_solo_replica.specs.declared.input.Input.{Input}
use Rattle.ox_solo_replica.specs.declared.input.Input.TheVariants as input
use Rattle.ox_solo_replica.specs.declared.live.Live.{Live}
use Rattle.ox_solo_replica.specs.declared.output.Output.{Output}
use Rattle.ox_solo_replica.specs.declared.output.Outgoing.{Outgoing}
use Rattle.ox_solo_replica.specs.declared.output.Answered.{Answered}
use Rattle.ox_solo_replica.specs.Kept.{kept_as}
use Rattle.ox_solo_replica.specs.State.{ReplicaState, Row, quiet, view_of, folded_all}
use Rattle.ox_solo_replica.specs.Client.{write, read}
use Rattle.ox_solo_replica.specs.Term.{new_term, become_leader}
use Rattle.ox_solo_replica.specs.Tick.{tick}
use Rattle.ox_solo_replica.specs.Moving.{Advanced, unmoved, advance}

-- What a step gives: the batch that is kept, the state behind it, and what is sent and answered.
pub record Stepped (S : Type 0) : Type 0 where
  pub kept : List Action
  pub state : ReplicaState S
  pub sends : List Outgoing
  pub replies : List Answered

-- the step as its caller sees it
abbrev pub output_of : {S : Type 0} → Stepped S → Output
output_of step = record { kept = map kept_as step.kept; sends = step.sends; replies = step.replies }

-- The row of a coordinator's message, at node `me`, and of any message: what meets no row does nothing. The rows of followers,
-- AddFollower and configs of more than this node are not there yet.
abbrev pub from_coordinator : {S : Type 0} → ℕ → LogView → TermTable → Live S → ℕ → Body → Row S
from_coordinator me v table live from (NewTerm t) = new_term v live table from t
from_coordinator me v table live from (BecomeLeader t config followers) = become_leader v live me from t config
from_coordinator me v table live from _ = quiet live

abbrev pub from_peer : {S : Type 0} → ℕ → LogView → TermTable → Live S → Peer → Body → Row S
from_peer me v table live (Node n) body = quiet live
from_peer me v table live (Coordinator c) body = from_coordinator me v table live c body

module _ {S C R Q A : Type 0} (M : Meaning S C R Q A) where
  abbrev pub from_client : LogView → Live S → ℕ → Bool → List ℕ → Row S
  from_client v live tag true bytes = write M v live tag bytes
  from_client v live tag false bytes = read M v live tag bytes

  -- the row of an input
  unfoldable pub row_at : ℕ → LogView → TermTable → Live S → Input → Row S
  row_at me v table live (input.Peer from body) = from_peer me v table live from body
  row_at me v table live (input.Client tag write body) = from_client v live tag write body
  row_at me v table live (input.Tick ms) = tick M v live ms

  -- the row of an input in a state, of a replica with so many blocks
  abbrev pub row_of : ℕ → ℕ → ReplicaState S → Input → Row S
  row_of me all r i = row_at me (view_of all r) (table_of r.disk) r.live i

  abbrev pub advance_if : Bool → DurableState → Live S → Advanced S
  advance_if true d live = advance M d live
  advance_if false d live = unmoved live

  abbrev pub with_advance : DurableState → Row S → Advanced S → Stepped S
  with_advance d row a = record { kept = row.kept; state = record { disk = d; live = a.live }; sends = row.sends ++ a.sends; replies = row.replies ++ a.replies }

  -- the batch is kept, which makes this state, and then the leader advances where the row says so
  abbrev pub finished : DurableState → Row S → Stepped S
  finished d row = with_advance d row (advance_if row.advances d row.live)

  abbrev pub stepped : DurableState → Row S → Stepped S
  stepped d row = finished (folded_all d row.kept) row

  unfoldable pub replica_step : ℕ → ℕ → ReplicaState S → Input → Stepped S
  replica_step me all r i = stepped r.disk (row_of me all r i)
