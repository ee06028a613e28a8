-- The world of a run of one node with one shard, and its opening.
use Rattle.std.specs.Prelude.{ℕ, List, [], ◌∷◌, Some, None}
use Rattle.ox_types.specs.declared.log.Entry.{Entry}
use Rattle.ox_types.specs.declared.log.EntryBody.TheVariants.{Pass}
use Rattle.ox_types.specs.declared.log.Seat.TheVariants.{Led}
use Rattle.ox_types.specs.declared.peer.Peer.{Peer}
use Rattle.ox_types.specs.Durable.{DurableState}
use Rattle.ox_quorum.specs.declared.config.Config.TheVariants.{One}
use Rattle.ox_wire.specs.declared.body.Body.{Body}
use Rattle.ox_machine.specs.Meaning.{Meaning}
use Rattle.ox_timer.specs.Timers.{started}
use Rattle.ox_solo_replica.specs.declared.leading.Leading.{Leading}
use Rattle.ox_solo_replica.specs.State.{ReplicaState}
use Rattle.ox_solo_replica.specs.Recovered.{recovered}
use Rattle.ox_solo_safety.specs.declared.power.Power.{Power}
use Rattle.ox_solo_safety.specs.declared.power.Power.TheVariants.{Up}
use Rattle.ox_wire.specs.declared.origin.Cause.TheVariants.{Opening}
use Rattle.ox_wire.specs.declared.origin.Origin.{Origin}

pub record Message : Type 0 where
  pub from : Peer
  pub to : Peer
  pub shard : ℕ
  pub body : Body

-- The node is up, down, or lost for good; where it isn't up, its replica is what a start would make of its disks. All messages
-- that were ever sent, how many requests have come, the origin of each entry that a leader kept, and the history of the shard.
pub record World (S : Type 0) : Type 0 where
  pub power : Power
  pub replica : ReplicaState S
  pub messages : List Message
  pub arrivals : ℕ
  pub origins : List Origin
  pub history : List Entry

-- the first entry of the opening
abbrev pub opening_pass : Entry
opening_pass = record { term = 1; offset = 0; time = 0; body = Pass }

abbrev pub opening_disk : DurableState
opening_disk = record { term = 1; seat = Led; base = record { term = 0; count = 0 }; saved = None; entries = opening_pass ∷ [] }

module _ {S C R Q A : Type 0} (M : Meaning S C R Q A) where
  -- a replica as a start makes it
  abbrev pub reopened : DurableState → ReplicaState S
  reopened d = record { disk = d; live = recovered M d }

  abbrev pub opening_leading : Leading
  opening_leading = record { me = 1; chief = 0; config = One (1 ∷ []); begin = 1; cursors = []; pending = []; timers = started 0 (M.timers M.opening) }

  -- node 1 leads the shard in term 1, and its Pass is committed
  abbrev pub opening_replica : ReplicaState S
  opening_replica = record {
    disk = opening_disk;
    live = record { commit = 1; machine = M.opening; now = 0; hint = None; leading = Some opening_leading };
  }

  abbrev pub opening_world : World S
  opening_world = record {
    power = Up;
    replica = opening_replica;
    messages = [];
    arrivals = 0;
    origins = record { shard = 0; term = 1; offset = 0; cause = Opening } ∷ [];
    history = opening_pass ∷ [];
  }
