-- The state of a replica, and what a row of its table says.
use Rattle.std.specs.Prelude.{ℕ, ◌-◌, ◌/◌, Bool, false, List, [], ◌∷◌, min, Option}
use Rattle.ox_types.specs.declared.durable.Action.{Action}
use Rattle.ox_types.specs.declared.durable.LogView.{LogView}
use Rattle.ox_types.specs.Durable.{DurableState, folded, count_of}
use Rattle.ox_wal.specs.Blocks.{blocks_used}
use Rattle.ox_journal.specs.declared.state.State.{State}
use Rattle.ox_solo_replica.specs.declared.live.Live.{Live}
use Rattle.ox_solo_replica.specs.declared.output.HandleFault.{HandleFault}
use Rattle.ox_solo_replica.specs.declared.output.Outgoing.{Outgoing}
use Rattle.ox_solo_replica.specs.declared.output.Answered.{Answered}

-- a replica: its durable state, and what it knows beside it
pub record ReplicaState (S : Type 0) : Type 0 where
  pub disk : DurableState
  pub live : Live S

-- What a replica of the program holds: two disks, of which one is the journal, with its number, where its next record stands, and
-- its state; how many blocks there are; and why it is closed, if it is.
pub record Held (M D : Type 0) : Type 0 where
  pub me : ℕ
  pub journal : D
  pub spare : D
  pub half : ℕ
  pub round : ℕ
  pub end : ℕ
  pub writing : State
  pub blocks : ℕ
  pub disk : DurableState
  pub live : Live M
  pub fault : Option HandleFault

-- the state of a replica of the program
abbrev pub replica_of : {M D : Type 0} → Held M D → ReplicaState M
replica_of r = record { disk = r.disk; live = r.live }

-- What a row says: the batch that is kept, what changes beside it, whether the leader then advances, and what is sent and
-- answered before that.
pub record Row (S : Type 0) : Type 0 where
  pub kept : List Action
  pub live : Live S
  pub advances : Bool
  pub sends : List Outgoing
  pub replies : List Answered

-- nothing but this changes, and nothing is said
abbrev pub quiet : {S : Type 0} → Live S → Row S
quiet live = record { kept = []; live = live; advances = false; sends = []; replies = [] }

-- the state behind a batch
abbrev pub folded_all : DurableState → List Action → DurableState
folded_all d [] = d
folded_all d (a ∷ actions) = folded_all (folded d a) actions

-- what the rows look at, of a replica with so many blocks in all
abbrev pub view_at : ℕ → DurableState → ℕ → LogView
view_at all d commit = record {
  term = d.term;
  seat = d.seat;
  base = d.base;
  count = count_of d;
  commit = commit;
  free = all - blocks_used d.entries;
  all = all;
}

abbrev pub view_of : {S : Type 0} → ℕ → ReplicaState S → LogView
view_of all r = view_at all r.disk r.live.commit

-- the blocks that no client's entry may take: the lesser of 64 and a fourth
abbrev pub reserve_of : ℕ → ℕ
reserve_of all = min 64 (all / 4)

-- the most that the clock says, and that a log's count is
abbrev pub clock_limit : ℕ
clock_limit = 9007199254740992
