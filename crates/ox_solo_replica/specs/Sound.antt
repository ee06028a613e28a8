-- What holds of a replica between its steps.
use Rattle.std.specs.Prelude.{◌≡◌, ◌≢◌, ◌≤◌, length, None}
use Rattle.ox_types.specs.Durable.{DurableState, count_of, head_of}
use Rattle.ox_outside.specs.Disk.{Shown}
use Rattle.ox_machine.specs.Meaning.{Meaning}
use Rattle.ox_machine.specs.Store.{RunsFrom}
use Rattle.ox_journal.specs.Pair.{LeavesPairs}
use Rattle.ox_journal.specs.declared.state.State.TheVariants.{Broken}
use Rattle.ox_wal.specs.Files.{BeforeOrBehind, Keeps}
use Rattle.ox_solo_replica.specs.declared.live.Live.{Live}
use Rattle.ox_solo_replica.specs.State.{Held}

-- no snapshot stands before the entries
pub record IsUnsaved (d : DurableState) : Type 0 where
  pub term : d.base.term ≡ 0
  pub count : d.base.count ≡ 0
  pub saved : d.saved ≡ None

-- The disks of a replica stand for its durable state, now and whatever a crash leaves of them.
abbrev pub IsKept : {M D : Type 0} → (D → Shown) → Held M D → Type 0
IsKept shows r = Keeps (shows r.journal) (shows r.spare) r.round r.end r.disk

-- The disks of a replica, then and now: a crash at any moment since leaves them standing for the one state or for the other.
abbrev pub LeavesEither : {M D : Type 0} → (D → Shown) → Held M D → Held M D → DurableState → DurableState → Type 0
LeavesEither shows old new before behind =
    LeavesPairs (shows old.journal) (shows old.spare) (shows new.journal) (shows new.spare) (BeforeOrBehind before behind)

module _ {S C R Q A : Type 0} (M : Meaning S C R Q A) where
  -- A durable state and what is known beside it go together.
  pub record IsSound (d : DurableState) (live : Live S) : Type 0 where
    pub unsaved : IsUnsaved d
    pub small_term : d.term ≤ 9007199254740992
    pub small_count : count_of d ≤ 9007199254740992
    pub small_head : (head_of d).term ≤ d.term
    pub runs : RunsFrom 0 d.entries
    pub now : live.now ≤ 9007199254740992
    pub committed : live.commit ≤ length d.entries
    pub fits : M.fits live.commit live.machine

  -- a replica that isn't closed is sound, and its disks stand for its state
  pub record IsHeld {D : Type 0} (tells : Type 0) (shows : D → Shown) (r : Held S D) : Type 0 where
    pub sound : r.fault ≡ None → IsSound r.disk r.live
    pub kept : tells → r.fault ≡ None → IsKept shows r
    pub up : r.fault ≡ None → r.writing ≢ Broken
