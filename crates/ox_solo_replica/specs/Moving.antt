-- How far a leader that decides alone commits: up to its last entry.
use Rattle.std.specs.Prelude.{ℕ, ◌-◌, nat_lt, Bool, true, false, List, [], ◌∷◌, drop, Option, Some, None, if◌then◌else◌}
use Rattle.ox_types.specs.declared.log.Entry.{Entry}
use Rattle.ox_types.specs.declared.peer.Peer.TheVariants.{Coordinator}
use Rattle.ox_types.specs.Durable.{DurableState, count_of}
use Rattle.ox_wire.specs.declared.body.Body.TheVariants as body
use Rattle.ox_machine.specs.Meaning.{Meaning}
use Rattle.ox_machine.specs.Store.{state_from}
use Rattle.ox_timer.specs.Timers.{started, retimed}
use Rattle.ox_timer.specs.declared.running.Running.{Running}
use Rattle.ox_solo_replica.specs.declared.leading.Leading.{Leading}
use Rattle.ox_solo_replica.specs.declared.live.Live.{Live}
use Rattle.ox_solo_replica.specs.declared.output.Outgoing.{Outgoing}
use Rattle.ox_solo_replica.specs.declared.output.Answered.{Answered}
use Rattle.ox_solo_replica.specs.Advance.{still_pending, acks_of}

-- the entries that aren't applied where so many are
abbrev pub entries_from : DurableState → ℕ → List Entry
entries_from d commit = drop (commit - d.base.count) d.entries

-- what is known behind an advance, and what it sends and answers
pub record Advanced (S : Type 0) : Type 0 where
  pub live : Live S
  pub sends : List Outgoing
  pub replies : List Answered

-- the coordinator is told where commit reaches begin
abbrev pub ready_to : Bool → ℕ → ℕ → List Outgoing
ready_to true term chief = record { to = Coordinator chief; body = body.Ready term } ∷ []
ready_to false term chief = []

-- nothing moves
abbrev pub unmoved : {S : Type 0} → Live S → Advanced S
unmoved live = record { live = live; sends = []; replies = [] }

module _ {S C R Q A : Type 0} (M : Meaning S C R Q A) where
  -- the timers of the machine: all start where commit reaches begin, and else those that ran go on
  abbrev pub timers_after : Bool → ℕ → S → List Running → List Running
  timers_after true now machine running = started now (M.timers machine)
  timers_after false now machine running = retimed now (M.timers machine) running

  -- what a leader knows where so many entries are committed
  abbrev pub leading_after : ℕ → ℕ → Bool → S → Leading → Leading
  leading_after commit now opens machine l = record l { pending = still_pending commit l.pending; timers = timers_after opens now machine l.timers }

  -- all entries are committed and applied; `opens` where commit was below begin
  abbrev pub moved_to : DurableState → Live S → Leading → Bool → S → Advanced S
  moved_to d live l opens machine = record {
    live = record live {
      commit = count_of d;
      machine = machine;
      leading = Some (leading_after (count_of d) live.now opens machine l);
    };
    sends = ready_to opens d.term l.chief;
    replies = acks_of M d.term l.pending live.machine (entries_from d live.commit);
  }

  abbrev pub moved : DurableState → Live S → Leading → Advanced S
  moved d live l = moved_to d live l (nat_lt live.commit l.begin) (state_from M live.machine (entries_from d live.commit))

  -- where it leads and has entries that aren't committed, they are
  abbrev pub advance_by : DurableState → Live S → Option Leading → Advanced S
  advance_by d live None = unmoved live
  advance_by d live (Some l) = if nat_lt live.commit (count_of d) then moved d live l else unmoved live

  unfoldable pub advance : DurableState → Live S → Advanced S
  advance d live = advance_by d live live.leading
