-- The state that two files stand for.
use Rattle.std.specs.Prelude.{◌≡◌, ◌⊎◌, ℕ, ◌<◌, ◌^◌, Bool, true, false, All, length, drop, ◌==◌, if◌then◌else◌, List, [], ◌∷◌, ◌++◌, Option, Some, None, option_and_then}
use Rattle.std.specs.Result.{result_ok}
use mathlib.Core.Logic.{◌≢◌}
use Rattle.ox_types.specs.declared.durable.Action.{Action}
use Rattle.ox_types.specs.Durable.{DurableState, blank, fold_actions}
use Rattle.ox_outside.specs.Disk.{Shown, MayLeave, IsSynced}
use Rattle.ox_bytes.specs.Fields.{whole_of}
use Rattle.ox_wal.specs.ActionForms.{actions}
use Rattle.ox_journal.specs.Chain.{OneOf}
use Rattle.ox_journal.specs.Head.{head_of, choice}
use Rattle.ox_journal.specs.Half.{front}
use Rattle.ox_journal.specs.Next.{next_of, StandsAt}
use Rattle.ox_journal.specs.Opening.{chosen}
use Rattle.ox_journal.specs.Pair.{Holds, IsOpen, IsReading}
use Rattle.ox_journal.specs.declared.reading.Next.TheVariants.{Cut}
use Rattle.ox_journal.specs.declared.head.Head.TheVariants.{Dead}
use Rattle.ox_journal.specs.declared.head.Choice.TheVariants.{Damaged, Live, Neither}

-- the actions of a payload, where it is a list of actions
abbrev pub actions_of : List ℕ → Option (List Action)
actions_of payload = result_ok (whole_of actions payload)

-- some actions, and those behind them
abbrev pub joined : Option (List Action) → Option (List Action) → Option (List Action)
joined None others = None
joined (Some first) None = None
joined (Some first) (Some others) = Some (first ++ others)

-- the actions of all payloads
abbrev pub actions_in : List (List ℕ) → Option (List Action)
actions_in [] = Some []
actions_in (payload ∷ payloads) = joined (actions_of payload) (actions_in payloads)

-- whether no action stands before those behind these
abbrev pub still_first : Bool → List Action → Bool
still_first first [] = first
still_first first (a ∷ others) = false

-- the state that payloads stand for, where they stand for one
abbrev pub state_in : List (List ℕ) → Option DurableState
state_in payloads = option_and_then fold_actions (actions_in payloads)

-- two files that hold payloads which stand for this state
pub record HoldsState (first second : List ℕ) (d : DurableState) : Type 0 where
  pub payloads : List (List ℕ)
  pub holds : Holds first second payloads
  pub folds : state_in payloads ≡ Some d

-- two files that stand for this state: an unformatted pair is blank
abbrev pub Stands : List ℕ → List ℕ → DurableState → Type 0
Stands first second d = HoldsState first second d ⊎ ((head_of first ≡ Dead) × (head_of second ≡ Dead) × (d ≡ blank))

-- the state before a batch, or the one behind it
abbrev pub BeforeOrBehind : DurableState → DurableState → List ℕ → List ℕ → Type 0
BeforeOrBehind before behind first second = HoldsState first second before ⊎ HoldsState first second behind

-- two disks with a journal that stands for this state, and may be written to
pub record Keeps (live spare : Shown) (round end : ℕ) (d : DurableState) : Type 0 where
  pub payloads : List (List ℕ)
  pub is_open : IsOpen live spare round end payloads
  pub folds : state_in payloads ≡ Some d

-- two disks of which these payloads are read, which stand for this state; `first` where they have no action
pub record Reads (live spare : Shown) (round end : ℕ) (d : DurableState) (first : Bool) (done : List (List ℕ)) : Type 0 where
  pub reading : IsReading live spare round end done
  pub actions : List Action
  pub are : actions_in done ≡ Some actions
  pub folds : fold_actions actions ≡ Some d
  pub first_is : first ≡ still_first true actions

-- At this place of a live half of this round, behind payloads that stand for a state, each with the gate behind it, the file
-- ends before a record or its following gate does, or a record with its following gate stands whose payload isn't a list of
-- actions or doesn't fold. There is one such place at most.
pub record Breaks (file : List ℕ) (round at : ℕ) : Type 0 where
  pub done : List (List ℕ)
  pub rest : List ℕ
  pub text : file ≡ front round done ++ rest
  pub place : at ≡ length (front round done)
  pub sizes : All (λ p. length p < 2 ^ 32) done
  pub gate : (done ≡ []) ⊎ (0 < length rest)
  pub state : DurableState
  pub folds : state_in done ≡ Some state
  pub fault : (next_of (drop at file) ≡ Cut)
      ⊎ ((payload : List ℕ) × StandsAt file at payload × (length payload < 2 ^ 32) × (state_in (done ++ payload ∷ []) ≡ None))

-- Two disks that stand for this state, now and whatever a crash leaves of them. Of an unformatted pair the second, which
-- is never written before the first is formatted, is synced.
pub record StandFor (first second : Shown) (d : DurableState) : Type 0 where
  pub seen : Stands first.seen second.seen d
  pub left : (c e : List ℕ) → MayLeave first c → MayLeave second e → Stands c e d
  pub synced : head_of first.seen ≡ Dead → head_of second.seen ≡ Dead → IsSynced second

-- a pair of which a half is live, or damaged
abbrev pub IsFormatted : Shown → Shown → Type 0
IsFormatted first second = chosen first second ≢ Neither

-- two files stand for this state
abbrev pub StandsAs : DurableState → List ℕ → List ℕ → Type 0
StandsAs d first second = Stands first second d

-- Two disks that stand for one of these states, now and whatever a crash leaves of them.
pub record StandAmong (first second : Shown) (states : List DurableState) : Type 0 where
  pub seen : OneOf (Stands first.seen second.seen) states
  pub left : (c e : List ℕ) → MayLeave first c → MayLeave second e → OneOf (Stands c e) states

-- of two files the one with this number
abbrev pub half_of : ℕ → List ℕ → List ℕ → List ℕ
half_of half first second = if half == 0 then first else second

-- At this place of this half the two files aren't a log's.
abbrev pub IsDamaged : List ℕ → List ℕ → ℕ → ℕ → Type 0
IsDamaged first second half at = (choice (head_of first) (head_of second) ≡ Damaged half at)
    ⊎ ((round : ℕ) × (choice (head_of first) (head_of second) ≡ Live half round) × Breaks (half_of half first second) round at)
