-- Which batches a log takes.
use Rattle.std.specs.Prelude.{◌≡◌, ◌≤◌, ℕ, true, false, List, [], ◌∷◌, length, Some, None}
use Rattle.ox_types.specs.declared.log.Entry.{Entry}
use Rattle.ox_types.specs.declared.log.EntryBody.{EntryBody}
use Rattle.ox_types.specs.declared.log.EntryBody.TheVariants as body
use Rattle.ox_types.specs.declared.durable.Action.{Action}
use Rattle.ox_types.specs.declared.durable.Action.TheVariants as action
use Rattle.ox_types.specs.Durable.{DurableState, fold_on}
use Rattle.ox_bytes.specs.Form.{IsBytes}
use Rattle.ox_machine.specs.Laws.{command_limit}
use Rattle.ox_wal.specs.ActionForms.{actions as actions_form}
use Rattle.ox_wal.specs.Blocks.{first_full}
use Rattle.ox_solo_replica.specs.State.{folded_all}

-- a command is bytes, and not many
abbrev pub IsShort : EntryBody → Type 0
IsShort body.Pass = Unit {0}
IsShort (body.Command bytes) = (length bytes ≤ command_limit) × IsBytes bytes

abbrev pub AreShort : List Entry → Type 0
AreShort [] = Unit {0}
AreShort (e ∷ entries) = IsShort e.body × AreShort entries

abbrev pub IsSmallAction : Action → Type 0
IsSmallAction (action.Append entries) = AreShort entries
IsSmallAction _ = Unit {0}

-- no command of a batch is long
abbrev pub IsSmall : List Action → Type 0
IsSmall [] = Unit {0}
IsSmall (a ∷ actions) = IsSmallAction a × IsSmall actions

-- a log in this state, with so many blocks in all, takes the batch
pub record IsKeepable (all : ℕ) (d : DurableState) (batch : List Action) : Type 0 where
  pub spelled : actions_form.is_lawful batch ≡ true
  pub size : length (actions_form.text batch) ≤ 4194304
  pub folds : fold_on false d batch ≡ Some (folded_all d batch)
  pub room : first_full all d batch ≡ None
