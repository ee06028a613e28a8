use Rattle.std.proofs.Common.{◌≡◌, ◌≤◌, false, drop}
use Rattle.ox_types.specs.Durable.{fold_on}
use Rattle.ox_wal.specs.Blocks.{first_full}
use Rattle.ox_wal.specs.State.{state_of, drafted, IsDraft}
use Rattle.ox_wal.proofs.log.Log.draft.Given as goal

abbrev pub invariant-loop-action : goal.invariant-loop-action
invariant-loop-action l = record {
  is : IsDraft l.self l.draft;
  within : l.draft.used ≤ l.all;
  folds : fold_on false (state_of l.self) l.actions ≡ fold_on false (drafted l.self l.draft) (drop l.action-index l.actions);
  fits : first_full l.all (state_of l.self) l.actions ≡ first_full l.all (drafted l.self l.draft) (drop l.action-index l.actions);
}
