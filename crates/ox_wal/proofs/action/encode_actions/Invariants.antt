use Rattle.std.proofs.Common.{◌≡◌, ◌++◌, length, take}
use Rattle.std.specs.List.{flat_map}
use Rattle.ox_bytes.specs.Numbers.{be32}
use Rattle.ox_wal.specs.ActionForms.{action}
use Rattle.ox_wal.proofs.action.encode_actions.Given as goal

abbrev pub invariant-loop-action : goal.invariant-loop-action
invariant-loop-action l = l.writer ≡ be32 (length l.batch) ++ flat_map action.text (take l.action-index l.batch)
