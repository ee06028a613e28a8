use Rattle.std.proofs.Common.{◌≡◌, ◌≤◌, List, ℕ, length, subst, sym}
use Rattle.std.specs.Prelude.{IsTrue}
use Rattle.std.proofs.lemmas.Result.{IfOk-weaker}
use Rattle.ox_ops.specs.declared.write.ShardCommand.{ShardCommand}
use Rattle.ox_ops.specs.Forms.{command}
use Rattle.ox_machine.specs.Meaning.{reads}
use Rattle.ox_machine.specs.Laws.{command_limit}
use Rattle.ox_meaning.specs.ReadLaws.{small}
use Rattle.ox_meaning.specs.Shard.{shard_meaning}
use Rattle.ox_shard.proofs.replicated.ShardMachineMachine.decode.Goals as goal

pub returns-clause-size : goal.returns-clause-size
returns-clause-size c =
    IfOk-weaker c.decode_command.result (λ (x : ShardCommand). IsTrue (command.is_lawful x) × (c.args.bytes.now ≡ command.text x)) (λ (x : ShardCommand). IsTrue (reads shard_meaning x) → length c.args.bytes.now ≤ command_limit)
    (λ x h read. subst (λ (l : List ℕ). length l ≤ command_limit) (sym h.1) (small x read)) c.decode_command.ensures.found
