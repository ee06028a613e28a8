use Rattle.std.proofs.Common.{◌≡◌, ◌≤◌, List, ℕ, length, subst, sym}
use Rattle.std.proofs.lemmas.Result.{IfOk-weaker}
use Rattle.ox_ops.specs.Forms.{command}
use Rattle.ox_machine.specs.Laws.{command_limit}
use Rattle.ox_meaning.specs.ReadLaws.{small}
use Rattle.ox_shard.proofs.replicated.ShardMachineMachine.encode.Goals as goal

pub returns-clause-size : goal.returns-clause-size
returns-clause-size c read =
    IfOk-weaker c.encode_command.result (λ (t : List ℕ). t ≡ command.text c.args.command.now) (λ (t : List ℕ). length t ≤ command_limit)
    (λ t h. subst (λ (l : List ℕ). length l ≤ command_limit) (sym h) (small c.args.command.now read)) c.encode_command.ensures
