use Rattle.std.proofs.Common.{◌≡◌, ◌≤◌, List, ℕ, length, subst, sym}
use Rattle.std.proofs.lemmas.Result.{IfOk-weaker}
use Rattle.ox_machine.specs.Forms.{command}
use Rattle.ox_machine.specs.Laws.{command_limit}
use Rattle.ox_machine.specs.RegisterLaws.{command_small}
use Rattle.ox_machine.proofs.register.RegisterMachine.encode.Goals as goal

pub returns-clause-size : goal.returns-clause-size
returns-clause-size c read =
    IfOk-weaker c.encode.result (λ (t : List ℕ). t ≡ command.text c.args.command.now) (λ (t : List ℕ). length t ≤ command_limit)
    (λ t h. subst (λ (l : List ℕ). length l ≤ command_limit) (sym h) (command_small c.args.command.now)) c.encode.ensures
