use Rattle.std.proofs.Common.{◌≡◌, ◌≤◌, List, ℕ, true, length, subst, sym}
use Rattle.std.specs.Prelude.{IsTrue}
use Rattle.std.proofs.lemmas.Result.{IfOk-weaker}
use Rattle.ox_machine.specs.declared.register.RegisterCommand.{RegisterCommand}
use Rattle.ox_machine.specs.Forms.{command}
use Rattle.ox_machine.specs.Laws.{command_limit}
use Rattle.ox_machine.specs.RegisterLaws.{command_small}
use Rattle.ox_machine.proofs.register.RegisterMachine.decode.Goals as goal

pub returns-clause-size : goal.returns-clause-size
returns-clause-size c =
    IfOk-weaker c.read.result (λ (x : RegisterCommand). IsTrue (command.is_lawful x) × (c.args.bytes.now ≡ command.text x)) (λ (x : RegisterCommand). IsTrue true → length c.args.bytes.now ≤ command_limit)
    (λ x h _. subst (λ (l : List ℕ). length l ≤ command_limit) (sym h.1) (command_small x)) c.read.ensures.found
