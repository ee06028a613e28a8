use Rattle.std.proofs.Common.{◌≡◌, sym, subst}
use Rattle.std.specs.Prelude.{IsTrue}
use Rattle.std.proofs.lemmas.Result.{IfOk-weaker}
use Rattle.ox_ops.specs.declared.answer.ShardAnswer.{ShardAnswer}
use Rattle.ox_ops.specs.Answer.{answer_to}
use Rattle.ox_ops.specs.Forms.{answer}
use Rattle.ox_meaning.specs.AnswerLaws.{answer_lawful}
use Rattle.ox_shard.proofs.replicated.ShardMachineMachine.ask.Goals as goal

pub returns-clause-lawful : goal.returns-clause-lawful
returns-clause-lawful c count most fits lawful =
    IfOk-weaker c.ask.result (λ (a : ShardAnswer). a ≡ answer_to c.args.self.now c.args.query.now) (λ (a : ShardAnswer). IsTrue (answer.is_lawful a))
    (λ a is. subst (λ (b : ShardAnswer). IsTrue (answer.is_lawful b)) (sym is) (answer_lawful count c.args.self.now c.args.query.now most fits lawful)) c.ask.ensures
