use Rattle.std.proofs.Common.{◌≡◌, subst}
use Rattle.std.specs.Prelude.{IfOk}
use Rattle.ox_ops.specs.declared.answer.ShardAnswer.{ShardAnswer}
use Rattle.ox_shard.specs.Parts.{state_of}
use Rattle.ox_shard.proofs.Queries.{got-by-key, listed-by-key, listed-by-index}
use Rattle.ox_shard.proofs.parts.Parts.answer.Goals as goal

pub returns-in_ok-get-in-None : goal.returns-in_ok-get-in-None
returns-in_ok-get-in-None c = got-by-key (state_of c.args.self.now) c.args.query.now _ _ _ _ c.in-Get.is c.in-None.is c.in_ok-get-in-None.ensures

pub returns-in-None-by : goal.returns-in-None-by
returns-in-None-by c = subst (λ (a : ShardAnswer). IfOk c.list.result (λ x. x ≡ a)) (listed-by-key (state_of c.args.self.now) c.args.query.now _ _ c.in-List.is c.in-None-by.is) c.list.ensures

pub returns-in-Some-by : goal.returns-in-Some-by
returns-in-Some-by c = subst (λ (a : ShardAnswer). IfOk c.list_by.result (λ x. x ≡ a)) (listed-by-index (state_of c.args.self.now) c.args.query.now _ _ _ c.in-List.is c.in-Some-by.is) c.list_by.ensures
