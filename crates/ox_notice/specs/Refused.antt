-- What a refusal says of the answer of the definitions.
use Rattle.std.specs.Prelude.{◌≡◌}
use Rattle.ox_ops.specs.declared.answer.ShardAnswer.{ShardAnswer}
use Rattle.ox_ops.specs.declared.answer.ShardAnswer.TheVariants as answer
use Rattle.ox_notice.specs.declared.notices.AfterFault.{AfterFault}
use Rattle.ox_notice.specs.declared.notices.AfterFault.TheVariants as fault

-- the answer is this refusal, unless memory ran out
abbrev pub Refuses : AfterFault → ShardAnswer → Type 0
Refuses (fault.NotRetained r) told = told ≡ answer.NotRetained r.asked r.low
Refuses fault.NoMemory told = Unit {0}
