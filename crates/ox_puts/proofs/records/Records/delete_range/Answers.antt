use Rattle.std.proofs.lemmas.Result.{IfOk-weaker}
use Rattle.ox_puts.proofs.Operations.{ranged-is}
use Rattle.ox_puts.proofs.records.Records.delete_range.Goals as goal

pub returns-clause-made : goal.returns-clause-made
returns-clause-made c = IfOk-weaker c.remove_range.result _ _ (λ change made s of. ranged-is s _ of _ _ change made) c.remove_range.ensures.ranged
