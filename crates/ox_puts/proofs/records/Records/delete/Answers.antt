use Rattle.std.proofs.Common.{◌∙◌, ap, sym}
use Rattle.std.proofs.lemmas.Result.{IfOk-weaker}
use Rattle.ox_ops.specs.State.{record_of}
use Rattle.ox_puts.specs.Records.{RecordsState}
use Rattle.ox_puts.specs.Changes.{effect}
use Rattle.ox_puts.proofs.Operations.{absent-is, mismatch-is, removed-is}
use Rattle.ox_puts.proofs.records.Records.delete.Goals as goal

pub returns-in-None-clause-made : goal.returns-in-None-clause-made
returns-in-None-clause-made c s of =
    absent-is s _ of c.args.delete.now (c.in-None.ensures.found ∙ ap (λ (t : RecordsState). record_of c.args.delete.now.key t.records) c.self.view_is)
    ∙ ap (effect s c.args.self.now) (sym c.refusal.ensures)

pub returns-then-meets-clause-made : goal.returns-then-meets-clause-made
returns-then-meets-clause-made c =
    IfOk-weaker c.remove.result _ _
    (λ change made s of. removed-is s _ of c.args.delete.now c.in-Some.old.now _ change
    (c.in-Some.ensures.found ∙ ap (λ (t : RecordsState). record_of c.args.delete.now.key t.records) c.self.view_is) (sym c.meets.ensures ∙ c.if-meets.true) made)
    c.remove.ensures.removed

pub returns-else-meets-clause-made : goal.returns-else-meets-clause-made
returns-else-meets-clause-made c s of =
    mismatch-is s _ of c.args.delete.now c.in-Some.old.now (c.in-Some.ensures.found ∙ ap (λ (t : RecordsState). record_of c.args.delete.now.key t.records) c.self.view_is) (sym c.meets.ensures ∙ c.if-meets.false)
    ∙ ap (effect s c.args.self.now) (sym c.refusal-else-meets.ensures)
