use Rattle.std.proofs.Common.{◌∙◌, ap, sym}
use Rattle.std.proofs.lemmas.Result.{IfOk-weaker}
use Rattle.ox_puts.specs.Changes.{effect}
use Rattle.ox_puts.proofs.Operations.{no_session-is, open_session-is, closed_session-is}
use Rattle.ox_puts.proofs.records.Records.put.Goals as goal

pub returns-in-None-clause-made : goal.returns-in-None-clause-made
returns-in-None-clause-made c =
    IfOk-weaker c.put_in_sequence.result _ _ (λ change made s of at. no_session-is s _ _ _ c.in-None.is ∙ made s of at) c.put_in_sequence.ensures.made

pub returns-then-session_live-clause-made : goal.returns-then-session_live-clause-made
returns-then-session_live-clause-made c =
    IfOk-weaker c.put_in_sequence-then-session_live.result _ _
    (λ change made s of at. open_session-is s _ _ _ _ c.in-Some.is c.if-session_live.true ∙ made s of at)
    c.put_in_sequence-then-session_live.ensures.made

pub returns-else-session_live-clause-made : goal.returns-else-session_live-clause-made
returns-else-session_live-clause-made c s of at =
    closed_session-is s _ _ _ _ of _ c.in-Some.is c.if-session_live.false ∙ ap (effect s c.args.self.now) (sym c.refusal.ensures)
