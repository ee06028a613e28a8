use Rattle.std.proofs.Common.{◌≡◌, ◌∙◌, ap, sym, slice_get, Some}
use Rattle.std.proofs.lemmas.Option.{slice_get-get_or}
use Rattle.ox_report.proofs.OriginLemmas.{entries_next}
use Rattle.ox_report.proofs.history.add_entries.Goals as goal

pub loop-at-preserved : goal.loop-at-preserved
loop-at-preserved c =
    let here : slice_get c.args.history.now c.loop-at.at ≡ Some c.index-history-at.result = slice_get-get_or c.args.history.now c.loop-at.at c.index-history-at.result c.loop-at-test.true ∙ ap (λ e. Some e) (sym c.index-history-at.is) in
    entries_next c.args.text.now c.loop-at.text c.add_entry.new.text c.args.history.now c.args.origins.now c.loop-at.at c.index-history-at.result c.cause_at.result c.loop-at.invariant here c.in_ok-add_entry.ensures c.cause_at.ensures
