use Rattle.std.proofs.Common.{◌≡◌, length}
use Rattle.std.specs.Vec.Iter.{into_iter_items, into_iter_len}
use Rattle.oxia_top.proofs.ReportLemmas.{Tells}
use Rattle.oxia_top.proofs.report.tell_events.Given as goal

-- the text so far and that of what is left are the text of all
abbrev pub invariant-loop-event : goal.invariant-loop-event
invariant-loop-event l = record {
  tells : Tells l.fn.world l.fn.events (into_iter_items l.event-iterator) l.number l.initial.text l.text l.behind;
  count : into_iter_len l.event-iterator ≡ length (into_iter_items l.event-iterator);
}
