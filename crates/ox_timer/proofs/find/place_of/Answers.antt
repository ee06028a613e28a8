use Rattle.std.proofs.Common.{rules, false}
use Rattle.std.proofs.lemmas.Fn.{always_returns_same}
use Rattle.ox_timer.proofs.Places.{is_below, parted, none_past, none_other}
use Rattle.ox_timer.proofs.find.place_of.Goals.{else-place-running-via-then-place-running+else-running-place, else-place-running-via-else-place-running}
use Rattle.ox_timer.proofs.find.place_of.Goals as goal

pub returns-else-place-running-clause-none : goal.returns-else-place-running-clause-none
returns-else-place-running-clause-none c =
    let facts = c.partition_point-place.ensures in
    let point = facts.partitioned (is_below c.args.id) (always_returns_same _ _ _ (λ a r q called. search rules)) (parted c.args.id c.args.running.now c.requires) in
    elim c.else-place-running.branch [
      | else-place-running-via-then-place-running+else-running-place w ↦ none_other c.args.id c.partition_point-place.result c.args.running.now _ c.requires point w.if-running-place.false
      | else-place-running-via-else-place-running w ↦ none_past c.args.id c.partition_point-place.result c.args.running.now (record { id = 0; timeout = 0; since = 0; expired = false }) c.requires point facts.bound w.if-place-running.false
    ]
