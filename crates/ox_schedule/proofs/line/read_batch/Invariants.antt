use Rattle.std.proofs.Common.{◌≡◌, map}
use Rattle.std.specs.Option.{option_map}
use Rattle.ox_schedule.specs.Shape.{ops_in, ops_left}
use Rattle.ox_schedule.specs.Reading.{ops_onto, empty_batch}
use Rattle.ox_schedule.proofs.OpsLemmas.{words_left}
use Rattle.ox_schedule.proofs.line.read_batch.Given as goal

abbrev pub invariant-ops : goal.invariant-ops
invariant-ops l = ops_onto empty_batch (ops_in (map (λ w. w.now) l.fn.words)) ≡ ops_onto l.batch (ops_left (option_map (λ ws. map (λ w. w.now) ws.now) l.left))

abbrev pub decreases-ops : goal.decreases-ops
decreases-ops l = words_left l.left
