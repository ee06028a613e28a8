use Rattle.std.proofs.Common.{◌≡◌, map}
use Rattle.std.specs.List.{list_all}
use Rattle.std.specs.Option.{option_map}
use Rattle.ox_schedule.specs.Shape.{ops_in, ops_left, op_fits}
use Rattle.ox_schedule.proofs.OpsLemmas.{words_left}
use Rattle.ox_schedule.proofs.shape.are_ops.Given as goal

abbrev pub invariant-ops : goal.invariant-ops
invariant-ops l = list_all op_fits (ops_in (map (λ w. w.now) l.fn.words)) ≡ list_all op_fits (ops_left (option_map (λ ws. map (λ w. w.now) ws.now) l.left))

abbrev pub decreases-ops : goal.decreases-ops
decreases-ops l = words_left l.left
