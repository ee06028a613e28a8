use Rattle.std.proofs.Common.{◌∙◌, ap}
use Rattle.std.specs.Option.{option_map}
use Rattle.ox_ops.specs.declared.answer.Record.{Record}
use Rattle.ox_puts.proofs.Keyed.{second, equal-keyed, floor-keyed, ceiling-keyed, lower-keyed, higher-keyed}
use Rattle.ox_puts.proofs.record_table.RecordTable.find.Goals as goal

pub returns-in-Equal-clause-found : goal.returns-in-Equal-clause-found
returns-in-Equal-clause-found c = rw (← c.self.view_is, c.in-Equal.is) (c.get.ensures.value ∙ equal-keyed _ _ _ c.self.invariant)

pub returns-in-Floor-clause-found : goal.returns-in-Floor-clause-found
returns-in-Floor-clause-found c =
    rw (← c.self.view_is, c.in-Floor.is) (c.record_of_pair.ensures ∙ ap second c.floor.ensures.pair ∙ floor-keyed _ _ _ c.self.invariant)

pub returns-in-Ceiling-clause-found : goal.returns-in-Ceiling-clause-found
returns-in-Ceiling-clause-found c =
    rw (← c.self.view_is, c.in-Ceiling.is) (c.record_of_pair-in-Ceiling.ensures ∙ ap second c.ceiling.ensures.pair ∙ ceiling-keyed _ _ _ c.self.invariant)

pub returns-in-Lower-clause-found : goal.returns-in-Lower-clause-found
returns-in-Lower-clause-found c =
    rw (← c.self.view_is, c.in-Lower.is) (c.record_of_pair-in-Lower.ensures ∙ ap second c.lower.ensures.pair ∙ lower-keyed _ _ _ c.self.invariant)

pub returns-in-Higher-clause-found : goal.returns-in-Higher-clause-found
returns-in-Higher-clause-found c =
    rw (← c.self.view_is, c.in-Higher.is) (c.record_of_pair-in-Higher.ensures ∙ ap second c.higher.ensures.pair ∙ higher-keyed _ _ _ c.self.invariant)
