use Rattle.std.proofs.Common.{◌≡◌, ◌++◌, map}
use Rattle.std.specs.Map.Iter.{deref_pair}
use Rattle.ox_order.specs.declared.range.Lo.TheVariants.{Start}
use Rattle.ox_order.specs.declared.range.Hi.TheVariants.{End}
use Rattle.ox_table.specs.Table.{within}
use Rattle.ox_session.proofs.roster.Roster.copies.Given as goal

abbrev pub invariant-loop-key : goal.invariant-loop-key
invariant-loop-key l = record {
  rest : map deref_pair l.yielded ++ l.key-iterator ≡ within (record { lo = Start; hi = End }) l.self.keys;
  keys : l.keys ≡ map (λ p. p.0) (map deref_pair l.yielded);
}
