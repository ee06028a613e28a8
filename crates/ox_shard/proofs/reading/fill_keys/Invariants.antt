use Rattle.std.proofs.Common.{◌≡◌, ◌++◌, map}
use Rattle.std.specs.Map.Iter.{deref_pair}
use Rattle.ox_ops.specs.declared.answer.Record.{Record}
use Rattle.ox_ops.specs.Page.{key_size}
use Rattle.ox_ops.specs.Filling.{Holds}
use Rattle.ox_puts.specs.Records.{records_in}
use Rattle.ox_shard.proofs.reading.fill_keys.Given as goal

abbrev pub invariant-loop-found : goal.invariant-loop-found
invariant-loop-found l = record {
  rest : map deref_pair l.yielded ++ l.found-iterator ≡ l.fn.pairs;
  page : Holds key_size l.page (map (λ (r : Record). r.key) (records_in (map deref_pair l.yielded)));
}
