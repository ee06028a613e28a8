use Rattle.std.proofs.Common.{◌∙◌, sym, subst, arith}
use Rattle.ox_types.specs.Key.{IsKey}
use Rattle.ox_puts.proofs.Bytes.{no_fault, Fit-from}
use Rattle.ox_puts.proofs.sequence_key.sequence_key.Goals as goal

pub unreachable-requires : goal.unreachable-requires
unreachable-requires c = cc (sym c.in-Err.ensures ∙ no_fault c.args.prefix.now c.args.numbers.now _ c.loop-number.number-index (subst IsKey c.bytes.ensures.same c.bytes.ensures.lawful) (Fit-from c.args.numbers.now (λ i. omega (arith, c.type_inv.numbers i))) c.requires.some c.requires.short c.loop-number-test.false (c.into_vec.ensures ∙ c.loop-number.invariant))
