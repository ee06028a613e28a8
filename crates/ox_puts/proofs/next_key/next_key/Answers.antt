use Rattle.std.proofs.Common.{◌≡◌, ◌∙◌, List, ℕ, Ok, Err, Result, length, sym, ap, arith}
use Rattle.ox_ops.specs.Sequence.{raised, sequence_key, spent_from}
use Rattle.ox_puts.specs.Search.{numbers_or_group}
use Rattle.ox_puts.proofs.Raised.{raised-count, next-found, next-spent}
use Rattle.ox_puts.proofs.next_key.next_key.Goals as goal

abbrev sums : List ℕ → List ℕ → Result (List ℕ) ℕ
sums deltas last = numbers_or_group (raised last deltas) (spent_from 0 (raised last deltas))

made : (c : goal.After-as_slice-in-Ok) → Ok c.in-Ok.numbers ≡ sums c.args.deltas.now c.in_ok-last.last
made c = sym c.in-Ok.is ∙ c.in_ok-numbers.ensures ∙ ap (sums c.args.deltas.now) c.as_slice.ensures

long : (c : goal.After-as_slice-in-Ok) → length c.as_slice-in-Ok.result.now ≡ length c.args.deltas.now
long c = ap length c.as_slice-in-Ok.ensures ∙ raised-count c.in-Ok.numbers c.in_ok-last.last c.args.deltas.now (made c) ∙ c.in_ok-last.ensures.count

pub sequence_key-requires-clause-some : goal.sequence_key-requires-clause-some
sequence_key-requires-clause-some c = let l = long c in omega arith

pub sequence_key-requires-clause-short : goal.sequence_key-requires-clause-short
sequence_key-requires-clause-short c = let l = long c in omega arith

pub returns-in-Ok : goal.returns-in-Ok
returns-in-Ok c =
    next-found _ c.args.prefix.now c.args.deltas.now c.in_ok-last.last c.in-Ok.numbers c.in_ok-sequence_key-in-Ok.field-0 c.in_ok-last.ensures.numbers
    (sym c.in-Ok.is ∙ c.in_ok-numbers.ensures ∙ ap (sums c.args.deltas.now) c.as_slice.ensures) (c.in_ok-sequence_key-in-Ok.ensures ∙ ap (sequence_key c.args.prefix.now) c.as_slice-in-Ok.ensures)

pub returns : goal.returns
returns c =
    next-spent _ c.args.prefix.now c.args.deltas.now c.in_ok-last.last c.in-Err.group c.in_ok-last.ensures.numbers
    (sym c.in-Err.is ∙ c.in_ok-numbers.ensures ∙ ap (sums c.args.deltas.now) c.as_slice.ensures)
