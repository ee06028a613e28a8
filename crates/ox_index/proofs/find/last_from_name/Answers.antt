use Rattle.std.proofs.Common.{◌≡◌, ◌∙◌, refl, sym, ap, true, false, Some}
use Rattle.std.specs.Ordering.{is_lt}
use Rattle.ox_types.specs.Order.{bytes_cmp}
use Rattle.ox_types.specs.Lists.{last_of}
use Rattle.ox_index.proofs.Found.{last_of-place}
use Rattle.ox_index.proofs.find.last_from_name.Goals as goal

pub returns-then-is_lt : goal.returns-then-is_lt
returns-then-is_lt c =
    let place = c.in_ok-last.ensures.value in
    let last : last_of c.args.entries.now ≡ Some c.in_ok-last.last.now = last_of-place c.args.entries.now ∙ sym place in
    let test : is_lt (bytes_cmp c.in_ok-last.last.now.entry.name c.args.name.now) ≡ true = ap is_lt (sym c.name_order.ensures) ∙ sym c.is_lt.ensures ∙ c.if-is_lt.true in
    rw (last, test) refl

pub returns-else-is_lt : goal.returns-else-is_lt
returns-else-is_lt c =
    let place = c.in_ok-last.ensures.value in
    let last : last_of c.args.entries.now ≡ Some c.in_ok-last.last.now = last_of-place c.args.entries.now ∙ sym place in
    let test : is_lt (bytes_cmp c.in_ok-last.last.now.entry.name c.args.name.now) ≡ false = ap is_lt (sym c.name_order.ensures) ∙ sym c.is_lt.ensures ∙ c.if-is_lt.false in
    rw (last, test) refl
