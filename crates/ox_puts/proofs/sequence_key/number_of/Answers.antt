use Rattle.std.proofs.Common.{◌≡◌, ◌∙◌, true, sym, get_or}
use Rattle.std.specs.Char.{is_ascii_digit}
use Rattle.ox_puts.proofs.Bytes.{mul_fails, add_fails, read_more, read_all}
use Rattle.ox_puts.proofs.sequence_key.number_of.Goals as goal

pub returns-in_err-checked_mul : goal.returns-in_err-checked_mul
returns-in_err-checked_mul c =
    c.from_residual.ensures ∙ mul_fails c.args.digits.now c.loop-digit.digit-index c.loop-digit.number c.loop-digit-test.true c.loop-digit.invariant.value c.in_err-checked_mul.ensures

pub returns-in_err-number : goal.returns-in_err-number
returns-in_err-number c =
    c.from_residual-in_err-number.ensures
    ∙ add_fails c.args.digits.now c.loop-digit.digit-index c.loop-digit.number c.in_ok-checked_mul.field-0 c.from.result c.loop-digit-test.true c.loop-digit.invariant.value (sym c.is_ascii_digit.ensures.value ∙ c.if-not-is_ascii_digit.false) c.from.ensures c.in_ok-checked_mul.ensures.1 c.in_err-number.ensures

pub loop-digit-preserved : goal.loop-digit-preserved
loop-digit-preserved c =
    read_more c.args.digits.now c.loop-digit.digit-index c.loop-digit.number c.in_ok-checked_mul.field-0 c.from.result c.in_ok-number.number c.loop-digit-test.true c.loop-digit.invariant (sym c.is_ascii_digit.ensures.value ∙ c.if-not-is_ascii_digit.false) c.from.ensures c.in_ok-checked_mul.ensures.1 c.in_ok-number.ensures

pub returns : goal.returns
returns c = read_all c.args.digits.now c.loop-digit.digit-index c.loop-digit.number c.requires c.loop-digit-test.false c.loop-digit.invariant
