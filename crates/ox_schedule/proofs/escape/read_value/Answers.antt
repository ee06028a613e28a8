use Rattle.std.proofs.Common.{◌≡◌, true, false, rules}
use Rattle.std.specs.Str.{bytes_eq}
use Rattle.ox_text.specs.Words.{value_word}
use Rattle.ox_schedule.proofs.Words.{value_misspelt, value_found, value_too_long}
use Rattle.ox_schedule.proofs.escape.read_value.Goals as goal

pub returns-then-not-branch : goal.returns-then-not-branch
returns-then-not-branch c =
    let spelled : bytes_eq c.args.word.now (value_word c.in_ok-bytes.bytes.items) ≡ false = search rules in
    value_misspelt c.args.word.now c.in_ok-bytes.bytes.items c.in_ok-bytes.ensures.text spelled

pub returns-in-Ok : goal.returns-in-Ok
returns-in-Ok c =
    let spelled : bytes_eq c.args.word.now (value_word c.in_ok-bytes.bytes.items) ≡ true = search rules in
    rw c.in-Ok.ensures.0 (value_found c.args.word.now c.in_ok-bytes.bytes.items c.in_ok-bytes.ensures.text spelled c.in_ok-bytes.ensures.small c.in-Ok.ensures.1)

pub returns-in-Err : goal.returns-in-Err
returns-in-Err c =
    let spelled : bytes_eq c.args.word.now (value_word c.in_ok-bytes.bytes.items) ≡ true = search rules in
    value_too_long c.args.word.now c.in_ok-bytes.bytes.items c.in_ok-bytes.ensures.text spelled c.in_ok-bytes.ensures.small c.in-Err.ensures.1
