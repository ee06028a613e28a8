use Rattle.std.proofs.Common.{◌≡◌, true, false, rules}
use Rattle.std.specs.Str.{bytes_eq}
use Rattle.ox_ops.specs.Forms as form
use Rattle.ox_text.specs.Words.{spelt}
use Rattle.ox_schedule.proofs.Words.{name_misspelt, name_found, name_faulty}
use Rattle.ox_schedule.proofs.escape.read_name.Goals as goal

pub returns-then-not-branch : goal.returns-then-not-branch
returns-then-not-branch c =
    let spelled : bytes_eq c.args.word.now (spelt c.in_ok-name.name.items) ≡ false = search rules in
    name_misspelt c.args.word.now c.in_ok-name.name.items c.in_ok-name.ensures.text spelled

pub returns-then-not-is_name : goal.returns-then-not-is_name
returns-then-not-is_name c =
    let short : form.is_name c.in_ok-name.name.items ≡ false = search rules in
    name_faulty c.args.word.now c.in_ok-name.name.items c.in_ok-name.ensures.text short

pub returns : goal.returns
returns c =
    let spelled : bytes_eq c.args.word.now (spelt c.in_ok-name.name.items) ≡ true = search rules in
    let long : form.is_name c.in_ok-name.name.items ≡ true = search rules in
    rw c.from_vec.ensures (name_found c.args.word.now c.in_ok-name.name.items c.in_ok-name.ensures.text spelled c.in_ok-name.ensures.small long)
