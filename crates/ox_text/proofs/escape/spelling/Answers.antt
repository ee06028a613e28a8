use Rattle.std.proofs.Common.{refl}
use Rattle.ox_text.specs.SpellingLaws.{spelt_is}
use Rattle.ox_text.proofs.escape.spelling.Goals as goal

pub returns : goal.returns
returns c = rw (c.in_ok-append_to.ensures.ok, c.new-text.ensures.bytes, c.percent_encode.ensures.text, spelt_is c.args.bytes.now) refl
