use Rattle.std.proofs.Common.{◌≡◌, ◌∙◌, ℕ, ◌<◌, ◌^◌, decimal, IsTrue, List}
use Rattle.std.proofs.lemmas.Fmt.{parse-decimal, IsAscii-decimal}
use Rattle.std.proofs.lemmas.Str.{IsUtf8-from_ascii}
use Rattle.std.specs.Bool.{then_some}
use Rattle.std.specs.Prelude.{Bool, true, false, IfNone, IsUtf8, ◌≢◌}
use Rattle.ox_schedule.proofs.word.number.Goals as goal

utf8_decimal : (word : List ℕ) (n : ℕ) → n < 2 ^ 64 → word ≡ decimal n → IsUtf8 word
utf8_decimal word n lt e = rw e (IsUtf8-from_ascii (decimal n) (IsAscii-decimal n lt))

unless_spelt : (b : Bool) (m : ℕ) (word : List ℕ) → (word ≡ decimal m → IsTrue b) → ((n : ℕ) → n < 2 ^ 64 → word ≡ decimal n → m ≡ n) → IfNone (then_some b m) ((n : ℕ) → n < 2 ^ 64 → word ≢ decimal n)
unless_spelt true m word spelt only = tt
unless_spelt false m word spelt only = λ n lt e. let same : word ≡ decimal m = rw (only n lt e) e in let never : false ≡ true = spelt same in cc

pub returns-in-Ok-parse-clause-none : goal.returns-in-Ok-parse-clause-none
returns-in-Ok-parse-clause-none c = rw c.then_some.ensures (unless_spelt c.is_number.result c.in-Ok-parse.number c.args.word.now c.is_number.ensures.1 (λ n lt e.
    let same : c.in-Ok.text.now ≡ c.args.word.now = c.in-Ok.ensures.cases.0 in
    let ok = parse-decimal 64 n c.in-Ok.text.now c.parse.result lt lt (same ∙ e) c.parse.ensures.value.0 in
    cc))

pub returns-in-Err-parse-clause-none : goal.returns-in-Err-parse-clause-none
returns-in-Err-parse-clause-none c = λ n lt e.
    let same : c.in-Ok.text.now ≡ c.args.word.now = c.in-Ok.ensures.cases.0 in
    let ok = parse-decimal 64 n c.in-Ok.text.now c.parse.result lt lt (same ∙ e) c.parse.ensures.value.0 in
    cc

pub returns-in-Err-clause-none : goal.returns-in-Err-clause-none
returns-in-Err-clause-none c = λ n lt e. c.in-Err.ensures.cases.0 (utf8_decimal c.args.word.now n lt e)
