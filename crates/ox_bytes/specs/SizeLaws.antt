-- The length of an entry, in bytes and in blocks.
use Rattle.std.proofs.Common.{◌≡◌, ℕ, ◌+◌, ◌/◌, ◌%◌, List, ◌∷◌, ◌++◌, length, ap, ◌∙◌, arith, length-append}
use Rattle.ox_types.specs.declared.log.Entry.{Entry}
use Rattle.ox_types.specs.declared.log.EntryBody.{EntryBody}
use Rattle.ox_types.specs.declared.log.EntryBody.TheVariants as body_is
use Rattle.ox_bytes.specs.Numbers.{be32, be64}
use Rattle.ox_bytes.specs.NumberLaws.{length-be32, length-be64}
use Rattle.ox_bytes.specs.LogForms.{entry, entry_body, entry_blocks}

three : (a b c : ℕ) (rest : List ℕ) → length (be64 a ++ (be64 b ++ (be64 c ++ rest))) ≡ 24 + length rest
three a b c rest = omega (
  arith,
  length-append (be64 a) (be64 b ++ (be64 c ++ rest)),
  length-append (be64 b) (be64 c ++ rest),
  length-append (be64 c) rest,
  length-be64 a,
  length-be64 b,
  length-be64 c,
)

pub pass_blocks : (e : Entry) → e.body ≡ body_is.Pass → entry_blocks e ≡ 1
unfolding entry entry_body
pass_blocks e is =
    let size : length (entry.text e) ≡ 25 = three e.term e.offset e.time (entry_body.text e.body) ∙ ap (λ (b : EntryBody). 24 + length (entry_body.text b)) is in
    ap (λ (n : ℕ). (n + 4095) / 4096) size

pub command_blocks : (e : Entry) (bytes : List ℕ) (n : ℕ) → e.body ≡ body_is.Command bytes → n ≡ length bytes → n / 4096 + (n % 4096 + 29 + 4095) / 4096 ≡ entry_blocks e
unfolding entry entry_body
command_blocks e bytes n is len =
    let text : length (entry.text e) ≡ 24 + length (1 ∷ (be32 (length bytes) ++ bytes)) =
    three e.term e.offset e.time (entry_body.text e.body) ∙ ap (λ (b : EntryBody). 24 + length (entry_body.text b)) is in
    let four : length (be32 (length bytes) ++ bytes) ≡ 4 + length bytes = omega (arith, length-append (be32 (length bytes)) bytes, length-be32 (length bytes)) in
    omega arith
