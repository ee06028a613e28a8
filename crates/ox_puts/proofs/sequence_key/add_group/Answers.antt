use Rattle.std.proofs.Common.{◌∙◌, ◌++◌, ap, length, List, ℕ, replicate}
use Rattle.std.proofs.lemmas.List.{take_rest}
use Rattle.ox_puts.proofs.Bytes.{grouped}
use Rattle.ox_puts.proofs.sequence_key.add_group.Goals as goal

pub returns : goal.returns
returns c =
    grouped c.args.text.now c.extend.new.self c.extend-2.new.self _ c.as_bytes-digits.result.now c.args.number c.in_ok-extend.ensures.ok (c.in_ok-extend-2.ensures.ok ∙ ap (λ (x : List ℕ). c.extend.new.self ++ x) (take_rest (replicate 20 48) (length c.as_bytes-digits.result.now))) c.in_ok-extend-3.ensures.ok (c.as_bytes-digits.ensures.value ∙ c.format.ensures.text)
