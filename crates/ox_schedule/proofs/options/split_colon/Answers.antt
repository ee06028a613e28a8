use Rattle.std.proofs.Common.{◌≡◌, ℕ, suc, eqb, length, sym, take, drop, ◌+◌, ◌-◌, Some}
use Rattle.std.proofs.lemmas.List.Quantifiers.{position-Some}
use Rattle.ox_schedule.specs.Reading.{at_colon}
use Rattle.ox_schedule.proofs.OptionLemmas.{colon_at, colon_none}
use Rattle.ox_schedule.proofs.TextLemmas.{rest_of}
use Rattle.ox_schedule.proofs.options.split_colon.Goals as goal

pub returns-in-Some : goal.returns-in-Some
returns-in-Some c =
    let found = position-Some (λ (b : ℕ). eqb b 58) c.args.text.now c.in-Some.at 0 (sym c.in-Some.ensures) in
    let parts : at_colon c.args.text.now ≡ Some (take c.in-Some.at c.args.text.now, drop (suc c.in-Some.at) c.args.text.now) = colon_at c.args.text.now c.in-Some.at found.0 found.2 found.1 in
    let rest : take (length c.args.text.now - (c.in-Some.at + 1)) (drop (c.in-Some.at + 1) c.args.text.now) ≡ drop (suc c.in-Some.at) c.args.text.now = rest_of c.args.text.now c.in-Some.at in
    rw rest (sym parts)

pub returns-in-None : goal.returns-in-None
returns-in-None c = sym (colon_none c.args.text.now (sym c.in-None.ensures))
