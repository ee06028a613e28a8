use Rattle.std.proofs.Common.{◌≡◌, ℕ, suc, eqb, length, sym}
use Rattle.std.proofs.lemmas.List.Quantifiers.{position-Some}
use Rattle.ox_schedule.specs.Schedule.{lines_of}
use Rattle.std.proofs.Common.{◌∷◌, take, drop, ◌+◌, ◌-◌}
use Rattle.ox_schedule.proofs.TextLemmas.{lines_at, lines_none, none_at, rest_of}
use Rattle.ox_schedule.proofs.reading.first_line.Goals as goal

pub returns-in-Some-clause-lines : goal.returns-in-Some-clause-lines
returns-in-Some-clause-lines c =
    let found = position-Some (λ (b : ℕ). eqb b 10) c.args.text.now c.in-Some.at 0 (sym c.in-Some.ensures) in
    let lines : lines_of c.args.text.now ≡ take c.in-Some.at c.args.text.now ∷ lines_of (drop (suc c.in-Some.at) c.args.text.now) = lines_at c.args.text.now c.in-Some.at found.0 found.2 found.1 in
    let rest : take (length c.args.text.now - (c.in-Some.at + 1)) (drop (c.in-Some.at + 1) c.args.text.now) ≡ drop (suc c.in-Some.at) c.args.text.now = rest_of c.args.text.now c.in-Some.at in
    rw rest lines

pub returns-in-None-clause-lines : goal.returns-in-None-clause-lines
returns-in-None-clause-lines c = lines_none c.args.text.now c.requires (none_at c.args.text.now (sym c.in-None.ensures))
