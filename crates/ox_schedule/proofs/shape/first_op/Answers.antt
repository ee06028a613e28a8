use Rattle.std.proofs.Common.{◌≡◌, ◌∷◌, suc, length, sym, take, drop, ◌+◌, ◌-◌}
use Rattle.std.proofs.lemmas.List.Quantifiers.{position-Some}
use Rattle.ox_schedule.specs.Shape.{ops_in}
use Rattle.ox_schedule.proofs.OpsLemmas.{ops_at, ops_none, none_at, rest_of, is_plus, texts, no_word}
use Rattle.ox_schedule.proofs.shape.first_op.Goals as goal

pub returns-in-Some-clause-ops : goal.returns-in-Some-clause-ops
returns-in-Some-clause-ops c =
    let found = position-Some is_plus c.args.words.now c.in-Some.at no_word (sym c.in-Some.ensures) in
    let ops : ops_in (texts c.args.words.now) ≡ texts (take c.in-Some.at c.args.words.now) ∷ ops_in (texts (drop (suc c.in-Some.at) c.args.words.now)) = ops_at c.args.words.now c.in-Some.at no_word found.0 found.2 found.1 in
    let rest : take (length c.args.words.now - (c.in-Some.at + 1)) (drop (c.in-Some.at + 1) c.args.words.now) ≡ drop (suc c.in-Some.at) c.args.words.now = rest_of c.args.words.now c.in-Some.at in
    rw rest ops

pub returns-in-None-clause-ops : goal.returns-in-None-clause-ops
returns-in-None-clause-ops c = ops_none c.args.words.now no_word (none_at c.args.words.now no_word (sym c.in-None.ensures))
