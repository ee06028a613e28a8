use Rattle.std.proofs.Common.{◌∙◌, sym}
use Rattle.ox_puts.proofs.Looks.{none-seen, numbers-seen, cut-seen}
use Rattle.ox_puts.proofs.search.look_behind.Goals as goal

pub returns-in-None : goal.returns-in-None
returns-in-None c = none-seen c.args.prefix.now c.args.count c.args.groups.now c.args.more.now c.requires (sym c.in-None.is ∙ c.in_ok-numbers_in.ensures)

pub returns-then-is_empty : goal.returns-then-is_empty
returns-then-is_empty c =
    numbers-seen c.args.prefix.now c.args.count c.args.groups.now c.args.more.now c.in-Some.numbers (sym c.if-is_empty.ensures) (sym c.in-Some.is ∙ c.in_ok-numbers_in.ensures)

pub returns-in_ok-cut_of-in-Some : goal.returns-in_ok-cut_of-in-Some
returns-in_ok-cut_of-in-Some c =
    cut-seen c.args.prefix.now c.args.count c.args.groups.now c.args.more.now c.in-Some.numbers c.in_ok-cut_of-in-Some.field-0 c.requires (sym c.if-is_empty.ensures) (sym c.in-Some.is ∙ c.in_ok-numbers_in.ensures) c.in_ok-cut_of-in-Some.ensures.cut c.in_ok-cut_of-in-Some.ensures.clean
