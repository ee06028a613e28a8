use Rattle.std.proofs.Common.{rules, ◌≡◌, ◌∙◌, map, ap}
use Rattle.std.specs.Map.Iter.{deref_pair}
use Rattle.ox_order.specs.declared.range.Lo.TheVariants.{Start}
use Rattle.ox_order.specs.declared.range.Hi.TheVariants.{End}
use Rattle.ox_table.specs.Table.{within}
use Rattle.ox_session.proofs.KeyLists.{keys_within, keys}
use Rattle.ox_session.proofs.roster.Roster.copies.Goals as goal

pub returns : goal.returns
returns c =
    let all : map deref_pair c.loop-key.yielded ≡ within (record { lo = Start; hi = End }) c.args.self.now.keys = search rules in
    c.loop-key.invariant.keys ∙ ap keys all ∙ keys_within c.args.self.now.keys
