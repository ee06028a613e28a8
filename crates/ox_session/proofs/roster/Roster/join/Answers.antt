use Rattle.std.proofs.Common.{◌∙◌, sym}
use Rattle.std.specs.Option.{option_copied}
use Rattle.ox_session.proofs.KeyLists.{keys_inserted, keys_there, some_copied, keys_rise}
use Rattle.ox_session.proofs.roster.Roster.join.Goals as goal

pub returns-then-is_some-clause-ok : goal.returns-then-is_some-clause-ok
returns-then-is_some-clause-ok c =
    keys_there c.args.self.now.keys c.args.key.now (option_copied c.get.result) c.get.ensures.rising c.get.ensures.value
    (some_copied c.get.result ∙ sym c.is_some.ensures ∙ c.if-is_some.true)

pub returns-clause-ok : goal.returns-clause-ok
returns-clause-ok c = rw (c.in_ok-insert.ensures.ok, c.in_ok-key.ensures) (keys_inserted c.args.self.now.keys c.args.key.now _)

pub returns-then-is_some-clause-was_in_order : goal.returns-then-is_some-clause-was_in_order
returns-then-is_some-clause-was_in_order c = keys_rise c.args.self.now.keys c.get.ensures.rising

pub returns-clause-was_in_order : goal.returns-clause-was_in_order
returns-clause-was_in_order c = keys_rise c.args.self.now.keys c.get.ensures.rising

pub returns-in_err-key-clause-was_in_order : goal.returns-in_err-key-clause-was_in_order
returns-in_err-key-clause-was_in_order c = keys_rise c.args.self.now.keys c.get.ensures.rising

pub returns-in_err-insert-clause-was_in_order : goal.returns-in_err-insert-clause-was_in_order
returns-in_err-insert-clause-was_in_order c = keys_rise c.args.self.now.keys c.get.ensures.rising
