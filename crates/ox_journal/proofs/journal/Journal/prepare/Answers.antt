use Rattle.std.proofs.Common.{◌≡◌, [], rules}
use Rattle.ox_journal.specs.Filling.{inner, next_round}
use Rattle.ox_journal.proofs.Switching.{prepare_leaves, prepared}
use Rattle.ox_journal.proofs.Turns.{held_turn}
use Rattle.ox_journal.proofs.journal.Journal.prepare.Goals as goal

pub returns-in-Ok-clause-done : goal.returns-in-Ok-clause-done
returns-in-Ok-clause-done g c payloads told unbroken is_open =
    let is : c.extend_from_slice.new.self.items ≡ inner (next_round c.args.self.now.round) 0 [] = search rules in
    prepared _ _ _ _ payloads is_open _ _ (λ safe. c.in-Ok.ensures.done told safe) (λ closed. c.in-Ok.ensures.closed told closed) is

pub returns-in-Ok-clause-any_moment : goal.returns-in-Ok-clause-any_moment
returns-in-Ok-clause-any_moment g c payloads told unbroken is_open =
    prepare_leaves _ _ _ _ payloads is_open _ (λ safe. c.close_gate.ensures.any_moment told safe) (λ closed. c.close_gate.ensures.closed_any_moment told closed)

pub returns-in-Err-clause-any_moment : goal.returns-in-Err-clause-any_moment
returns-in-Err-clause-any_moment g c payloads told unbroken is_open =
    prepare_leaves _ _ _ _ payloads is_open _ (λ safe. c.close_gate.ensures.any_moment told safe) (λ closed. c.close_gate.ensures.closed_any_moment told closed)

pub returns-in-Ok-clause-in_turn : goal.returns-in-Ok-clause-in_turn
returns-in-Ok-clause-in_turn g c payloads told unbroken is_open = held_turn g.D.Disk.shows _ _ _ _ _ payloads (returns-in-Ok-clause-any_moment g c payloads told unbroken is_open)

pub returns-in-Err-clause-in_turn : goal.returns-in-Err-clause-in_turn
returns-in-Err-clause-in_turn g c payloads told unbroken is_open = held_turn g.D.Disk.shows _ _ _ _ _ payloads (returns-in-Err-clause-any_moment g c payloads told unbroken is_open)
