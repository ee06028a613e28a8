use Rattle.std.proofs.Common.{◌≡◌, ◌-◌, ◌++◌, ◌∷◌, [], length, arith, rules}
use Rattle.ox_journal.proofs.Switching.{whole_now, switch_leaves, switched, closes}
use Rattle.ox_journal.proofs.Turns.{switch_turn, turned}
use Rattle.ox_journal.proofs.journal.Journal.switch.Goals as goal

pub returns-in-Err-clause-any_moment_err : goal.returns-in-Err-clause-any_moment_err
returns-in-Err-clause-any_moment_err g c payloads new told filling is_open rewriting =
    let bytes : c.deref.result.now ≡ c.args.self.now.buffer.items ++ 0 ∷ [] = search rules in
    let whole = whole_now _ _ _ _ _ new (c.requires.whole filling) rewriting in
    let gathers = whole.gathers in
    switch_leaves _ _ _ _ payloads is_open _ _ new whole _
    (c.switch_half-switched.ensures.any_moment gathers.written _ told gathers.fills gathers.filled_is (closes _ _ _ _ gathers _ bytes))

pub returns-in-Ok-clause-any_moment : goal.returns-in-Ok-clause-any_moment
returns-in-Ok-clause-any_moment g c payloads new told filling is_open rewriting =
    let bytes : c.deref.result.now ≡ c.args.self.now.buffer.items ++ 0 ∷ [] = search rules in
    let whole = whole_now _ _ _ _ _ new (c.requires.whole filling) rewriting in
    let gathers = whole.gathers in
    rw (c.swap.ensures.x_after, c.swap.ensures.y_after) (switch_leaves _ _ _ _ payloads is_open _ _ new whole _
    (c.switch_half-switched.ensures.any_moment gathers.written _ told gathers.fills gathers.filled_is (closes _ _ _ _ gathers _ bytes)))

pub returns-in-Ok-clause-done : goal.returns-in-Ok-clause-done
returns-in-Ok-clause-done g c payloads new told filling is_open rewriting =
    let bytes : c.deref.result.now ≡ c.args.self.now.buffer.items ++ 0 ∷ [] = search rules in
    let whole = whole_now _ _ _ _ _ new (c.requires.whole filling) rewriting in
    let gathers = whole.gathers in
    let len : c.len.result ≡ length c.args.self.now.buffer.items = search rules in
    let made = c.in-Ok.ensures.done gathers.written _ told gathers.fills gathers.filled_is (closes _ _ _ _ gathers _ bytes) in
    rw (c.swap.ensures.x_after, c.swap.ensures.y_after) (switched _ _ _ _ payloads is_open _ _ new whole _ _ made (omega arith))

pub returns-in-Err-clause-in_turn : goal.returns-in-Err-clause-in_turn
returns-in-Err-clause-in_turn g c payloads new told filling is_open rewriting =
    switch_turn g.D.Disk.shows _ _ _ _ _ payloads new (returns-in-Err-clause-any_moment_err g c payloads new told filling is_open rewriting)

pub returns-in-Ok-clause-in_turn : goal.returns-in-Ok-clause-in_turn
returns-in-Ok-clause-in_turn g c payloads new told filling is_open rewriting =
    let below = c.args.self.now.halves in
    rw (turned (1 - c.args.self.now.half) c.args.self.now.half c.swap.new.x c.swap.new.y (omega arith))
    (switch_turn g.D.Disk.shows c.args.self.now.half _ _ _ _ payloads new (returns-in-Ok-clause-any_moment g c payloads new told filling is_open rewriting))
