use Rattle.ox_journal.proofs.Switching.{record_begun, fill_leaves, with_spare}
use Rattle.std.proofs.Common.{◌≡◌, ◌<◌, ◌^◌, ◌∷◌, [], ℕ, List, get_or, ap}
use Rattle.ox_journal.specs.Half.{be32}
use Rattle.ox_journal.proofs.Turns.{held_turn}
use Rattle.ox_journal.proofs.journal.Journal.fill_start.Goals as goal

pub returns-in-Ok-clause-done : goal.returns-in-Ok-clause-done
returns-in-Ok-clause-done g c new told filling rewriting =
    let small : c.args.len < 2 ^ 32 = c.ranges.len.fits in
    let bytes : (1 ∷ get_or c.to_be_bytes.result 0 0 ∷ get_or c.to_be_bytes.result 1 0 ∷ get_or c.to_be_bytes.result 2 0 ∷ get_or c.to_be_bytes.result 3 0 ∷ []) ≡ 1 ∷ be32 c.args.len =
    ap (λ (l : List ℕ). 1 ∷ get_or l 0 0 ∷ get_or l 1 0 ∷ get_or l 2 0 ∷ get_or l 3 0 ∷ []) c.to_be_bytes.ensures in
    record_begun _ _ _ _ c.args.len _ _ new (c.requires.whole filling) small bytes rewriting.sizes (c.in-Ok.ensures.done _ told rewriting.gathers)

pub returns-in-Ok-clause-keeps : goal.returns-in-Ok-clause-keeps
returns-in-Ok-clause-keeps g c payloads new told filling is_open rewriting =
    with_spare _ _ _ _ payloads is_open _ (c.in-Ok.ensures.aside _ _ told rewriting.gathers is_open.aside)

pub returns-in-Ok-clause-any_moment : goal.returns-in-Ok-clause-any_moment
returns-in-Ok-clause-any_moment g c payloads new told filling is_open rewriting =
    fill_leaves _ _ _ _ payloads is_open _ (c.fill_once.ensures.any_moment _ told rewriting.gathers)

pub returns-in-Err-clause-any_moment : goal.returns-in-Err-clause-any_moment
returns-in-Err-clause-any_moment g c payloads new told filling is_open rewriting =
    fill_leaves _ _ _ _ payloads is_open _ (c.fill_once.ensures.any_moment _ told rewriting.gathers)

pub returns-in-Ok-clause-in_turn : goal.returns-in-Ok-clause-in_turn
returns-in-Ok-clause-in_turn g c payloads new told filling is_open rewriting = held_turn g.D.Disk.shows _ _ _ _ _ payloads (returns-in-Ok-clause-any_moment g c payloads new told filling is_open rewriting)

pub returns-in-Err-clause-in_turn : goal.returns-in-Err-clause-in_turn
returns-in-Err-clause-in_turn g c payloads new told filling is_open rewriting = held_turn g.D.Disk.shows _ _ _ _ _ payloads (returns-in-Err-clause-any_moment g c payloads new told filling is_open rewriting)
