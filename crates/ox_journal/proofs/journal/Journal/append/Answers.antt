use Rattle.std.proofs.Common.{◌≡◌, ◌∙◌, ◌<◌, ◌^◌, ◌++◌, ◌∷◌, [], length, arith, rules}
use Rattle.ox_journal.specs.Half.{record_text, front}
use Rattle.ox_journal.proofs.Pairs.{starts, live_leaves, pair_leaves, opened_next}
use Rattle.ox_journal.proofs.Turns.{append_turn}
use Rattle.ox_journal.proofs.journal.Journal.append.Goals as goal

pub returns-in-Ok-clause-done : goal.returns-in-Ok-clause-done
returns-in-Ok-clause-done g c payloads told open_now is_open =
    let small : length c.args.payload.now < 2 ^ 32 = omega (arith, c.requires.size) in
    let pending : length c.args.self.now.buffer.items ≡ c.len-pending.result = search rules in
    let bytes : c.rest_of.result.now ≡ record_text c.args.payload.now ++ 0 ∷ [] = c.rest_of.ensures c.args.self.now.buffer.items (record_text c.args.payload.now ++ 0 ∷ []) (c.deref.ensures.value ∙ c.gather.ensures.items) pending in
    let ended = c.in-Ok.ensures.done (front _ payloads) (record_text c.args.payload.now) told (starts _ _ _ _ payloads is_open _ small _ bytes) in
    opened_next _ _ _ _ payloads is_open _ small _ ended.0 ended.1

pub returns-in-Ok-clause-live : goal.returns-in-Ok-clause-live
returns-in-Ok-clause-live g c payloads told open_now is_open =
    let small : length c.args.payload.now < 2 ^ 32 = omega (arith, c.requires.size) in
    let pending : length c.args.self.now.buffer.items ≡ c.len-pending.result = search rules in
    let bytes : c.rest_of.result.now ≡ record_text c.args.payload.now ++ 0 ∷ [] = c.rest_of.ensures c.args.self.now.buffer.items (record_text c.args.payload.now ++ 0 ∷ []) (c.deref.ensures.value ∙ c.gather.ensures.items) pending in
    live_leaves _ _ _ _ payloads is_open _ small _ (c.add_record-added.ensures.any_moment (front _ payloads) (record_text c.args.payload.now) told (starts _ _ _ _ payloads is_open _ small _ bytes))

pub returns-in-Ok-clause-any_moment : goal.returns-in-Ok-clause-any_moment
returns-in-Ok-clause-any_moment g c payloads told open_now is_open =
    let small : length c.args.payload.now < 2 ^ 32 = omega (arith, c.requires.size) in
    pair_leaves _ _ _ _ payloads is_open _ small _ (returns-in-Ok-clause-live g c payloads told open_now is_open)

pub returns-in-Err-clause-live : goal.returns-in-Err-clause-live
returns-in-Err-clause-live g c payloads told open_now is_open =
    let small : length c.args.payload.now < 2 ^ 32 = omega (arith, c.requires.size) in
    let pending : length c.args.self.now.buffer.items ≡ c.len-pending.result = search rules in
    let bytes : c.rest_of.result.now ≡ record_text c.args.payload.now ++ 0 ∷ [] = c.rest_of.ensures c.args.self.now.buffer.items (record_text c.args.payload.now ++ 0 ∷ []) (c.deref.ensures.value ∙ c.gather.ensures.items) pending in
    live_leaves _ _ _ _ payloads is_open _ small _ (c.add_record-added.ensures.any_moment (front _ payloads) (record_text c.args.payload.now) told (starts _ _ _ _ payloads is_open _ small _ bytes))

pub returns-in-Err-clause-any_moment : goal.returns-in-Err-clause-any_moment
returns-in-Err-clause-any_moment g c payloads told open_now is_open =
    let small : length c.args.payload.now < 2 ^ 32 = omega (arith, c.requires.size) in
    pair_leaves _ _ _ _ payloads is_open _ small _ (returns-in-Err-clause-live g c payloads told open_now is_open)

pub returns-in-Ok-clause-in_turn : goal.returns-in-Ok-clause-in_turn
returns-in-Ok-clause-in_turn g c payloads told open_now is_open = append_turn g.D.Disk.shows _ _ _ _ _ payloads _ (returns-in-Ok-clause-any_moment g c payloads told open_now is_open)

pub returns-in-Err-clause-in_turn : goal.returns-in-Err-clause-in_turn
returns-in-Err-clause-in_turn g c payloads told open_now is_open = append_turn g.D.Disk.shows _ _ _ _ _ payloads _ (returns-in-Err-clause-any_moment g c payloads told open_now is_open)
