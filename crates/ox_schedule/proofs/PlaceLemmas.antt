-- In a schedule of one node the events are at node 1 and shard 0, and their numbers are in their range.
use Rattle.std.proofs.Common.{◌≡◌, ℕ, true, ◌&&◌, eqb, leb, List, [], ◌∷◌, refl, subst, arith}
use Rattle.std.specs.List.{list_all}
use Rattle.std.proofs.lemmas.Bool.{eqb-true, eq-eqb, leb-true, ltb-true, and_parts, and_from}
use Rattle.ox_schedule.specs.Events.{Turn, Event}
use Rattle.ox_wire.specs.declared.event.Turn.TheVariants.{Client, Deliver, Tick}
use Rattle.ox_wire.specs.declared.event.Event.TheVariants as event
use Rattle.ox_schedule.specs.declared.schedule.First.{First}
use Rattle.ox_schedule.specs.declared.schedule.First.TheVariants.{Solo}
use Rattle.ox_schedule.specs.declared.schedule.Places.{Places}
use Rattle.ox_schedule.specs.declared.schedule.Schedule.{Schedule}
use Rattle.ox_schedule.specs.Spelling.{is_number, is_node, is_shard, is_call, is_term, names_node, names_shard, is_turn, is_seat, is_event}
use Rattle.ox_schedule.specs.Lawful.{is_first_place, turn_of_one_node, is_of_one_node, blocks_fit}
use Rattle.ox_schedule.specs.Schedule.{IsSchedule, places_of, is_first, is_room}

-- one node and one shard
abbrev alone : Places
alone = record { nodes = 1; shards = 1 }

node_is_one : (n : ℕ) → names_node alone n ≡ true → eqb n 1 ≡ true
node_is_one n h =
    let x = and_parts (leb 1 n) (leb n 1) (and_parts (is_number n) (is_node alone n) h).1 in
    eq-eqb n 1 (omega (arith, leb-true 1 n x.0, leb-true n 1 x.1))

shard_is_none : (s : ℕ) → names_shard alone s ≡ true → eqb s 0 ≡ true
shard_is_none s h = eq-eqb s 0 (omega (arith, ltb-true s 1 (and_parts (is_number s) (is_shard alone s) h).1))

at_one : (n s : ℕ) → names_node alone n && names_shard alone s ≡ true → is_first_place n s ≡ true
at_one n s h = let x = and_parts (names_node alone n) (names_shard alone s) h in and_from _ _ (node_is_one n x.0) (shard_is_none s x.1)

seat_at_one : (n s term : ℕ) → is_seat alone n s term ≡ true → is_first_place n s && is_term term ≡ true
seat_at_one n s term h =
    let x = and_parts (names_node alone n && names_shard alone s) (is_number term && is_term term) h in
    and_from _ _ (at_one n s x.0) (and_parts (is_number term) (is_term term) x.1).1

turn_at_one : (t : Turn) → is_turn alone t ≡ true → turn_of_one_node t ≡ true
turn_at_one (Client node shard r) h = at_one node shard (and_parts (names_node alone node && names_shard alone shard) _ h).0
turn_at_one (Deliver message) h = refl
turn_at_one (Tick node shard ms) h = at_one node shard (and_parts (names_node alone node && names_shard alone shard) _ h).0

event_at_one : (e : Event) → is_event alone e ≡ true → is_of_one_node e ≡ true
event_at_one (event.Takes t) h = turn_at_one t h
event_at_one (event.Cut call i t) h =
    let x = and_parts (is_number call && is_call call) (is_turn alone t) h in
    and_from _ _ (and_parts (is_number call) (is_call call) x.0).1 (turn_at_one t x.1)
event_at_one (event.Stop node) h = node_is_one node h
event_at_one (event.Start node) h = node_is_one node h
event_at_one (event.Lose node) h = node_is_one node h
event_at_one (event.Fence node shard term) h = seat_at_one node shard term h
event_at_one (event.Lead node shard term) h = seat_at_one node shard term h

all_at_one : (es : List Event) → list_all (is_event alone) es ≡ true → list_all is_of_one_node es ≡ true
all_at_one [] h = refl
all_at_one (e ∷ es) h = let x = and_parts (is_event alone e) _ h in and_from _ _ (event_at_one e x.0) (all_at_one es x.1)

in_first : (f : First) (es : List Event) → is_first f ≡ true → list_all (is_event (places_of f)) es ≡ true → list_all is_of_one_node es ≡ true
in_first (Solo shards blocks) es f h =
    let one : shards ≡ 1 = eqb-true shards 1 (and_parts (eqb shards 1) (is_room blocks) f).0 in
    all_at_one es (subst (λ (n : ℕ). list_all (is_event (record { nodes = 1; shards = n })) es ≡ true) one h)

pub all_of_one_node : (s : Schedule) → IsSchedule s → list_all is_of_one_node s.events ≡ true
all_of_one_node s h = in_first s.first s.events h.first h.lawful

first_fits : (f : First) → is_first f ≡ true → blocks_fit f ≡ true
first_fits (Solo shards blocks) h = (and_parts (eqb shards 1) (is_room blocks) h).1

pub all_blocks_fit : (s : Schedule) → IsSchedule s → blocks_fit s.first ≡ true
all_blocks_fit s h = first_fits s.first h.first
