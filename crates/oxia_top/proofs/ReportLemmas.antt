-- One event more: the text so far and that of what is left.
use Rattle.std.specs.List.{list_all, flat_map}
use Rattle.std.proofs.Common.{◌≡◌, ◌∙◌, ℕ, ◌+◌, ◌<◌, Bool, true, List, [], ◌∷◌, ◌++◌, length, map, Result, Ok, Err, IfOk, refl, sym, ap, subst, arith, append_assoc, append-nil}
use Rattle.std.proofs.lemmas.Bool.{and_parts}
use Rattle.ox_types.specs.declared.memory.NoMemory.{NoMemory}
use Rattle.ox_schedule.specs.Events.{Event}
use Rattle.ox_schedule.specs.declared.schedule.Schedule.{Schedule}
use Rattle.ox_schedule.specs.Lawful.{asks_encodable, is_of_one_node}
use Rattle.ox_ops.specs.State.{ShardState}
use Rattle.ox_meaning.specs.Shard.{shard_meaning}
use Rattle.ox_report.specs.Effect.{effect_line}
use Rattle.ox_wire.specs.Events.{RunEvent as HappensNext}
use Rattle.ox_solo_safety.specs.World.{World, opening_world}
use Rattle.ox_solo_safety.specs.Run.{AreOfOneNode, happens, run_from, run_of, world_after}
use Rattle.ox_wire.specs.Origins.{AreInStep}
use Rattle.oxia_top.specs.Events.{event_of}
use Rattle.oxia_top.specs.Report.{numbered_line, moment_text, moments_text, end_text, report_of, blocks_of, events_of, last_world}
use Rattle.oxia_top.specs.Running.{Running, Follows}
use Rattle.oxia_top.specs.Telling.{IsToldOf, AreToldOf}
use Rattle.oxia_top.proofs.ScheduleLemmas.{all_there}

-- an event behind its line
told_of : (old new : Running) (number : ℕ) (e : Event) (text lined text' : List ℕ) → lined ≡ text ++ numbered_line number e → Follows old (happens shard_meaning old.blocks old.world (event_of e)) lined text' new
    → IsToldOf old number e text text' new
told_of old new number e text lined text' line follows = record {
  is = follows.is;
  told =
      follows.told ∙ ap (λ xs. xs ++ flat_map effect_line (happens shard_meaning old.blocks old.world (event_of e)).effects) line
      ∙ append_assoc text (numbered_line number e) (flat_map effect_line (happens shard_meaning old.blocks old.world (event_of e)).effects);
}

pub event_told : (old : Running) (result : Result Running NoMemory) (number : ℕ) (e : Event) (text lined text' : List ℕ) → lined ≡ text ++ numbered_line number e
    → IfOk result (Follows old (happens shard_meaning old.blocks old.world (event_of e)) lined text') → IfOk result (IsToldOf old number e text text')
event_told old (Ok new) number e text lined text' line follows = told_of old new number e text lined text' line follows
event_told old (Err x) number e text lined text' line follows = tt

-- what the loop over the events keeps, with the events that are left
pub record Tells (old : Running) (items rest : List Event) (number : ℕ) (first text : List ℕ) (now : Running) : Type 0 where
  pub blocks : now.blocks ≡ old.blocks
  pub told : text ++ moments_text (number + 1) rest (run_from shard_meaning old.blocks now.world (map event_of rest)) ≡ first ++ moments_text 1 items (run_from shard_meaning old.blocks old.world (map event_of items))
  pub last : world_after shard_meaning old.blocks now.world (map event_of rest) ≡ world_after shard_meaning old.blocks old.world (map event_of items)
  pub there : list_all is_of_one_node rest ≡ true
  pub encodable : list_all asks_encodable rest ≡ true
  pub counted : number + length rest ≡ length items

pub tells_first : (old : Running) (items rest : List Event) (first : List ℕ) → rest ≡ items → list_all is_of_one_node items ≡ true → list_all asks_encodable items ≡ true → Tells old items rest 0 first first old
tells_first old items rest first all there encodable = rw all (record {
  blocks = refl;
  told = refl;
  last = refl;
  there = there;
  encodable = encodable;
  counted = omega arith;
})

pub none_of : {A : Type 0} (xs : List A) → length xs ≡ 0 → xs ≡ []
none_of [] h = refl
none_of (x ∷ xs) h = absurd (omega (arith, h))

-- what the next event may be taken for
pub record MayHappen (e : Event) (number : ℕ) (items : List Event) : Type 0 where
  pub before : number < length items
  pub there : is_of_one_node e ≡ true
  pub encodable : asks_encodable e ≡ true

pub may_happen : (old : Running) (items rest rest' : List Event) (number : ℕ) (first text : List ℕ) (now : Running) (e : Event) → Tells old items rest number first text now → rest ≡ e ∷ rest' → MayHappen e number items
may_happen old items rest rest' number first text now e t here =
    let count = rw here at t.counted in
    let there = rw here at t.there in
    let encodable = rw here at t.encodable in
    record {
      before = omega (arith, count);
      there = (and_parts (is_of_one_node e) (list_all is_of_one_node rest') there).0;
      encodable = (and_parts (asks_encodable e) (list_all asks_encodable rest') encodable).0;
    }

-- one event more
pub tells_next : (old : Running) (items rest rest' : List Event) (number : ℕ) (first text text' : List ℕ) (now next : Running) (e : Event) → Tells old items rest number first text now → rest ≡ e ∷ rest'
    → IsToldOf now (number + 1) e text text' next → Tells old items rest' (number + 1) first text' next
tells_next old items rest rest' number first text text' now next e t here one = record {
  blocks = ap (λ (r : Running). r.blocks) one.is ∙ t.blocks;
  told = next_told;
  last = ap (λ v. world_after shard_meaning old.blocks v (map event_of rest')) world ∙ sym (ap (λ es. world_after shard_meaning old.blocks now.world (map event_of es)) here) ∙ t.last;
  there = there.1;
  encodable = encodable.1;
  counted = omega (arith, t.counted, ap length here);
}
  where
    there : (is_of_one_node e ≡ true) × (list_all is_of_one_node rest' ≡ true)
    there = (let h = rw here at t.there in and_parts (is_of_one_node e) (list_all is_of_one_node rest') h)

    encodable : (asks_encodable e ≡ true) × (list_all asks_encodable rest' ≡ true)
    encodable = (let h = rw here at t.encodable in and_parts (asks_encodable e) (list_all asks_encodable rest') h)

    world : next.world ≡ (happens shard_meaning old.blocks now.world (event_of e)).world
    world = ap (λ (r : Running). r.world) one.is ∙ ap (λ b. (happens shard_meaning b now.world (event_of e)).world) t.blocks

    behind : World ShardState → List ℕ
    behind v = moments_text (number + 1 + 1) rest' (run_from shard_meaning old.blocks v (map event_of rest'))

    moment : List ℕ
    moment = moment_text (number + 1) e (happens shard_meaning old.blocks now.world (event_of e)).effects

    line : text' ≡ text ++ moment_text (number + 1) e (happens shard_meaning old.blocks now.world (event_of e)).effects
    line = one.told ∙ ap (λ b. text ++ moment_text (number + 1) e (happens shard_meaning b now.world (event_of e)).effects) t.blocks

    next_told :
        text' ++ moments_text (number + 1 + 1) rest' (run_from shard_meaning old.blocks next.world (map event_of rest')) ≡ first ++ moments_text 1 items (run_from shard_meaning old.blocks old.world (map event_of items))
    next_told =
        ap (λ v. text' ++ moments_text (number + 1 + 1) rest' (run_from shard_meaning old.blocks v (map event_of rest'))) world
        ∙ ap (λ x. x ++ moments_text (number + 1 + 1) rest' (run_from shard_meaning old.blocks (happens shard_meaning old.blocks now.world (event_of e)).world (map event_of rest'))) line
        ∙ append_assoc text (moment_text (number + 1) e (happens shard_meaning old.blocks now.world (event_of e)).effects) (moments_text (number + 1 + 1) rest' (run_from shard_meaning old.blocks (happens shard_meaning old.blocks now.world (event_of e)).world (map event_of rest')))
        ∙ sym (ap (λ es. text ++ moments_text (number + 1) es (run_from shard_meaning old.blocks now.world (map event_of es))) here) ∙ t.told

-- all events
pub tells_last : (old : Running) (items rest : List Event) (number : ℕ) (first text : List ℕ) (now : Running) → Tells old items rest number first text now → rest ≡ [] → AreToldOf old items first text now
tells_last old items rest number first text now t none = record {
  is = ap (λ b. record { blocks = b; world = now.world }) t.blocks ∙ ap (λ v. record { blocks = old.blocks; world = v }) last;
  told = sym (append-nil text) ∙ sym (ap (λ es. text ++ moments_text (number + 1) es (run_from shard_meaning old.blocks now.world (map event_of es))) none) ∙ t.told;
}
  where
    last : now.world ≡ world_after shard_meaning old.blocks old.world (map event_of items)
    last = sym (ap (λ es. world_after shard_meaning old.blocks now.world (map event_of es)) none) ∙ t.last

-- ---- a schedule

-- the opening, and the world behind the last event
abbrev pub opening_of : ℕ → Running
opening_of blocks = record { blocks = blocks; world = opening_world shard_meaning }

last_is : (s : Schedule) (old now : Running) (first text : List ℕ) → old ≡ opening_of (blocks_of s.first) → AreToldOf old s.events first text now → now.world ≡ last_world s
last_is s old now first text opens all = ap (λ (r : Running). r.world) all.is ∙ ap (λ (r : Running). world_after shard_meaning r.blocks r.world (events_of s)) opens

pub report_is : (s : Schedule) (old now : Running) (text text' : List ℕ) → old ≡ opening_of (blocks_of s.first) → AreToldOf old s.events [] text now → text' ≡ text ++ end_text now.world → text' ≡ report_of s
unfolding report_of
report_is s old now text text' opens all added =
    let whole : text ≡ moments_text 1 s.events (run_of shard_meaning (blocks_of s.first) (events_of s)) =
    all.told ∙ ap (λ (r : Running). moments_text 1 s.events (run_from shard_meaning r.blocks r.world (events_of s))) opens in
    added ∙ ap (λ x. x ++ end_text now.world) whole ∙ ap (λ v. moments_text 1 s.events (run_of shard_meaning (blocks_of s.first) (events_of s)) ++ end_text v) (last_is s old now [] text opens all)

-- the origins of a run stand in the order of its history
abbrev pub RunsInStep : Type 0
RunsInStep =
    (blocks : ℕ) (es : List HappensNext) → AreOfOneNode es
    → AreInStep (world_after shard_meaning blocks (opening_world shard_meaning) es).history (world_after shard_meaning blocks (opening_world shard_meaning) es).origins

pub in_step : (s : Schedule) (old now : Running) (first text : List ℕ) → old ≡ opening_of (blocks_of s.first) → AreToldOf old s.events first text now → RunsInStep → list_all is_of_one_node s.events ≡ true → AreInStep now.world.history now.world.origins
in_step s old now first text opens all law there =
    subst (λ (v : World ShardState). AreInStep v.history v.origins) (sym (last_is s old now first text opens all)) (law (blocks_of s.first) (events_of s) (all_there s.events there))
