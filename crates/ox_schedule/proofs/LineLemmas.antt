-- The reader of a line answers an event exactly where the line spells it.
use Rattle.std.proofs.Common.{◌≡◌, ◌∙◌, ℕ, true, false, not, codes, decimal, eqb, cond, List, [], ◌∷◌, length, ◌<◌, Ok, Err, inl, inr, refl, sym, ap, subst, arith}
use Rattle.std.specs.List.{list_all, join_with_byte}
use Rattle.ox_types.specs.declared.ended.LineRule.TheVariants as rule
use Rattle.ox_schedule.specs.Events.{Event}
use Rattle.ox_wire.specs.declared.event.Event.TheVariants as event
use Rattle.ox_wire.specs.declared.event.Turn.TheVariants.{Client, Deliver, Tick}
use Rattle.ox_schedule.specs.declared.schedule.Places.{Places}
use Rattle.ox_schedule.specs.Shape.{event_fits}
use Rattle.ox_schedule.specs.Spelling.{is_event, is_word, words_of, request_words, image_word, turn_words, event_words, event_line, SpellsEvent}
use Rattle.ox_schedule.specs.Reading.{event_of, line_at}
use Rattle.ox_schedule.proofs.Steps.{chosen}
use Rattle.ox_schedule.proofs.EventLemmas.{event_found, event_again, event_has_shape}
use Rattle.ox_schedule.proofs.WordLemmas.{event_are_words}
use Rattle.ox_schedule.proofs.JoinLemmas.{words_joined, line_joined, some_line}

found : (places : Places) (line : List ℕ) (e : Event) → event_of places (words_of line) ≡ Ok e → SpellsEvent places line e
unfolding event_line
found places line e h =
    let x = event_found places (words_of line) e h in
    record { lawful = x.1; same = line_joined line ∙ ap (join_with_byte 32) x.0 }

pub line_found : (places : Places) (line : List ℕ) (e : Event) → line_at places line ≡ Ok e → SpellsEvent places line e
unfolding line_at
line_found places line e h =
    elim (chosen (eqb (length line) 0) (Err rule.Word) (cond (not (list_all is_word (words_of line))) (Err rule.Bytes) (cond (event_fits (words_of line)) (event_of places (words_of line)) (Err rule.Word))) (Ok e) h) [
      | inl x ↦ absurd (cc (x.1))
      | inr x ↦ elim (chosen (not (list_all is_word (words_of line))) (Err rule.Bytes) (cond (event_fits (words_of line)) (event_of places (words_of line)) (Err rule.Word)) (Ok e) x.1) [
        | inl x ↦ absurd (cc (x.1))
        | inr x ↦ elim (chosen (event_fits (words_of line)) (event_of places (words_of line)) (Err rule.Word) (Ok e) x.1) [
          | inl x ↦ found places line e x.1
          | inr x ↦ absurd (cc (x.1))
        ]
      ]
    ]

-- an event has a word
some_words : (e : Event) → 0 < length (event_words e)
some_words (event.Takes (Client node shard r)) = omega arith
some_words (event.Takes (Deliver message)) = omega arith
some_words (event.Takes (Tick node shard ms)) = omega arith
some_words (event.Cut call i t) = omega arith
some_words (event.Stop node) = omega arith
some_words (event.Start node) = omega arith
some_words (event.Lose node) = omega arith
some_words (event.Fence node shard term) = omega arith
some_words (event.Lead node shard term) = omega arith

-- the words of an event's line are the event's
pub event_split : (places : Places) (e : Event) → is_event places e ≡ true → words_of (event_line e) ≡ event_words e
unfolding event_line
event_split places e h = words_joined (event_words e) (some_words e) (event_are_words places e h)

event_some : (e : Event) → eqb (length (event_line e)) 0 ≡ false
unfolding event_line
event_some (event.Takes (Client node shard r)) = some_line (codes "client") (decimal node) (decimal shard ∷ request_words r)
event_some (event.Takes (Deliver message)) = some_line (codes "deliver") (decimal message) []
event_some (event.Takes (Tick node shard ms)) = some_line (codes "tick") (decimal node) (decimal shard ∷ decimal ms ∷ [])
event_some (event.Cut call i t) = some_line (codes "cut") (decimal call) (image_word i ∷ turn_words t)
event_some (event.Stop node) = some_line (codes "stop") (decimal node) []
event_some (event.Start node) = some_line (codes "start") (decimal node) []
event_some (event.Lose node) = some_line (codes "lose") (decimal node) []
event_some (event.Fence node shard term) = some_line (codes "fence") (decimal node) (decimal shard ∷ decimal term ∷ [])
event_some (event.Lead node shard term) = some_line (codes "lead") (decimal node) (decimal shard ∷ decimal term ∷ [])

pub own_line : (places : Places) (e : Event) → is_event places e ≡ true → line_at places (event_line e) ≡ Ok e
unfolding line_at
own_line places e h = rw (event_some e, event_split places e h, event_are_words places e h, event_has_shape places e h, event_again places e h) refl

pub line_again : (places : Places) (line : List ℕ) (e : Event) → SpellsEvent places line e → line_at places line ≡ Ok e
line_again places line e s = subst (λ (l : List ℕ). line_at places l ≡ Ok e) (sym s.same) (own_line places e s.lawful)
