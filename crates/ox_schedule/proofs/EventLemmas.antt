-- An event that is read is the one that was written, and the other way round.
use Rattle.std.proofs.Common.{◌≡◌, ◌∙◌, ℕ, true, ◌&&◌, cond, List, [], ◌∷◌, codes, decimal, Ok, Err, inl, inr, refl, ap, subst}
use Rattle.std.specs.Str.{bytes_eq}
use Rattle.std.proofs.lemmas.Bool.{and_parts, and_from}
use Rattle.ox_types.specs.declared.ended.LineRule.TheVariants as rule
use Rattle.ox_wire.specs.declared.event.Image.{Image}
use Rattle.ox_wire.specs.declared.event.Image.TheVariants as image
use Rattle.ox_wire.specs.declared.event.Turn.TheVariants.{Client, Deliver, Tick}
use Rattle.ox_schedule.specs.Events.{Event}
use Rattle.ox_wire.specs.declared.event.Event.TheVariants as event
use Rattle.ox_schedule.specs.declared.schedule.Places.{Places}
use Rattle.ox_schedule.specs.Outcome.{◌>>=◌}
use Rattle.ox_schedule.specs.Shape.{event_fits, is_image}
use Rattle.ox_schedule.specs.Spelling.{is_number, is_call, is_term, names_node, is_seat, is_event, image_word, turn_words, event_words}
use Rattle.ox_schedule.specs.Reading.{word_at, number_of, single_of, call_at, image_of, cut_of, node_of, term_of, seat_of, event_of}
use Rattle.ox_schedule.proofs.Words.{same_bytes, number_is, number_again}
use Rattle.ox_schedule.proofs.Steps.{bind_ok, chosen, then, word_is, options_end_is}
use Rattle.ox_schedule.proofs.Fields.{single_is, single_again}
use Rattle.ox_schedule.proofs.BatchLemmas.{verb_is}
use Rattle.ox_schedule.proofs.TurnLemmas.{node_is, shard_is, node_again, shard_again, turn_found, turn_again, turn_has_shape}

-- ---- cuts

pub call_is : (ws : List (List ℕ)) (x : ℕ × List (List ℕ)) → call_at ws ≡ Ok x → (ws ≡ decimal x.0 ∷ x.1) × (is_number x.0 ≡ true) × (is_call x.0 ≡ true)
unfolding call_at
call_is ws x h =
    let w = bind_ok (word_at ws) (λ w. number_of w.0 >>= λ n. cond (is_call n) (Ok (n, w.1)) (Err rule.Number)) x h in
    let n = bind_ok (number_of w.0.0) (λ n. cond (is_call n) (Ok (n, w.0.1)) (Err rule.Number)) x w.2 in
    elim (chosen (is_call n.0) (Ok (n.0, w.0.1)) (Err rule.Number) (Ok x) n.2) [
      | inl y ↦
          let it : (n.0, w.0.1) ≡ x = cc (y.1) in
          let s = number_is w.0.0 n.0 n.1 in
          subst (λ (q : ℕ × List (List ℕ)). (ws ≡ decimal q.0 ∷ q.1) × (is_number q.0 ≡ true) × (is_call q.0 ≡ true)) it (word_is ws w.0 w.1 ∙ ap (λ (v : List ℕ). v ∷ w.0.1) s.0, s.1, y.0)
      | inr y ↦ absurd (cc (y.1))
    ]

call_again : (n : ℕ) (ws : List (List ℕ)) → is_number n && is_call n ≡ true → call_at (decimal n ∷ ws) ≡ Ok (n, ws)
unfolding call_at
call_again n ws h = let x = and_parts (is_number n) (is_call n) h in rw (number_again n x.0, x.1) refl

image_is : (w : List ℕ) (i : Image) → image_of w ≡ Ok i → w ≡ image_word i
unfolding image_of
image_is w i h =
    elim (chosen (bytes_eq w (codes "none")) _ _ _ h) [
      | inl x ↦ let it : image.Nothing ≡ i = cc (x.1) in same_bytes w _ x.0 ∙ ap image_word it
      | inr x ↦ elim (chosen (bytes_eq w (codes "kept")) _ _ _ x.1) [
        | inl x ↦ let it : image.Kept ≡ i = cc (x.1) in same_bytes w _ x.0 ∙ ap image_word it
        | inr x ↦ elim (chosen (bytes_eq w (codes "torn")) _ _ _ x.1) [
          | inl x ↦ let it : image.Torn ≡ i = cc (x.1) in same_bytes w _ x.0 ∙ ap image_word it
          | inr x ↦ absurd (cc (x.1))
        ]
      ]
    ]

image_again : (i : Image) → image_of (image_word i) ≡ Ok i
unfolding image_of
image_again image.Nothing = refl
image_again image.Kept = refl
image_again image.Torn = refl

abbrev IsSpelt : Places → List (List ℕ) → Event → Type 0
IsSpelt places ws e = (ws ≡ event_words e) × (is_event places e ≡ true)

cut_is : (places : Places) (ws : List (List ℕ)) (e : Event) → cut_of places ws ≡ Ok e → IsSpelt places (codes "cut" ∷ ws) e
unfolding cut_of
cut_is places ws e h =
    let c = bind_ok _ _ _ h in
    let w = bind_ok _ _ _ c.2 in
    let i = bind_ok _ _ _ w.2 in
    let t = bind_ok _ _ _ i.2 in
    let call = call_is ws c.0 c.1 in
    let left = image_is w.0.0 i.0 i.1 in
    let taken = turn_found places w.0.1 t.0 t.1 in
    let it : event.Cut c.0.0 i.0 t.0 ≡ e = cc (t.2) in
    let words : ws ≡ decimal c.0.0 ∷ image_word i.0 ∷ turn_words t.0 = then ws _ _ _ call.0 (then c.0.1 _ _ _ (word_is c.0.1 w.0 w.1 ∙ ap (λ (v : List ℕ). v ∷ w.0.1) left) taken.0) in
    subst (λ (q : Event). IsSpelt places (codes "cut" ∷ ws) q) it
    (ap (λ (t : List (List ℕ)). codes "cut" ∷ t) words, and_from _ _ (and_from _ _ call.1 call.2) taken.1)

-- ---- nodes and terms

node_of_is : (places : Places) (ws : List (List ℕ)) (n : ℕ) → node_of places ws ≡ Ok n → (ws ≡ decimal n ∷ []) × (names_node places n ≡ true)
unfolding node_of
node_of_is places ws n h =
    let a = bind_ok _ _ _ h in
    let e = bind_ok _ _ _ a.2 in
    let node = node_is places ws a.0 a.1 in
    let end : a.0.1 ≡ [] = options_end_is a.0.1 e.0 e.1 in
    let it : a.0.0 ≡ n = cc (e.2) in
    (rw (← it) (then ws _ _ _ node.0 end), rw (← it) (and_from _ _ node.1 node.2))

node_of_again : (places : Places) (n : ℕ) → names_node places n ≡ true → node_of places (decimal n ∷ []) ≡ Ok n
unfolding node_of
node_of_again places n h = rw (node_again places n [] h) refl

term_is : (ws : List (List ℕ)) (n : ℕ) → term_of ws ≡ Ok n → (ws ≡ decimal n ∷ []) × (is_number n && is_term n ≡ true)
unfolding term_of
term_is ws n h =
    let a = bind_ok (single_of ws) (λ n. cond (is_term n) (Ok n) (Err rule.Number)) n h in
    elim (chosen (is_term a.0) (Ok a.0) (Err rule.Number) (Ok n) a.2) [
      | inl y ↦
          let it : a.0 ≡ n = cc (y.1) in
          let s = single_is ws a.0 a.1 in
          subst (λ (q : ℕ). (ws ≡ decimal q ∷ []) × (is_number q && is_term q ≡ true)) it (s.0, and_from _ _ s.1 y.0)
      | inr y ↦ absurd (cc (y.1))
    ]

term_again : (n : ℕ) → is_number n && is_term n ≡ true → term_of (decimal n ∷ []) ≡ Ok n
unfolding term_of
term_again n h = let x = and_parts (is_number n) (is_term n) h in rw (single_again n x.0, x.1) refl

seat_is : (places : Places) (ws : List (List ℕ)) (x : ℕ × ℕ × ℕ) → seat_of places ws ≡ Ok x → (ws ≡ decimal x.0 ∷ decimal x.1 ∷ decimal x.2 ∷ []) × (is_seat places x.0 x.1 x.2 ≡ true)
unfolding seat_of
seat_is places ws x h =
    let n = bind_ok _ _ _ h in
    let s = bind_ok _ _ _ n.2 in
    let t = bind_ok _ _ _ s.2 in
    let node = node_is places ws n.0 n.1 in
    let shard = shard_is places n.0.1 s.0 s.1 in
    let term = term_is s.0.1 t.0 t.1 in
    let it : (n.0.0, s.0.0, t.0) ≡ x = cc (t.2) in
    let words : ws ≡ decimal n.0.0 ∷ decimal s.0.0 ∷ decimal t.0 ∷ [] = then ws _ _ _ node.0 (then n.0.1 _ _ _ shard.0 term.0) in
    subst (λ (q : ℕ × ℕ × ℕ). (ws ≡ decimal q.0 ∷ decimal q.1 ∷ decimal q.2 ∷ []) × (is_seat places q.0 q.1 q.2 ≡ true)) it
    (words, and_from _ _ (and_from _ _ (and_from _ _ node.1 node.2) (and_from _ _ shard.1 shard.2)) term.1)

seat_again : (places : Places) (node shard term : ℕ) → is_seat places node shard term ≡ true → seat_of places (decimal node ∷ decimal shard ∷ decimal term ∷ []) ≡ Ok (node, shard, term)
unfolding seat_of
seat_again places node shard term h =
    let a = and_parts _ _ h in
    let b = and_parts _ _ a.0 in
    rw (node_again places node (decimal shard ∷ decimal term ∷ []) b.0, shard_again places shard (decimal term ∷ []) b.1, term_again term a.1) refl

-- ---- events

pub event_found : (places : Places) (ws : List (List ℕ)) (e : Event) → event_of places ws ≡ Ok e → (ws ≡ event_words e) × (is_event places e ≡ true)
unfolding event_of
event_found places ws e h =
    let w = bind_ok _ _ _ h in
    let word = word_is ws w.0 w.1 in
    elim (chosen (bytes_eq w.0.0 (codes "cut")) _ _ _ w.2) [
      | inl x ↦
          let c = cut_is places w.0.1 e x.1 in
          (verb_is ws w.0.0 _ w.0.1 _ word x.0 refl ∙ c.0, c.1)
      | inr x ↦ elim (chosen (bytes_eq w.0.0 (codes "stop")) _ _ _ x.1) [
        | inl x ↦
            let n = bind_ok _ _ _ x.1 in
            let it : event.Stop n.0 ≡ e = cc (n.2) in
            let s = node_of_is places w.0.1 n.0 n.1 in
            subst (λ (q : Event). IsSpelt places ws q) it (verb_is ws w.0.0 _ w.0.1 _ word x.0 s.0, s.1)
        | inr x ↦ elim (chosen (bytes_eq w.0.0 (codes "start")) _ _ _ x.1) [
          | inl x ↦
              let n = bind_ok _ _ _ x.1 in
              let it : event.Start n.0 ≡ e = cc (n.2) in
              let s = node_of_is places w.0.1 n.0 n.1 in
              subst (λ (q : Event). IsSpelt places ws q) it (verb_is ws w.0.0 _ w.0.1 _ word x.0 s.0, s.1)
          | inr x ↦ elim (chosen (bytes_eq w.0.0 (codes "lose")) _ _ _ x.1) [
            | inl x ↦
                let n = bind_ok _ _ _ x.1 in
                let it : event.Lose n.0 ≡ e = cc (n.2) in
                let s = node_of_is places w.0.1 n.0 n.1 in
                subst (λ (q : Event). IsSpelt places ws q) it (verb_is ws w.0.0 _ w.0.1 _ word x.0 s.0, s.1)
            | inr x ↦ elim (chosen (bytes_eq w.0.0 (codes "fence")) _ _ _ x.1) [
              | inl x ↦
                  let n = bind_ok _ _ _ x.1 in
                  let it : event.Fence n.0.0 n.0.1 n.0.2 ≡ e = cc (n.2) in
                  let s = seat_is places w.0.1 n.0 n.1 in
                  subst (λ (q : Event). IsSpelt places ws q) it (verb_is ws w.0.0 _ w.0.1 _ word x.0 s.0, s.1)
              | inr x ↦ elim (chosen (bytes_eq w.0.0 (codes "lead")) _ _ _ x.1) [
                | inl x ↦
                    let n = bind_ok _ _ _ x.1 in
                    let it : event.Lead n.0.0 n.0.1 n.0.2 ≡ e = cc (n.2) in
                    let s = seat_is places w.0.1 n.0 n.1 in
                    subst (λ (q : Event). IsSpelt places ws q) it (verb_is ws w.0.0 _ w.0.1 _ word x.0 s.0, s.1)
                | inr x ↦
                    let t = bind_ok _ _ _ x.1 in
                    let it : event.Takes t.0 ≡ e = cc (t.2) in
                    subst (λ (q : Event). IsSpelt places ws q) it (turn_found places ws t.0 t.1)
              ]
            ]
          ]
        ]
      ]
    ]

pub event_again : (places : Places) (e : Event) → is_event places e ≡ true → event_of places (event_words e) ≡ Ok e
unfolding event_of cut_of
event_again places (event.Takes (Client node shard r)) h = rw (turn_again places (Client node shard r) h) refl
event_again places (event.Takes (Deliver message)) h = rw (turn_again places (Deliver message) h) refl
event_again places (event.Takes (Tick node shard ms)) h = rw (turn_again places (Tick node shard ms) h) refl
event_again places (event.Cut call i t) h =
    let x = and_parts _ _ h in
    rw (call_again call (image_word i ∷ turn_words t) x.0, image_again i, turn_again places t x.1) refl
event_again places (event.Stop node) h = rw (node_of_again places node h) refl
event_again places (event.Start node) h = rw (node_of_again places node h) refl
event_again places (event.Lose node) h = rw (node_of_again places node h) refl
event_again places (event.Fence node shard term) h = rw (seat_again places node shard term h) refl
event_again places (event.Lead node shard term) h = rw (seat_again places node shard term h) refl

-- ---- their shape

image_has_shape : (i : Image) → is_image (image_word i) ≡ true
image_has_shape image.Nothing = refl
image_has_shape image.Kept = refl
image_has_shape image.Torn = refl

pub event_has_shape : (places : Places) (e : Event) → is_event places e ≡ true → event_fits (event_words e) ≡ true
unfolding event_fits
event_has_shape places (event.Takes (Client node shard r)) h = turn_has_shape places (Client node shard r) h
event_has_shape places (event.Takes (Deliver message)) h = turn_has_shape places (Deliver message) h
event_has_shape places (event.Takes (Tick node shard ms)) h = turn_has_shape places (Tick node shard ms) h
event_has_shape places (event.Cut call i t) h = and_from _ _ (image_has_shape i) (turn_has_shape places t (and_parts _ _ h).1)
event_has_shape places (event.Stop node) h = refl
event_has_shape places (event.Start node) h = refl
event_has_shape places (event.Lose node) h = refl
event_has_shape places (event.Fence node shard term) h = refl
event_has_shape places (event.Lead node shard term) h = refl
