-- The reader of a schedule answers one exactly where the bytes spell it.
use Rattle.std.proofs.Common.{◌≡◌, ◌∙◌, ℕ, ◌+◌, ◌^◌, true, false, not, leb, Option, Some, None, eqb, cond, List, [], ◌∷◌, ◌++◌, length, map, codes, decimal, Result, Ok, Err, inl, inr, refl, sym, ap, subst, arith, append_assoc}
use Rattle.std.specs.List.{list_all, join_with_byte}
use Rattle.std.specs.Str.{bytes_eq}
use Rattle.std.proofs.lemmas.Bool.{eqb-true, leb-true, lt-ltb, and_parts, and_from}
use Rattle.ox_types.specs.declared.ended.LineRule.{LineRule}
use Rattle.ox_types.specs.declared.ended.LineRule.TheVariants as rule
use Rattle.ox_schedule.specs.Events.{Event}
use Rattle.ox_schedule.specs.declared.schedule.Places.{Places}
use Rattle.ox_schedule.specs.declared.schedule.First.{First}
use Rattle.ox_schedule.specs.declared.schedule.First.TheVariants.{Solo}
use Rattle.ox_schedule.specs.declared.schedule.Schedule.{Schedule}
use Rattle.ox_schedule.specs.declared.fault.ScheduleFault.{ScheduleFault}
use Rattle.std.specs.Prelude.{IfOk}
use Rattle.ox_schedule.specs.Outcome.{◌>>=◌}
use Rattle.ox_schedule.specs.Spelling.{is_number, is_event, event_line, is_word, words_of, SpellsEvent}
use Rattle.ox_schedule.specs.Reading.{number_of, line_at}
use Rattle.ox_schedule.specs.Schedule.{Answers, SpellsSchedule, lines_of, places_of, is_block_count, is_first, room_words, first_words, first_line, at_line, with_front, event_then, events_at, shard_count_of, block_count_of, solo_of, first_of, first_at, schedule_with, behind_first, schedule_in, schedule_at}
use Rattle.ox_schedule.proofs.Words.{same_bytes, number_is, number_again}
use Rattle.ox_schedule.proofs.Steps.{bind_ok, chosen}
use Rattle.ox_schedule.proofs.JoinLemmas.{words_joined, line_joined, some_line}
use Rattle.ox_schedule.proofs.LineLemmas.{line_found, line_again}
use Rattle.ox_schedule.proofs.WordLemmas.{number_is_word}

pub with_more : (es : List Event) (e : Event) (r : Result (List Event) (ℕ × LineRule)) → with_front es (with_front (e ∷ []) r) ≡ with_front (es ++ e ∷ []) r
with_more es e (Ok fs) = ap (λ (t : List Event). Ok t) (sym (append_assoc es (e ∷ []) fs))
with_more es e (Err bad) = refl

-- ---- events

events_found : (p : Places) (n : ℕ) (lines : List (List ℕ)) (es : List Event) → events_at p n lines ≡ Ok es → (lines ≡ map event_line es) × (list_all (is_event p) es ≡ true)
events_found p n [] es h = let it : [] ≡ es = cc in subst (λ (t : List Event). ([] ≡ map event_line t) × (list_all (is_event p) t ≡ true)) it (refl, refl)
events_found p n (line ∷ lines) es h = by_parts (line_at p line) (events_at p (n + 1) lines) (λ e. line_found p line e) (λ fs. events_found p (n + 1) lines fs) h
  where
    by_parts : (r : Result Event LineRule) (others : Result (List Event) (ℕ × LineRule)) → ((e : Event) → r ≡ Ok e → SpellsEvent p line e) → ((fs : List Event) → others ≡ Ok fs → (lines ≡ map event_line fs) × (list_all (is_event p) fs ≡ true)) → event_then (at_line n r) others ≡ Ok es → (line ∷ lines ≡ map event_line es) × (list_all (is_event p) es ≡ true)
    by_parts (Err broken) others first rest h = absurd cc
    by_parts (Ok e) (Err bad) first rest h = absurd cc
    by_parts (Ok e) (Ok fs) first rest h =
        let it : e ∷ fs ≡ es = cc in
        let a = first e refl in
        let b = rest fs refl in
        subst (λ (t : List Event). (line ∷ lines ≡ map event_line t) × (list_all (is_event p) t ≡ true)) it
        (ap (λ (w : List ℕ). w ∷ lines) a.same ∙ ap (λ (t : List (List ℕ)). event_line e ∷ t) b.0, and_from _ _ a.lawful b.1)

events_again : (p : Places) (n : ℕ) (lines : List (List ℕ)) (es : List Event) → lines ≡ map event_line es → list_all (is_event p) es ≡ true → events_at p n lines ≡ Ok es
events_again p n [] [] same h = refl
events_again p n [] (e ∷ es) same h = absurd cc
events_again p n (line ∷ lines) [] same h = absurd cc
events_again p n (line ∷ lines) (e ∷ es) same h =
    let x = and_parts (is_event p e) _ h in
    let first : line ≡ event_line e = cc in
    let rest : lines ≡ map event_line es = cc in
    rw (line_again p line e (record { lawful = x.0; same = first }), events_again p (n + 1) lines es rest x.1) refl

-- ---- the first line

shard_count_is : (w : List ℕ) (n : ℕ) → shard_count_of w ≡ Ok n → (w ≡ decimal n) × (eqb n 1 ≡ true)
unfolding shard_count_of
shard_count_is w n h =
    let s = bind_ok (number_of w) (λ n. cond (eqb n 1) (Ok n) (Err rule.Number)) n h in
    elim (chosen (eqb s.0 1) (Ok s.0) (Err rule.Number) (Ok n) s.2) [
      | inl y ↦ let it : s.0 ≡ n = cc (y.1) in subst (λ (q : ℕ). (w ≡ decimal q) × (eqb q 1 ≡ true)) it ((number_is w s.0 s.1).0, y.0)
      | inr y ↦ absurd (cc (y.1))
    ]

block_count_is : (w : List ℕ) (n : ℕ) → block_count_of w ≡ Ok n → (w ≡ decimal n) × (is_block_count n ≡ true)
unfolding block_count_of
block_count_is w n h =
    let s = bind_ok (number_of w) (λ n. cond (is_block_count n) (Ok n) (Err rule.Number)) n h in
    elim (chosen (is_block_count s.0) (Ok s.0) (Err rule.Number) (Ok n) s.2) [
      | inl y ↦ let it : s.0 ≡ n = cc (y.1) in subst (λ (q : ℕ). (w ≡ decimal q) × (is_block_count q ≡ true)) it ((number_is w s.0 s.1).0, y.0)
      | inr y ↦ absurd (cc (y.1))
    ]

solo_is : (ws : List (List ℕ)) (f : First) → solo_of ws ≡ Ok f → (codes "solo" ∷ ws ≡ first_words f) × (is_first f ≡ true)
unfolding solo_of
solo_is [] f h = absurd cc
solo_is (w ∷ []) f h =
    let s = bind_ok (shard_count_of w) (λ shards. Ok (Solo shards None)) f h in
    let it : Solo s.0 None ≡ f = cc (s.2) in
    let k = shard_count_is w s.0 s.1 in
    subst (λ (g : First). (codes "solo" ∷ w ∷ [] ≡ first_words g) × (is_first g ≡ true)) it
    (ap (λ (v : List ℕ). codes "solo" ∷ v ∷ []) k.0, and_from _ true k.1 refl)
solo_is (w ∷ b ∷ []) f h =
    let s = bind_ok (shard_count_of w) (λ shards. block_count_of b >>= λ n. Ok (Solo shards (Some n))) f h in
    let n = bind_ok (block_count_of b) (λ n. Ok (Solo s.0 (Some n))) f s.2 in
    let it : Solo s.0 (Some n.0) ≡ f = cc (n.2) in
    let k = shard_count_is w s.0 s.1 in
    let m = block_count_is b n.0 n.1 in
    subst (λ (g : First). (codes "solo" ∷ w ∷ b ∷ [] ≡ first_words g) × (is_first g ≡ true)) it
    (ap (λ (v : List ℕ). codes "solo" ∷ v ∷ b ∷ []) k.0 ∙ ap (λ (v : List ℕ). codes "solo" ∷ decimal s.0 ∷ v ∷ []) m.0, and_from _ _ k.1 m.1)
solo_is (w ∷ b ∷ x ∷ ws) f h = absurd cc

first_of_is : (ws : List (List ℕ)) (f : First) → first_of ws ≡ Ok f → (ws ≡ first_words f) × (is_first f ≡ true)
unfolding first_of
first_of_is [] f h = absurd cc
first_of_is (w ∷ ws) f h =
    elim (chosen (bytes_eq w (codes "solo")) (solo_of ws) (Err rule.First) (Ok f) h) [
      | inl x ↦ let k = solo_is ws f x.1 in (ap (λ (v : List ℕ). v ∷ ws) (same_bytes w (codes "solo") x.0) ∙ k.0, k.1)
      | inr x ↦ absurd (cc (x.1))
    ]

found : (line : List ℕ) (f : First) → first_of (words_of line) ≡ Ok f → (line ≡ first_line f) × (is_first f ≡ true)
unfolding first_line
found line f h = let x = first_of_is (words_of line) f h in (line_joined line ∙ ap (join_with_byte 32) x.0, x.1)

pub first_found : (line : List ℕ) (f : First) → first_at line ≡ Ok f → (line ≡ first_line f) × (is_first f ≡ true)
unfolding first_at
first_found line f h =
    elim (chosen (eqb (length line) 0) (Err rule.First) (cond (not (list_all is_word (words_of line))) (Err rule.Bytes) (first_of (words_of line))) (Ok f) h) [
      | inl x ↦ absurd (cc (x.1))
      | inr x ↦ elim (chosen (not (list_all is_word (words_of line))) (Err rule.Bytes) (first_of (words_of line)) (Ok f) x.1) [
        | inl x ↦ absurd (cc (x.1))
        | inr x ↦ found line f x.1
      ]
    ]

small_count : (n : ℕ) → is_block_count n ≡ true → is_number n ≡ true
small_count n h = lt-ltb n (2 ^ 64) (omega (arith, leb-true n 65536 (and_parts (leb 8 n) (leb n 65536) h).1))

shard_count_again : (s : ℕ) → eqb s 1 ≡ true → (is_number s ≡ true) × (shard_count_of (decimal s) ≡ Ok s)
unfolding shard_count_of
shard_count_again s h = let one : s ≡ 1 = eqb-true s 1 h in let small : is_number s ≡ true = subst (λ (n : ℕ). is_number n ≡ true) (sym one) refl in (small, rw (number_again s small, h) refl)

block_count_again : (n : ℕ) → is_block_count n ≡ true → block_count_of (decimal n) ≡ Ok n
unfolding block_count_of
block_count_again n h = rw (number_again n (small_count n h), h) refl

solo_again : (s : ℕ) (b : Option ℕ) → is_first (Solo s b) ≡ true → (list_all is_word (first_words (Solo s b)) ≡ true) × (first_of (first_words (Solo s b)) ≡ Ok (Solo s b))
unfolding first_of solo_of
solo_again s None h =
    let x = and_parts (eqb s 1) true h in
    let k = shard_count_again s x.0 in
    (rw (number_is_word s k.0) refl, rw k.1 refl)
solo_again s (Some n) h =
    let x = and_parts (eqb s 1) (is_block_count n) h in
    let k = shard_count_again s x.0 in
    (rw (number_is_word s k.0, number_is_word n (small_count n x.1)) refl, rw (k.1, block_count_again n x.1) refl)

first_split : (s : ℕ) (b : Option ℕ) → list_all is_word (first_words (Solo s b)) ≡ true → words_of (first_line (Solo s b)) ≡ first_words (Solo s b)
unfolding first_line
first_split s b h = words_joined (first_words (Solo s b)) (omega arith) h

first_some : (s : ℕ) (b : Option ℕ) → eqb (length (first_line (Solo s b))) 0 ≡ false
unfolding first_line
first_some s b = some_line (codes "solo") (decimal s) (room_words b)

pub own_first : (f : First) → is_first f ≡ true → first_at (first_line f) ≡ Ok f
unfolding first_at
own_first (Solo s b) h = let x = solo_again s b h in rw (first_some s b, first_split s b x.0, x.0, x.1) refl

first_again : (line : List ℕ) (f : First) → line ≡ first_line f → is_first f ≡ true → first_at line ≡ Ok f
first_again line f same h = subst (λ (l : List ℕ). first_at l ≡ Ok f) (sym same) (own_first f h)

-- ---- schedules

in_found : (lines : List (List ℕ)) (s : Schedule) → schedule_in lines ≡ Ok s → (lines ≡ first_line s.first ∷ map event_line s.events) × (is_first s.first ≡ true) × (list_all (is_event (places_of s.first)) s.events ≡ true)
in_found [] s h = absurd cc
in_found (line ∷ lines) s h = by_first (first_at line) (first_found line) h
  where
    by_events : (f : First) (r : Result (List Event) (ℕ × LineRule)) → ((es : List Event) → r ≡ Ok es → (lines ≡ map event_line es) × (list_all (is_event (places_of f)) es ≡ true)) → line ≡ first_line f → is_first f ≡ true → schedule_with f r ≡ Ok s → (line ∷ lines ≡ first_line s.first ∷ map event_line s.events) × (is_first s.first ≡ true) × (list_all (is_event (places_of s.first)) s.events ≡ true)
    by_events f (Err bad) known same lawful h = absurd cc
    by_events f (Ok es) known same lawful h =
        let it : record { first = f; events = es } ≡ s = cc in
        let k = known es refl in
        subst (λ (t : Schedule). (line ∷ lines ≡ first_line t.first ∷ map event_line t.events) × (is_first t.first ≡ true) × (list_all (is_event (places_of t.first)) t.events ≡ true)) it
        (ap (λ (w : List ℕ). w ∷ lines) same ∙ ap (λ (t : List (List ℕ)). first_line f ∷ t) k.0, lawful, k.1)

    by_first : (r : Result First LineRule) → ((f : First) → r ≡ Ok f → (line ≡ first_line f) × (is_first f ≡ true)) → behind_first (at_line 1 r) lines ≡ Ok s → (line ∷ lines ≡ first_line s.first ∷ map event_line s.events) × (is_first s.first ≡ true) × (list_all (is_event (places_of s.first)) s.events ≡ true)
    by_first (Err broken) known h = absurd cc
    by_first (Ok f) known h = let k = known f refl in by_events f (events_at (places_of f) 2 lines) (λ es. events_found (places_of f) 2 lines es) k.0 k.1 h

in_again : (lines : List (List ℕ)) (s : Schedule) → lines ≡ first_line s.first ∷ map event_line s.events → is_first s.first ≡ true → list_all (is_event (places_of s.first)) s.events ≡ true → schedule_in lines ≡ Ok s
in_again [] s same f l = absurd cc
in_again (line ∷ lines) s same f l =
    let first : line ≡ first_line s.first = cc in
    let rest : lines ≡ map event_line s.events = cc in
    rw (first_again line s.first first f, events_again (places_of s.first) 2 lines s.events rest l) refl

pub schedule_found : (bytes : List ℕ) (s : Schedule) → schedule_at bytes ≡ Ok s → SpellsSchedule bytes s
schedule_found bytes s h = let k = in_found (lines_of bytes) s h in record { valid = record { first = k.1; lawful = k.2 }; same = k.0 }

pub schedule_again : (bytes : List ℕ) (s : Schedule) → SpellsSchedule bytes s → schedule_at bytes ≡ Ok s
schedule_again bytes s h = in_again (lines_of bytes) s h.same h.valid.first h.valid.lawful

pub answers_found : (bytes : List ℕ) (r : Result Schedule ScheduleFault) → Answers r (schedule_at bytes) → IfOk r (λ s. SpellsSchedule bytes s)
answers_found bytes (Ok s) h = schedule_found bytes s h
answers_found bytes (Err e) h = tt

pub answers_only : (bytes : List ℕ) (r : Result Schedule ScheduleFault) → Answers r (schedule_at bytes) → (s : Schedule) → SpellsSchedule bytes s → Answers r (Ok s)
answers_only bytes r h s spelt = subst (λ (q : Result Schedule (ℕ × LineRule)). Answers r q) (schedule_again bytes s spelt) h

-- a text spells one schedule at most
pub one_schedule : (bytes : List ℕ) (s t : Schedule) → SpellsSchedule bytes s → SpellsSchedule bytes t → s ≡ t
one_schedule bytes s t h k =
    let same : Ok s ≡ Ok t = sym (schedule_again bytes s h) ∙ schedule_again bytes t k in
    cc

-- where reading finds a bad line, no schedule is spelt
pub unspelt : (bytes : List ℕ) (bad : ℕ × LineRule) → schedule_at bytes ≡ Err bad → (s : Schedule) → SpellsSchedule bytes s → ⊥
unspelt bytes bad h s k =
    let never : Err bad ≡ Ok s = sym h ∙ schedule_again bytes s k in
    cc
