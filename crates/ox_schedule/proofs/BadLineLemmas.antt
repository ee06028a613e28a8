-- Where reading fails, it tells the first bad line, and the other way round.
use Rattle.std.proofs.Common.{◌≡◌, ◌∙◌, ℕ, suc, ◌+◌, true, List, [], ◌∷◌, ◌++◌, length, map, Result, Ok, Err, ◌⊎◌, inl, inr, refl, sym, ap, arith}
use Rattle.std.specs.Prelude.{IfErr}
use Rattle.std.specs.List.{list_all}
use Rattle.std.proofs.lemmas.Bool.{and_parts, and_from}
use Rattle.ox_types.specs.declared.ended.LineRule.{LineRule}
use Rattle.ox_types.specs.declared.ended.LineRule.TheVariants as rule
use Rattle.ox_schedule.specs.declared.fault.ScheduleFault.{ScheduleFault}
use Rattle.ox_schedule.specs.declared.fault.ScheduleFault.TheVariants as fault
use Rattle.ox_schedule.specs.Events.{Event}
use Rattle.ox_schedule.specs.declared.schedule.Places.{Places}
use Rattle.ox_schedule.specs.declared.schedule.First.{First}
use Rattle.ox_schedule.specs.declared.schedule.Schedule.{Schedule}
use Rattle.ox_schedule.specs.Spelling.{is_event, event_line}
use Rattle.ox_schedule.specs.Reading.{line_at}
use Rattle.ox_schedule.specs.Schedule.{Answers, IsFaultOf, lines_of, places_of, is_first, first_line, at_line, event_then, events_at, first_at, schedule_with, behind_first, schedule_in, schedule_at, first_text, IsFirstBadLine}
use Rattle.ox_schedule.proofs.LineLemmas.{line_found, own_line}
use Rattle.ox_schedule.proofs.ScheduleLemmas.{first_found, own_first}

-- the fault that was told
told : (A : Type 0) (a b : ℕ) (r q : LineRule) → (let x : Result A (ℕ × LineRule) = Err (a, r) in x) ≡ Err (b, q) → (a ≡ b) × (r ≡ q)
told A a b r q e = let p : let x : ℕ × LineRule = (a, r) in x ≡ (b, q) = cc in (ap (λ (x : ℕ × LineRule). x.0) p, ap (λ (x : ℕ × LineRule). x.1) p)

-- ---- events

record BreaksAmong (p : Places) (from : ℕ) (lines : List (List ℕ)) (number : ℕ) (broken : LineRule) : Type 0 where
  pub events : List Event
  pub line : List ℕ
  pub rest : List (List ℕ)
  pub lawful : list_all (is_event p) events ≡ true
  pub same : lines ≡ map event_line events ++ line ∷ rest
  pub number_is : number ≡ length events + from
  pub rule_is : line_at p line ≡ Err broken

events_bad : (p : Places) (k : ℕ) (lines : List (List ℕ)) (n : ℕ) (r : LineRule) → events_at p k lines ≡ Err (n, r) → BreaksAmong p k lines n r
events_bad p k [] n r h = absurd cc
events_bad p k (line ∷ lines) n r h = by_parts (line_at p line) (events_at p (k + 1) lines) refl (λ m q. events_bad p (k + 1) lines m q) h
  where
    by_parts : (x : Result Event LineRule) (others : Result (List Event) (ℕ × LineRule)) → line_at p line ≡ x → ((m : ℕ) (q : LineRule) → others ≡ Err (m, q) → BreaksAmong p (k + 1) lines m q) → event_then (at_line k x) others ≡ Err (n, r) → BreaksAmong p k (line ∷ lines) n r
    by_parts (Err broken) others read known h =
        let t = told (List Event) k n broken r h in
        record { events = []; line = line; rest = lines; lawful = refl; same = refl; number_is = omega (arith, t.0); rule_is = read ∙ ap (λ (q : LineRule). Err q) t.1 }
    by_parts (Ok e) (Ok fs) read known h = absurd cc
    by_parts (Ok e) (Err bad) read known h =
        let it : Err bad ≡ Err (n, r) = cc in
        let b = known n r it in
        let s = line_found p line e read in
        record {
          events = e ∷ b.events;
          line = b.line;
          rest = b.rest;
          lawful = and_from _ _ s.lawful b.lawful;
          same = ap (λ (l : List ℕ). l ∷ lines) s.same ∙ ap (λ (ls : List (List ℕ)). event_line e ∷ ls) b.same;
          number_is = omega (arith, b.number_is);
          rule_is = b.rule_is;
        }

events_broken : (p : Places) (k : ℕ) (es : List Event) (line : List ℕ) (rest : List (List ℕ)) (r : LineRule) → list_all (is_event p) es ≡ true → line_at p line ≡ Err r → events_at p k (map event_line es ++ line ∷ rest) ≡ Err (length es + k, r)
events_broken p k [] line rest r h e = let none : k ≡ 0 + k = omega arith in rw e (ap (λ (n : ℕ). Err (n, r)) none)
events_broken p k (x ∷ es) line rest r h e =
    let b = and_parts (is_event p x) _ h in
    let number : length es + (k + 1) ≡ suc (length es) + k = omega arith in
    rw (own_line p x b.0, events_broken p (k + 1) es line rest r b.1 e) (ap (λ (n : ℕ). Err (n, r)) number)

-- ---- schedules

in_bad : (lines : List (List ℕ)) (n : ℕ) (r : LineRule) → schedule_in lines ≡ Err (n, r) → ((n ≡ 1) × (first_at (first_text lines) ≡ Err r)) ⊎ ((f : First) × (line : List ℕ) × (rest : List (List ℕ)) × (lines ≡ line ∷ rest) × (line ≡ first_line f) × (is_first f ≡ true) × BreaksAmong (places_of f) 2 rest n r)
unfolding first_at
in_bad [] n r h = let t = told Schedule 1 n rule.First r h in inl (sym t.0, ap (λ (q : LineRule). Err q) t.1)
in_bad (line ∷ lines) n r h = by_first (first_at line) refl h
  where
    by_events : (f : First) (x : Result (List Event) (ℕ × LineRule)) → ((m : ℕ) (q : LineRule) → x ≡ Err (m, q) → BreaksAmong (places_of f) 2 lines m q) → schedule_with f x ≡ Err (n, r) → BreaksAmong (places_of f) 2 lines n r
    by_events f (Ok es) known h = absurd cc
    by_events f (Err bad) known h = known n r cc

    by_first : (x : Result First LineRule) → first_at line ≡ x → behind_first (at_line 1 x) lines ≡ Err (n, r) → ((n ≡ 1) × (first_at line ≡ Err r)) ⊎ ((f : First) × (l : List ℕ) × (rest : List (List ℕ)) × (line ∷ lines ≡ l ∷ rest) × (l ≡ first_line f) × (is_first f ≡ true) × BreaksAmong (places_of f) 2 rest n r)
    by_first (Err broken) read h = let t = told Schedule 1 n broken r h in inl (sym t.0, read ∙ ap (λ (q : LineRule). Err q) t.1)
    by_first (Ok f) read h =
        let k = first_found line f read in
        inr (f, line, lines, refl, k.0, k.1, by_events f (events_at (places_of f) 2 lines) (λ m q. events_bad (places_of f) 2 lines m q) h)

pub bad_found : (bytes : List ℕ) (n : ℕ) (r : LineRule) → schedule_at bytes ≡ Err (n, r) → IsFirstBadLine bytes n r
bad_found bytes n r h = by_cases (in_bad (lines_of bytes) n r h)
  where
    by_cases : ((n ≡ 1) × (first_at (first_text (lines_of bytes)) ≡ Err r)) ⊎ ((f : First) × (line : List ℕ) × (rest : List (List ℕ)) × (lines_of bytes ≡ line ∷ rest) × (line ≡ first_line f) × (is_first f ≡ true) × BreaksAmong (places_of f) 2 rest n r) → IsFirstBadLine bytes n r
    by_cases (inl x) = inl (record { number_is = x.0; rule_is = x.1 })
    by_cases (inr (f, line, rest, lines, same, first, b)) = inr (record {
      front = record { first = f; events = b.events };
      line = b.line;
      rest = b.rest;
      valid = record { first = first; lawful = b.lawful };
      lines = lines ∙ ap (λ (l : List ℕ). l ∷ rest) same ∙ ap (λ (ls : List (List ℕ)). first_line f ∷ ls) b.same;
      number_is = b.number_is;
      rule_is = b.rule_is;
    })

first_broken : (lines : List (List ℕ)) (r : LineRule) → first_at (first_text lines) ≡ Err r → schedule_in lines ≡ Err (1, r)
unfolding first_at
first_broken [] r e = let it : rule.First ≡ r = cc in ap (λ (q : LineRule). Err (1, q)) it
first_broken (line ∷ lines) r e = behind lines (first_at line) e
  where
    behind : (lines : List (List ℕ)) (x : Result First LineRule) → x ≡ Err r → behind_first (at_line 1 x) lines ≡ Err (1, r)
    behind lines (Ok f) e = absurd cc
    behind lines (Err q) e = let it : q ≡ r = cc in ap (λ (t : LineRule). Err (1, t)) it

pub bad_again : (bytes : List ℕ) (n : ℕ) (r : LineRule) → IsFirstBadLine bytes n r → schedule_at bytes ≡ Err (n, r)
bad_again bytes n r (inl x) = first_broken (lines_of bytes) r x.rule_is ∙ ap (λ (m : ℕ). Err (m, r)) (sym x.number_is)
bad_again bytes n r (inr x) =
    let p = places_of x.front.first in
    ap schedule_in x.lines
    ∙ rw (own_first x.front.first x.valid.first, events_broken p 2 x.front.events x.line x.rest r x.valid.lawful x.rule_is) (ap (λ (m : ℕ). Err (m, r)) (sym x.number_is))

pub answers_first : (bytes : List ℕ) (r : Result Schedule ScheduleFault) → Answers r (schedule_at bytes) → IfErr r (λ f. IsFaultOf bytes f)
answers_first bytes (Ok s) h = tt
answers_first bytes (Err fault.NoMemory) h = tt
answers_first bytes (Err (fault.BadLine line broken)) h = bad_found bytes line broken h
