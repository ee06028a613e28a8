-- Steps of reading, one after the other, and what follows a name at the front of a word.
use Rattle.std.proofs.Common.{◌≡◌, ◌∙◌, ◌≢◌, ℕ, ◌++◌, Bool, true, false, eqb, cond, List, [], ◌∷◌, Result, Ok, Err, Option, Some, None, Bor, ◌⊎◌, inl, inr, refl, sym, ap}
use Rattle.std.specs.Prelude.{MatchOption}
use Rattle.std.specs.Option.{option_map}
use Rattle.std.proofs.lemmas.Bool.{eq-eqb, eqb-true}
use Rattle.std.proofs.lemmas.List.{append-nil}
use Rattle.ox_types.specs.declared.ended.LineRule.{LineRule}
use Rattle.ox_schedule.specs.Outcome.{◌>>=◌}
use Rattle.ox_schedule.specs.Reading.{after, word_at, options_end}

-- ---- what follows a name

pub same_eqb : (b : ℕ) → eqb b b ≡ true
same_eqb b = eq-eqb b b refl

pub after_append : (name text : List ℕ) → after name (name ++ text) ≡ Some text
after_append [] text = refl
after_append (p ∷ name) text = rw (same_eqb p) (after_append name text)

pub after_is : (name w text : List ℕ) → after name w ≡ Some text → w ≡ name ++ text
after_is [] w text e = cc
after_is (p ∷ name) [] text e = absurd cc
after_is (p ∷ name) (b ∷ w) text e = by_test (after_is name w text) (eqb p b) refl e
  where
    by_test : (after name w ≡ Some text → w ≡ name ++ text) → (x : Bool) → eqb p b ≡ x → cond x (after name w) None ≡ Some text → b ∷ w ≡ (p ∷ name) ++ text
    by_test known true h e = let same : p ≡ b = eqb-true p b h in let rest = known e in cc
    by_test known false h e = absurd cc

pub after_none : (name w : List ℕ) → ((rest : List ℕ) → w ≡ name ++ rest → ⊥) → after name w ≡ None
after_none name w none = by_cases (after name w) refl
  where
    by_cases : (r : Option (List ℕ)) → after name w ≡ r → r ≡ None
    by_cases None e = refl
    by_cases (Some text) e = absurd (none text (after_is name w text e))

pub after_of : (name w : List ℕ) (r : Option (Bor (List ℕ))) → MatchOption r ((rest : List ℕ) → w ≢ name ++ rest) (λ x. w ≡ name ++ x.now) → option_map (λ t. t.now) r ≡ after name w
after_of name w None h = sym (after_none name w h)
after_of name w (Some x) h = rw h (sym (after_append name x.now))

-- ---- steps

-- the value of a step that did not fail
pub bind_ok : {A B : Type 0} (r : Result A LineRule) (f : A → Result B LineRule) (y : B) → (r >>= f) ≡ Ok y → (x : A) × (r ≡ Ok x) × (f x ≡ Ok y)
bind_ok (Ok x) f y e = (x, refl, e)
bind_ok (Err d) f y e = absurd cc

abbrev pub done : {A : Type 0} → A → Result A LineRule
done x = Ok x

pub chosen : {A : Type 0} (b : Bool) (x y z : A) → cond b x y ≡ z → ((b ≡ true) × (x ≡ z)) ⊎ ((b ≡ false) × (y ≡ z))
chosen true x y z e = inl (refl, e)
chosen false x y z e = inr (refl, e)

pub ok_pair : {A B : Type 0} (a c : A) (b d : B) → done {A = A × B} (a, b) ≡ done {A = A × B} (c, d) → (a ≡ c) × (b ≡ d)
ok_pair {A} {B} a c b d e = let p : let q : A × B = (a, b) in q ≡ (c, d) = cc in (ap (λ (q : A × B). q.0) p, ap (λ (q : A × B). q.1) p)

-- words one by one
pub then : (ws : List (List ℕ)) (w : List ℕ) (rest tail : List (List ℕ)) → ws ≡ w ∷ rest → rest ≡ tail → ws ≡ w ∷ tail
then ws w rest tail e f = e ∙ ap (λ (t : List (List ℕ)). w ∷ t) f

pub last : (ws text rest : List (List ℕ)) → ws ≡ text ++ rest → rest ≡ [] → ws ≡ text
last ws text rest e f = e ∙ ap (λ (t : List (List ℕ)). text ++ t) f ∙ append-nil text

pub word_is : (ws : List (List ℕ)) (x : List ℕ × List (List ℕ)) → word_at ws ≡ Ok x → ws ≡ x.0 ∷ x.1
word_is [] x h = absurd cc
word_is (w ∷ ws) x h = let e : (w, ws) ≡ x = cc in rw (← e) refl

pub options_end_is : (ws : List (List ℕ)) (u : Unit {0}) → options_end ws ≡ Ok u → ws ≡ []
options_end_is [] u h = refl
options_end_is (w ∷ ws) u h = absurd cc
