-- The first line of a text.
use Rattle.std.proofs.Common.{◌≡◌, ◌<◌, ◌≤◌, ◌+◌, ◌-◌, add-one, ℕ, zero, suc, true, false, List, [], ◌∷◌, length, None, get_or, take, drop, refl, ap, arith, eqb}
use Rattle.std.proofs.lemmas.Grind.{common_steps}
use Rattle.std.specs.List.{onto_first, position, position_or_len}
use Rattle.std.proofs.lemmas.List.Sums.{fails_before_first}
use Rattle.ox_schedule.specs.Schedule.{lines_of}

-- a line feed at a place ends the first line there
pub lines_at : (text : List ℕ) (at : ℕ) → at < length text → ((k : ℕ) → k < at → eqb (get_or text k 0) 10 ≡ false) → eqb (get_or text at 0) 10 ≡ true → lines_of text ≡ take at text ∷ lines_of (drop (suc at) text)
lines_at [] at lt before here = absurd (omega arith)
lines_at (b ∷ bs) zero lt before here = rw here refl
lines_at (b ∷ bs) (suc at) lt before here =
    let other : eqb b 10 ≡ false = before 0 (omega arith) in
    rw other (ap (onto_first b) (lines_at bs at (omega arith) (λ k h. before (suc k) (omega arith)) here))

-- with no line feed the text is one line
pub lines_none : (text : List ℕ) → 0 < length text → ((k : ℕ) → k < length text → eqb (get_or text k 0) 10 ≡ false) → lines_of text ≡ text ∷ []
lines_none [] some none = absurd (omega arith)
lines_none (b ∷ []) some none = let other : eqb b 10 ≡ false = none 0 (omega arith) in rw other refl
lines_none (b ∷ c ∷ bs) some none =
    let other : eqb b 10 ≡ false = none 0 (omega arith) in
    rw other (ap (onto_first b) (lines_none (c ∷ bs) (omega arith) (λ k h. none (suc k) (omega arith))))

-- a position that is none passes nowhere
pub none_at : (text : List ℕ) → position (λ b. eqb b 10) text ≡ None → (k : ℕ) → k < length text → eqb (get_or text k 0) 10 ≡ false
none_at text e k h =
    let past : length text ≤ position_or_len (λ b. eqb b 10) text = grind (arith, common_steps) in
    fails_before_first (λ b. eqb b 10) text k 0 (omega arith)

pub rest_of : (text : List ℕ) (at : ℕ) → take (length text - (at + 1)) (drop (at + 1) text) ≡ drop (suc at) text
rest_of text at = rw add-one (grind (arith, common_steps))
