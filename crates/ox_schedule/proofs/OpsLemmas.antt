-- The operations of a batch.
use Rattle.std.proofs.Common.{◌≡◌, ◌<◌, ◌≤◌, ◌+◌, ◌-◌, add-one, ℕ, zero, suc, Bool, true, false, List, [], ◌∷◌, length, map, codes, Option, Some, None, Bor, get_or, take, drop, refl, ap, arith}
use Rattle.std.proofs.lemmas.Grind.{common_steps}
use Rattle.std.specs.Str.{bytes_eq}
use Rattle.std.specs.List.{onto_first, position, position_or_len}
use Rattle.std.proofs.lemmas.List.Sums.{fails_before_first}
use Rattle.ox_schedule.specs.Shape.{ops_in}

abbrev pub is_plus : Bor (List ℕ) → Bool
is_plus w = bytes_eq w.now (codes "+")

abbrev pub texts : List (Bor (List ℕ)) → List (List ℕ)
texts ws = map (λ w. w.now) ws

pub no_word : Bor (List ℕ)
no_word = record { ref_ptr = (0, 0); now = [] }

pub ops_at : (ws : List (Bor (List ℕ))) (at : ℕ) (d : Bor (List ℕ)) → at < length ws → ((k : ℕ) → k < at → is_plus (get_or ws k d) ≡ false) → is_plus (get_or ws at d) ≡ true → ops_in (texts ws) ≡ texts (take at ws) ∷ ops_in (texts (drop (suc at) ws))
ops_at [] at d lt before here = absurd (omega arith)
ops_at (b ∷ bs) zero d lt before here = rw here refl
ops_at (b ∷ bs) (suc at) d lt before here =
    let other : is_plus b ≡ false = before 0 (omega arith) in
    rw other (ap (onto_first b.now) (ops_at bs at d (omega arith) (λ k h. before (suc k) (omega arith)) here))

pub ops_none : (ws : List (Bor (List ℕ))) (d : Bor (List ℕ)) → ((k : ℕ) → k < length ws → is_plus (get_or ws k d) ≡ false) → ops_in (texts ws) ≡ texts ws ∷ []
ops_none [] d none = refl
ops_none (b ∷ bs) d none =
    let other : is_plus b ≡ false = none 0 (omega arith) in
    rw other (ap (onto_first b.now) (ops_none bs d (λ k h. none (suc k) (omega arith))))

pub none_at : (ws : List (Bor (List ℕ))) (d : Bor (List ℕ)) → position is_plus ws ≡ None → (k : ℕ) → k < length ws → is_plus (get_or ws k d) ≡ false
none_at ws d e k h =
    let past : length ws ≤ position_or_len is_plus ws = grind (arith, common_steps) in
    fails_before_first is_plus ws k d (omega arith)

pub rest_of : (ws : List (Bor (List ℕ))) (at : ℕ) → take (length ws - (at + 1)) (drop (at + 1) ws) ≡ drop (suc at) ws
rest_of ws at = rw add-one (grind (arith, common_steps))

abbrev pub words_left : Option (Bor (List (Bor (List ℕ)))) → ℕ
words_left None = 0
words_left (Some ws) = length ws.now + 1
