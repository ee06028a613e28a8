-- Words that are joined by spaces are split again, and the other way round.
use Rattle.std.proofs.Common.{◌≡◌, ◌∙◌, ℕ, ◌<◌, Bool, true, false, not, eqb, List, [], ◌∷◌, ◌++◌, length, refl, sym, ap, arith}
use Rattle.std.specs.List.{list_all, onto_first, slice_split, join_with_byte}
use Rattle.std.proofs.lemmas.Bool.Decides.{nat_tests}
use Rattle.std.proofs.lemmas.Bool.{eq-eqb, and_parts, and_from}
use Rattle.std.proofs.lemmas.List.Splits.{join_with_byte-slice_split}
use Rattle.ox_schedule.specs.Spelling.{is_printable, is_word, words_of}

-- ---- parts without the byte that stands between two

-- the byte isn't there
abbrev pub lacks : ℕ → List ℕ → Bool
lacks c w = list_all (λ b. not (eqb b c)) w

-- the parts between one such byte and the next
abbrev pub parts_of : ℕ → List ℕ → List (List ℕ)
parts_of c bytes = slice_split (λ b. eqb b c) bytes

other : (x : Bool) → not x ≡ true → x ≡ false
other true h = cc
other false h = refl

first_split : (c : ℕ) (w rest : List ℕ) → lacks c w ≡ true → parts_of c (w ++ c ∷ rest) ≡ w ∷ parts_of c rest
first_split c [] rest h = let same : eqb c c ≡ true = eq-eqb c c refl in rw same refl
first_split c (b ∷ w) rest h = let x = and_parts (not (eqb b c)) _ h in rw (other (eqb b c) x.0) (ap (onto_first b) (first_split c w rest x.1))

last_split : (c : ℕ) (w : List ℕ) → lacks c w ≡ true → parts_of c w ≡ w ∷ []
last_split c [] h = refl
last_split c (b ∷ w) h = let x = and_parts (not (eqb b c)) _ h in rw (other (eqb b c) x.0) (ap (onto_first b) (last_split c w x.1))

pub parts_joined : (c : ℕ) (ws : List (List ℕ)) → 0 < length ws → list_all (lacks c) ws ≡ true → parts_of c (join_with_byte c ws) ≡ ws
parts_joined c [] some h = absurd (omega arith)
parts_joined c (w ∷ []) some h = let x = and_parts (lacks c w) true h in last_split c w x.0
parts_joined c (w ∷ next ∷ ws) some h =
    let x = and_parts (lacks c w) (list_all (lacks c) (next ∷ ws)) h in
    first_split c w (join_with_byte c (next ∷ ws)) x.0
    ∙ ap (λ (t : List (List ℕ)). w ∷ t) (parts_joined c (next ∷ ws) (omega arith) x.1)

-- ---- words of a line

not_space : (b : ℕ) → is_printable b ≡ true → not (eqb b 32) ≡ true
not_space b h = grind (arith, nat_tests)

no_space : (w : List ℕ) → list_all is_printable w ≡ true → lacks 32 w ≡ true
no_space [] h = refl
no_space (b ∷ w) h = let x = and_parts (is_printable b) _ h in and_from _ _ (not_space b x.0) (no_space w x.1)

no_spaces : (ws : List (List ℕ)) → list_all is_word ws ≡ true → list_all (lacks 32) ws ≡ true
no_spaces [] h = refl
no_spaces (w ∷ ws) h = let x = and_parts (is_word w) _ h in and_from _ _ (no_space w (and_parts _ (list_all is_printable w) x.0).1) (no_spaces ws x.1)

-- words with one space between two are the words of that line
pub words_joined : (ws : List (List ℕ)) → 0 < length ws → list_all is_word ws ≡ true → words_of (join_with_byte 32 ws) ≡ ws
words_joined ws some h = parts_joined 32 ws some (no_spaces ws h)

-- a line is its words with one space between two
pub line_joined : (line : List ℕ) → line ≡ join_with_byte 32 (words_of line)
line_joined line = sym (join_with_byte-slice_split 32 line)

-- a line of at least two words isn't empty
pub some_line : (w next : List ℕ) (ws : List (List ℕ)) → eqb (length (join_with_byte 32 (w ∷ next ∷ ws))) 0 ≡ false
some_line [] next ws = refl_not_empty (join_with_byte 32 (next ∷ ws)) 32
  where
    refl_not_empty : (line : List ℕ) (b : ℕ) → eqb (length (b ∷ line)) 0 ≡ false
    refl_not_empty line b = grind (arith, nat_tests)
some_line (b ∷ w) next ws = not_empty (w ++ 32 ∷ join_with_byte 32 (next ∷ ws))
  where
    not_empty : (line : List ℕ) → eqb (length (b ∷ line)) 0 ≡ false
    not_empty line = grind (arith, nat_tests)
