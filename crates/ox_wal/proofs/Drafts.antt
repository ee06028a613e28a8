-- Entries that are cut and added.
use Rattle.std.proofs.Common.{◌≡◌, ℕ, zero, suc, ◌+◌, ◌-◌, ◌≤◌, List, [], ◌∷◌, ◌++◌, length, take, drop, refl, sym, ap, ◌∙◌, arith}
use Rattle.std.proofs.lemmas.List.{take-append-le, take-take, append-nil, length-take-le, take-append-drop, append_assoc}
use Rattle.std.proofs.lemmas.List.Sums.{sum_by-append}
use Rattle.ox_types.specs.declared.log.Entry.{Entry}
use Rattle.ox_bytes.specs.LogForms.{entry_blocks}
use Rattle.ox_wal.specs.Blocks.{blocks_used}

pub take_past : (xs ys : List Entry) (n : ℕ) → length xs ≤ n → take n (xs ++ ys) ≡ xs ++ take (n - length xs) ys
take_past [] ys n le = ap (λ (k : ℕ). take k ys) (omega arith)
take_past (x ∷ xs) ys zero le = absurd (omega arith)
take_past (x ∷ xs) ys (suc n) le =
    let less : suc n - suc (length xs) ≡ n - length xs = omega arith in
    ap (λ (l : List Entry). x ∷ l) (take_past xs ys n (omega arith) ∙ ap (λ (k : ℕ). xs ++ take k ys) (sym less))

pub taken_on : (es : List Entry) (at end : ℕ) → at ≤ end → take end es ≡ take at es ++ take (end - at) (drop at es)
taken_on es zero end le = ap (λ (n : ℕ). take n es) (omega arith)
taken_on [] (suc at) zero le = absurd (omega arith)
taken_on [] (suc at) (suc end) le = none (suc end - suc at)
  where
    none : (n : ℕ) → [] ≡ take {A = Entry} n []
    none zero = refl
    none (suc n) = refl
taken_on (x ∷ es) (suc at) zero le = absurd (omega arith)
taken_on (x ∷ es) (suc at) (suc end) le =
    let less : suc end - suc at ≡ end - at = omega arith in
    ap (λ (l : List Entry). x ∷ l) (taken_on es at end (omega arith) ∙ ap (λ (n : ℕ). take at es ++ take n (drop at es)) (sym less))

pub blocks-append : (xs ys : List Entry) → blocks_used (xs ++ ys) ≡ blocks_used xs + blocks_used ys
blocks-append xs ys = sum_by-append entry_blocks xs ys

-- a cut among the entries that are kept
module _ (es staged : List Entry) (n keep : ℕ) (le : n ≤ keep) (within : keep ≤ length es) where
  pub cut_kept : take n (take keep es ++ staged) ≡ take n es ++ []
  cut_kept =
      let size : length (take keep es) ≡ keep = length-take-le keep es within in
      take-append-le n (take keep es) staged (omega arith) ∙ take-take n keep es le ∙ sym (append-nil (take n es))

  pub cut_kept_blocks : blocks_used (take keep es ++ staged) ≡ blocks_used (take n es) + blocks_used (take (keep - n) (drop n es)) + blocks_used staged
  cut_kept_blocks =
      blocks-append (take keep es) staged
      ∙ ap (λ (l : List Entry). blocks_used l + blocks_used staged) (taken_on es n keep le)
      ∙ ap (λ (k : ℕ). k + blocks_used staged) (blocks-append (take n es) (take (keep - n) (drop n es)))

-- a cut among those that are added
module _ (es staged : List Entry) (keep left : ℕ) (within : keep ≤ length es) where
  pub cut_staged : take (keep + left) (take keep es ++ staged) ≡ take keep es ++ take left staged
  cut_staged =
      let size : length (take keep es) ≡ keep = length-take-le keep es within in
      let rest : keep + left - length (take keep es) ≡ left = omega arith in
      take_past (take keep es) staged (keep + left) (omega arith) ∙ ap (λ (k : ℕ). take keep es ++ take k staged) rest

  pub cut_staged_blocks : blocks_used (take keep es ++ staged) ≡ blocks_used (take keep es ++ take left staged) + blocks_used (drop left staged)
  cut_staged_blocks =
      ap (λ (l : List Entry). blocks_used (take keep es ++ l)) (sym (take-append-drop left staged))
      ∙ ap blocks_used (sym (append_assoc (take keep es) (take left staged) (drop left staged)))
      ∙ blocks-append (take keep es ++ take left staged) (drop left staged)
