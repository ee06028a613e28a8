-- Items one after the other, as a loop reads and writes them.
use Rattle.std.proofs.Common.{◌≡◌, ℕ, zero, suc, ◌-◌, ◌+◌, ◌≤◌, ◌<◌, Bool, true, List, [], ◌∷◌, ◌++◌, length, get_or, Result, Ok, Err, refl, sym, ap, ◌∙◌, arith}
use Rattle.std.specs.List.{list_all}
use Rattle.std.proofs.lemmas.Bool.{and_parts}
use Rattle.std.proofs.lemmas.List.{append-nil}
use Rattle.ox_bytes.specs.declared.fault.BadField.{BadField}
use Rattle.ox_bytes.specs.declared.fault.FieldFault.{FieldFault}
use Rattle.ox_bytes.specs.declared.fault.FieldFault.TheVariants as fault
use Rattle.ox_bytes.specs.Reading.{Fails}
use Rattle.ox_bytes.specs.Form.{Form}
use Rattle.ox_bytes.specs.Fields.{items_at}
use Rattle.ox_bytes.specs.ListLaws.{with_front, with_front-next}

module _ {A : Type 0} (form : Form A) where
  pub goes_on : (front : List A) (count i : ℕ) (bytes : List ℕ) (x : A) (after : List ℕ) (total : Result (List A × List ℕ) BadField) → i < count → form.at bytes ≡ Ok (x, after)
      → with_front front (items_at form (count - i) bytes) ≡ total → with_front (front ++ x ∷ []) (items_at form (count - (i + 1)) after) ≡ total
  unfolding items_at
  goes_on front count i bytes x after total lt h so_far =
      let k : count - i ≡ suc (count - (i + 1)) = omega arith in
      let one : with_front front (items_at form (count - i) bytes) ≡ with_front (front ++ x ∷ []) (items_at form (count - (i + 1)) after) = rw (k, h) (with_front-next front x (items_at form (count - (i + 1)) after)) in
      sym one ∙ so_far

  pub ends : (e : FieldFault) (front : List A) (count i : ℕ) (bytes : List ℕ) (total : Result (List A × List ℕ) BadField) → i < count → Fails e (form.at bytes)
      → with_front front (items_at form (count - i) bytes) ≡ total → Fails e total
  unfolding items_at
  ends fault.NoMemory front count i bytes total lt h so_far = tt
  ends (fault.Bad f) front count i bytes total lt h so_far =
      let k : count - i ≡ suc (count - (i + 1)) = omega arith in
      let one : with_front front (items_at form (count - i) bytes) ≡ Err f = rw (k, h) refl in
      sym so_far ∙ one

  pub is_done : (front : List A) (count i : ℕ) (bytes : List ℕ) (total : Result (List A × List ℕ) BadField) → count ≤ i → with_front front (items_at form (count - i) bytes) ≡ total → total ≡ Ok (front, bytes)
  unfolding items_at
  is_done front count i bytes total le so_far =
      let k : count - i ≡ 0 = omega arith in
      let one : with_front front (items_at form (count - i) bytes) ≡ Ok (front, bytes) = rw k (ap (λ (xs : List A). Ok (xs, bytes)) (append-nil front)) in
      sym so_far ∙ one

-- each item passes a test that all pass
pub all_pass : {A : Type 0} (test : A → Bool) (xs : List A) (i : ℕ) (d : A) → list_all test xs ≡ true → i < length xs → test (get_or xs i d) ≡ true
all_pass test [] i d h lt = absurd (omega arith)
all_pass test (x ∷ xs) zero d h lt = (and_parts (test x) (list_all test xs) h).0
all_pass test (x ∷ xs) (suc i) d h lt = all_pass test xs i d (and_parts (test x) (list_all test xs) h).1 (omega arith)
