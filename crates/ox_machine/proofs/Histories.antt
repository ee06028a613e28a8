-- Histories of a machine that keeps its laws.
use Rattle.std.proofs.Common.{◌≡◌, ◌<◌, ◌≤◌, ◌+◌, ℕ, Bool, true, false, cond, List, [], ◌∷◌, ◌++◌, length, Option, Some, None, Result, Ok, Err, refl, sym, subst, arith}
use Rattle.std.specs.Prelude.{IsTrue}
use Rattle.std.proofs.lemmas.List.{append-nil}
use Rattle.ox_types.specs.Limits.{count_limit, time_limit}
use Rattle.ox_types.specs.declared.log.Entry.{Entry}
use Rattle.ox_types.specs.declared.log.EntryId.{EntryId}
use Rattle.ox_types.specs.declared.log.EntryBody.{EntryBody}
use Rattle.ox_types.specs.declared.log.EntryBody.TheVariants as body
use Rattle.ox_bytes.specs.declared.fault.BadField.{BadField}
use Rattle.ox_bytes.specs.Reading.{◌>>=◌}
use Rattle.ox_bytes.specs.Form.{Form, IsBytes, IsExact}
use Rattle.ox_bytes.specs.Fields.{whole_of, at_end}
use Rattle.ox_bytes.specs.NumberLaws.{bind_ok, ok_is}
use Rattle.ox_machine.specs.Meaning.{Meaning, reads}
use Rattle.ox_machine.specs.Laws.{IsMachine}
use Rattle.ox_machine.specs.Store.{IsBody, IsEntryAt, RunsFrom, id_of, if_read, command_in, command_of, after_command, after, state_from, state_after}

-- a whole text is read as its value
pub whole_of_text : {A : Type 0} (form : Form A) → IsExact form → (x : A) → IsTrue (form.is_lawful x) → whole_of form (form.text x) ≡ Ok x
unfolding whole_of
whole_of_text form exact x h =
    let read = rw (append-nil (form.text x)) at (exact.again x [] h) in
    rw read refl

-- what is read from bytes is lawful
pub whole_of_lawful : {A : Type 0} (form : Form A) → IsExact form → (bytes : List ℕ) (x : A) → IsBytes bytes → whole_of form bytes ≡ Ok x → IsTrue (form.is_lawful x)
unfolding whole_of
whole_of_lawful {A} form exact bytes x fits e =
    let a = bind_ok (form.at bytes) (λ a. at_end a.1 >>= λ _. Ok a.0) x e in
    let b = bind_ok (at_end a.0.1) (λ _. Ok a.0.0) x a.2 in
    subst (λ (y : A). IsTrue (form.is_lawful y)) (ok_is a.0.0 x b.2) (exact.spelled bytes a.0.0 a.0.1 fits a.1).1

-- the machine may apply a command that it reads
pub record IsGood {S C R Q A : Type 0} (M : Meaning S C R Q A) (c : C) : Type 0 where
  pub lawful : IsTrue (M.commands.is_lawful c)
  pub read : IsTrue (reads M c)

abbrev AllGood : {S C R Q A : Type 0} → Meaning S C R Q A → Option C → Type 0
AllGood M None = Unit {0}
AllGood M (Some c) = IsGood M c

module _ {S C R Q A : Type 0} (M : Meaning S C R Q A) (laws : IsMachine M) where
  pub text_is_read : (c : C) → IsTrue (M.commands.is_lawful c) → IsTrue (reads M c) → command_in M (M.commands.text c) ≡ Some c
  text_is_read c h read = rw (whole_of_text M.commands laws.commands_exact c h, read) refl

  good_if : (c : C) → IsTrue (M.commands.is_lawful c) → (test : Bool) → reads M c ≡ test → AllGood M (cond test (Some c) None)
  good_if c h true read = record { lawful = h; read = read }
  good_if c h false read = tt

  good_of : (bytes : List ℕ) → IsBytes bytes → (r : Result C BadField) → whole_of M.commands bytes ≡ r → AllGood M (if_read M r)
  good_of bytes fits (Ok c) e = good_if c (whole_of_lawful M.commands laws.commands_exact bytes c fits e) (reads M c) refl
  good_of bytes fits (Err f) e = tt

  good_at : (b : EntryBody) → IsBody b → AllGood M (command_of M b)
  good_at body.Pass is = tt
  good_at (body.Command bytes) is = good_of bytes is (whole_of M.commands bytes) refl

  command_fits : (s : S) (id : EntryId) (time : ℕ) (o : Option C) → AllGood M o → M.fits id.offset s → id.offset < count_limit → time ≤ time_limit → M.fits (id.offset + 1) (after_command M s id time o)
  command_fits s id time None good fits small short = laws.stays id.offset (id.offset + 1) s (omega arith) fits
  command_fits s id time (Some c) good fits small short =
      laws.steps s id time c (record { fits = fits; offset = small; time = short; lawful = good.lawful; read = good.read })

  -- behind an entry the state fits one entry more
  pub after_fits : (s : S) (offset : ℕ) (e : Entry) → IsEntryAt offset e → M.fits offset s → M.fits (offset + 1) (after M s e)
  after_fits s offset e is fits =
      let offset-is = is.offset_is in
      subst (λ (n : ℕ). M.fits (n + 1) (after M s e)) offset-is
      (command_fits s (id_of e) e.time (command_of M e.body) (good_at e.body is.says_bytes) (subst (λ (n : ℕ). M.fits n s) (sym offset-is) fits) (rw offset-is is.offset_small) is.time_small)

  pub run_fits : (s : S) (offset : ℕ) (entries : List Entry) → RunsFrom offset entries → M.fits offset s → M.fits (offset + length entries) (state_from M s entries)
  run_fits s offset [] runs fits = let same : offset ≡ offset + 0 = omega arith in subst (λ (n : ℕ). M.fits n s) same fits
  run_fits s offset (e ∷ entries) runs fits =
      let same : offset + 1 + length entries ≡ offset + length (e ∷ entries) = omega arith in
      subst (λ (n : ℕ). M.fits n (state_from M (after M s e) entries)) same
      (run_fits (after M s e) (offset + 1) entries runs.1 (after_fits s offset e runs.0 fits))

  -- the state after a history fits its length
  pub history_fits : (history : List Entry) → RunsFrom 0 history → M.fits (length history) (state_after M history)
  unfolding state_after
  history_fits history runs = let same : 0 + length history ≡ length history = omega arith in subst (λ (n : ℕ). M.fits n (state_from M M.opening history)) same (run_fits M.opening 0 history runs laws.opens)

-- more entries go on from where the first ones end
pub goes_on : {S C R Q A : Type 0} (M : Meaning S C R Q A) (s : S) (first more : List Entry) → state_from M s (first ++ more) ≡ state_from M (state_from M s first) more
goes_on M s [] more = refl
goes_on M s (e ∷ first) more = goes_on M (after M s e) first more
