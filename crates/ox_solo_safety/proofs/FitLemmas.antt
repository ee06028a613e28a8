-- The states of a run fit their counts, so that replies and answers can be written and read again.
use Rattle.std.proofs.Common.{◌≡◌, ◌∙◌, ℕ, zero, suc, ◌+◌, ◌<◌, ◌≤◌, ◌^◌, Bool, true, false, cond, List, [], ◌∷◌, length, take, slice_get, Option, Some, None, Result, Ok, Err, refl, sym, ap, subst, arith}
use Rattle.std.specs.Prelude.{IsTrue}
use Rattle.std.proofs.Math.Seq.{length-take-le}
use Rattle.ox_types.specs.declared.log.Entry.{Entry}
use Rattle.ox_types.specs.declared.log.EntryBody.{EntryBody}
use Rattle.ox_types.specs.declared.log.EntryBody.TheVariants as body
use Rattle.ox_types.specs.declared.timer.Timer.{Timer}
use Rattle.ox_bytes.specs.declared.fault.BadField.{BadField}
use Rattle.ox_bytes.specs.Form.{Form, IsExact}
use Rattle.ox_bytes.specs.Fields.{whole_of}
use Rattle.ox_bytes.specs.FieldLaws.{whole_again}
use Rattle.ox_bytes.specs.Texts.{placed, value_in}
use Rattle.ox_machine.specs.Meaning.{Meaning, reads}
use Rattle.ox_machine.specs.Laws.{CanApply, IsMachine}
use Rattle.ox_machine.specs.Store.{id_of, if_read, command_of, after_command, after, reply_to_command, reply_to, state_from, state_after}
use Rattle.ox_solo_safety.specs.Moments.{Has}
use Rattle.ox_solo_safety.specs.Says.{Says}

-- the text of a lawful value says it
pub says_lawful : {A : Type 0} (form : Form A) → IsExact form → (bytes : List ℕ) (x : A) → bytes ≡ form.text x → IsTrue (form.is_lawful x) → Says form bytes x
says_lawful form exact bytes x is lawful = record {
  text = is;
  again = ap (value_in form) is ∙ ap (placed (length (form.text x))) (whole_again form exact x lawful);
}

module _ {S C R Q A : Type 0} (M : Meaning S C R Q A) where
  -- where a state fits, the ids of its timers are numbers of 64 bits
  abbrev pub IdsAreSmall : Type 0
  IdsAreSmall = (count : ℕ) (s : S) (t : Timer) → count ≤ 9007199254740992 → M.fits count s → Has (M.timers s) t → t.id < 2 ^ 64

  -- a command that an entry has is lawful
  abbrev pub SaysLawfully : EntryBody → Type 0
  SaysLawfully b = (c : C) → command_of M b ≡ Some c → IsTrue (M.commands.is_lawful c)

  -- what an entry says can be applied
  pub record IsFitting (e : Entry) : Type 0 where
    pub time : e.time ≤ 9007199254740992
    pub lawful : SaysLawfully e.body

  pub pass_lawful : (b : EntryBody) → b ≡ body.Pass → SaysLawfully b
  pass_lawful b is c e = let never = rw is at e in absurd cc

  -- a command that is read from bytes is what they say
  read_is : (r : Result C BadField) (n : ℕ) (c : C) → if_read M r ≡ Some c → (placed n r ≡ Ok c) × IsTrue (reads M c)
  read_is (Ok d) n c e = by_test (reads M d) refl e
    where
      by_test : (test : Bool) → reads M d ≡ test → cond test (Some d) None ≡ Some c → (placed n (Ok d) ≡ Ok c) × IsTrue (reads M c)
      by_test true t g = let same : d ≡ c = cc in (ap (λ x. Ok x) same, ap (reads M) (sym same) ∙ t)
      by_test false t g = absurd cc
  read_is (Err f) n c e = absurd cc

  command_lawful : (bytes : List ℕ) → ((c : C) → value_in M.commands bytes ≡ Ok c → IsTrue (M.commands.is_lawful c)) → SaysLawfully (body.Command bytes)
  command_lawful bytes lawful c e = lawful c (read_is (whole_of M.commands bytes) (length bytes) c e).0

  -- the same of an entry whose body is this one
  pub request_lawful : (b : EntryBody) (bytes : List ℕ) → b ≡ body.Command bytes → ((c : C) → value_in M.commands bytes ≡ Ok c → IsTrue (M.commands.is_lawful c)) → SaysLawfully b
  request_lawful b bytes is lawful = subst SaysLawfully (sym is) (command_lawful bytes lawful)

  is_read : (b : EntryBody) (c : C) → command_of M b ≡ Some c → IsTrue (reads M c)
  is_read body.Pass c e = absurd cc
  is_read (body.Command bytes) c e = (read_is (whole_of M.commands bytes) 0 c e).1

  module _ (laws : IsMachine M) where
    -- a lawful command that was written is the one that is read
    written_lawful : (d : C) → IsTrue (M.commands.is_lawful d) → (c : C) → value_in M.commands (M.commands.text d) ≡ Ok c → IsTrue (M.commands.is_lawful c)
    written_lawful d lawful c e =
        let again : value_in M.commands (M.commands.text d) ≡ Ok d = ap (placed (length (M.commands.text d))) (whole_again M.commands laws.commands_exact d lawful) in
        let same : d ≡ c = ok_is d c (sym again ∙ e) in
        subst (λ x. IsTrue (M.commands.is_lawful x)) same lawful
      where
        ok_is : (x y : C) → placed 0 (Ok x) ≡ placed 0 (Ok y) → x ≡ y
        ok_is x y h = cc

    pub expiry_lawful : (b : EntryBody) (id : ℕ) → id < 2 ^ 64 → b ≡ body.Command (M.commands.text (M.expiry id)) → SaysLawfully b
    expiry_lawful b id small is = request_lawful b (M.commands.text (M.expiry id)) is (written_lawful (M.expiry id) (laws.expiries_lawful id small))

    -- ---- states behind entries

    can_apply : (s : S) (e : Entry) (c : C) → IsFitting e → e.offset < 9007199254740992 → M.fits e.offset s → command_of M e.body ≡ Some c → CanApply M s (id_of e) e.time c
    can_apply s e c fitting below fits is = record { fits = fits; offset = below; time = fitting.time; lawful = fitting.lawful c is; read = is_read e.body c is }

    after_fits : (s : S) (e : Entry) → IsFitting e → e.offset < 9007199254740992 → M.fits e.offset s → (o : Option C) → command_of M e.body ≡ o → M.fits (e.offset + 1) (after_command M s (id_of e) e.time o)
    after_fits s e fitting below fits None is = laws.stays e.offset (e.offset + 1) s (omega arith) fits
    after_fits s e fitting below fits (Some c) is = laws.steps s (id_of e) e.time c (can_apply s e c fitting below fits is)

    -- entries from a place on stand there, and each can be applied
    abbrev AreFitting : ℕ → List Entry → Type 0
    AreFitting n es = (i : ℕ) (e : Entry) → slice_get es i ≡ Some e → (e.offset ≡ n + i) × IsFitting e

    fits_from : (es : List Entry) (n : ℕ) (s : S) → AreFitting n es → n + length es ≤ 9007199254740992 → M.fits n s → M.fits (n + length es) (state_from M s es)
    fits_from [] n s all few fits = let same : n ≡ n + 0 = omega arith in subst (λ (m : ℕ). M.fits m s) same fits
    fits_from (e ∷ es) n s all few fits =
        let first = all 0 e refl in
        let place : e.offset ≡ n = omega (arith, first.0) in
        let here : M.fits e.offset s = subst (λ (m : ℕ). M.fits m s) (sym place) fits in
        let next : M.fits (n + 1) (after M s e) = subst (λ (m : ℕ). M.fits (m + 1) (after M s e)) place (after_fits s e first.1 (omega (arith, place, few)) here (command_of M e.body) refl) in
        let same : n + 1 + length es ≡ n + length (e ∷ es) = omega arith in
        subst (λ (m : ℕ). M.fits m (state_from M (after M s e) es)) same (fits_from es (n + 1) (after M s e) (λ i f g. let more = all (suc i) f g in (omega (arith, more.0), more.1)) (omega (arith, few)) next)

    -- the state after a history fits its length
    pub history_fits : (h : List Entry) → AreFitting 0 h → length h ≤ 9007199254740992 → M.fits (length h) (state_after M h)
    unfolding state_after
    history_fits h all few =
        let same : 0 + length h ≡ length h = omega arith in
        subst (λ (m : ℕ). M.fits m (state_from M M.opening h)) same (fits_from h 0 M.opening all (omega (arith, few)) laws.opens)

    take_get : (n i : ℕ) (xs : List Entry) (x : Entry) → slice_get (take n xs) i ≡ Some x → slice_get xs i ≡ Some x
    take_get zero i [] x g = absurd cc
    take_get zero i (y ∷ ys) x g = absurd cc
    take_get (suc n) i [] x g = absurd cc
    take_get (suc n) zero (y ∷ ys) x g = g
    take_get (suc n) (suc i) (y ∷ ys) x g = take_get n i ys x g

    -- and so does that after its beginning
    pub front_fits : (h : List Entry) (n : ℕ) → AreFitting 0 h → n ≤ length h → length h ≤ 9007199254740992 → M.fits n (state_after M (take n h))
    front_fits h n all within few =
        let long : length (take n h) ≡ n = length-take-le n h within in
        subst (λ (m : ℕ). M.fits m (state_after M (take n h))) long (history_fits (take n h) (λ i e g. all i e (take_get n i h e g)) (omega (arith, long, within, few)))

    -- ---- what is told

    -- a reply can be written
    pub reply_says : (s : S) (e : Entry) (value : R) (bytes : List ℕ) → IsFitting e → e.offset < 9007199254740992 → M.fits e.offset s → reply_to M s e ≡ Some value → bytes ≡ M.replies.text value → Says M.replies bytes value
    reply_says s e value bytes fitting below fits is text = by_command (command_of M e.body) refl is
      where
        by_command : (o : Option C) → command_of M e.body ≡ o → reply_to_command M s (id_of e) e.time o ≡ Some value → Says M.replies bytes value
        by_command None c g = absurd cc
        by_command (Some c) read g =
            let same : M.reply s (id_of e) e.time c ≡ value = cc in
            says_lawful M.replies laws.replies_exact bytes value text
            (subst (λ r. IsTrue (M.replies.is_lawful r)) same (laws.replies_lawful s (id_of e) e.time c (can_apply s e c fitting below fits read)))

    -- an answer can be written
    pub answer_says : (count : ℕ) (s : S) (q : Q) (bytes : List ℕ) → count ≤ 9007199254740992 → M.fits count s → IsTrue (M.queries.is_lawful q) → bytes ≡ M.answers.text (M.answer s q) → Says M.answers bytes (M.answer s q)
    answer_says count s q bytes few fits lawful text = says_lawful M.answers laws.answers_exact bytes (M.answer s q) text (laws.answers_lawful count s q few fits lawful)
