-- Payloads that are read one after another.
use Rattle.std.proofs.Common.{◌≡◌, ◌⊎◌, inl, inr, ⊎_elim, ℕ, ◌+◌, ◌-◌, ◌<◌, ◌^◌, Bool, true, List, [], ◌∷◌, ◌++◌, All, length, drop, Some, None, Result, Err, refl, sym, ap, ◌∙◌, subst, arith, append_assoc, length-append, length-drop}
use Rattle.std.proofs.lemmas.List.{append-nil, get_or-append-add}
use Rattle.ox_types.specs.declared.durable.Action.{Action}
use Rattle.ox_types.specs.Durable.{DurableState, blank, fold_on}
use Rattle.ox_types.specs.Lists.{first_of}
use Rattle.ox_outside.specs.Disk.{Shown, Quiet}
use Rattle.ox_journal.specs.Half.{be32, record_text, records_text, front}
use Rattle.ox_journal.specs.Next.{next_of, StandsAt}
use Rattle.ox_journal.specs.Pair.{IsHalf, IsOpen, IsReading}
use Rattle.ox_journal.specs.declared.reading.Next.TheVariants.{Cut}
use Rattle.ox_wal.specs.declared.fault.WalFault.TheVariants.{Damaged}
use Rattle.ox_wal.specs.Files.{actions_of, still_first, state_in, Keeps, Reads, Breaks}
use Rattle.ox_wal.proofs.Batches.{actions-push, state_between, first-push, fold-push, state_none, state_front}

pub quiet_none : (disk : Shown) → Quiet disk disk
quiet_none disk = record { later = omega arith; seen = refl; now = λ c left. left; each = λ c left. left; before = λ t c le left. inl left }

pub quiet_on : (a b c : Shown) → Quiet a b → Quiet b c → Quiet a c
quiet_on a b c first second = record {
  later = let one = first.later in let two = second.later in omega arith;
  seen = second.seen ∙ first.seen;
  now = λ x left. first.now x (second.now x left);
  each = λ x left. ⊎_elim (λ was. first.each x was) (λ here. first.now x here) (second.before a.moment x first.later left);
  before = λ t x le left. ⊎_elim
      (λ was. first.before t x le was)
      (λ here. inr (first.now x here))
      (second.before t x (let one = first.later in omega arith) left);
}

-- what is read since a start, which these records hold more of
pub record SoFar (start live spare : Shown) (round end : ℕ) (d : DurableState) (first : Bool) : Type 0 where
  pub done : List (List ℕ)
  pub reads : Reads live spare round end d first done
  pub quiet : Quiet start live
  pub gate : (done ≡ []) ⊎ (0 < length reads.reading.rest)
  pub held : (payloads : List (List ℕ)) → IsHalf round payloads start.seen → (more : List (List ℕ)) × (payloads ≡ done ++ more)

pub begins : (live spare : Shown) (round end : ℕ) (d : DurableState) → IsReading live spare round end [] → d ≡ blank → SoFar live live spare round end d true
begins live spare round end d reading is = record {
  done = [];
  reads = record { reading = reading; actions = []; are = refl; folds = ap (λ (s : DurableState). Some s) (sym is); first_is = refl };
  quiet = quiet_none live;
  gate = inl refl;
  held = λ payloads half. (payloads, refl);
}

-- what the last has
last_has : (P : List ℕ → Type 0) (xs : List (List ℕ)) (x : List ℕ) → All P (xs ++ x ∷ []) → P x
last_has P xs x all = subst P (get_or-append-add xs (x ∷ []) 0 []) (all (length xs + 0) [] (omega (arith, length-append xs (x ∷ []))))

length-record : (payload : List ℕ) → length (record_text payload) ≡ length payload + 4
length-record payload = let four : length (be32 (length payload)) ≡ 4 = refl in let both : length (record_text payload) ≡ length (be32 (length payload)) + length payload = length-append (be32 (length payload)) payload in omega arith

length-records : (xs : List (List ℕ)) (x : List ℕ) → length (records_text (xs ++ x ∷ [])) ≡ length (records_text xs) + (length x + 5)
length-records [] x = let one = length-record x in let both : length ((1 ∷ record_text x) ++ []) ≡ length (1 ∷ record_text x) + 0 = length-append (1 ∷ record_text x) [] in omega arith
length-records (y ∷ xs) x =
    let rest = length-records xs x in
    let long : length ((1 ∷ record_text y) ++ records_text (xs ++ x ∷ [])) ≡ length (1 ∷ record_text y) + length (records_text (xs ++ x ∷ [])) = length-append (1 ∷ record_text y) (records_text (xs ++ x ∷ [])) in
    let short : length ((1 ∷ record_text y) ++ records_text xs) ≡ length (1 ∷ record_text y) + length (records_text xs) = length-append (1 ∷ record_text y) (records_text xs) in
    omega arith

length-front : (round : ℕ) (xs : List (List ℕ)) → length (front round xs) ≡ length (records_text xs) + 10
unfolding front
length-front round xs = omega arith

-- behind a record that stands with its gate there is more
gate_behind : (file new : List ℕ) (round end : ℕ) (done : List (List ℕ)) (payload : List ℕ) (at : StandsAt file end payload) (rest : List ℕ) → end ≡ length (front round done) → new ≡ file
    → new ≡ front round (done ++ payload ∷ []) ++ rest → 0 < length rest
gate_behind file new round end done payload at rest place same text =
    let one = length-front round done in
    let two = length-front round (done ++ payload ∷ []) in
    let more = length-records done payload in
    let whole : length new ≡ length (front round (done ++ payload ∷ []) ++ rest) = ap length text in
    let parts : length (front round (done ++ payload ∷ []) ++ rest) ≡ length (front round (done ++ payload ∷ [])) + length rest = length-append (front round (done ++ payload ∷ [])) rest in
    let size : length new ≡ length file = ap length same in
    let dropped : length (drop end file) ≡ length file - end = length-drop end file in
    let stands : length (drop end file) ≡ length ((1 ∷ record_text payload) ++ at.rest) = ap length at.text in
    let both : length ((1 ∷ record_text payload) ++ at.rest) ≡ length (1 ∷ record_text payload) + length at.rest = length-append (1 ∷ record_text payload) at.rest in
    let record_is = length-record payload in
    let more_is = at.more in
    omega arith

-- the first of some payloads, and those behind it
first_parts : (payload : List ℕ) (more : List (List ℕ)) → Some payload ≡ first_of more → (rest : List (List ℕ)) × (more ≡ payload ∷ rest)
first_parts payload [] h = absurd cc
first_parts payload (p ∷ more) h = (more, cc)

no_first : (more : List (List ℕ)) → None ≡ first_of more → more ≡ []
no_first [] h = refl
no_first (p ∷ more) h = absurd cc

module _ (start live spare : Shown) (round end : ℕ) (d : DurableState) (first : Bool) (so_far : SoFar start live spare round end d first) where
  half_now : (payloads more : List (List ℕ)) → payloads ≡ so_far.done ++ more → IsHalf round payloads start.seen → IsHalf round (so_far.done ++ more) live.seen
  half_now payloads more is half = subst (λ f. IsHalf round (so_far.done ++ more) f) (sym so_far.quiet.seen) (subst (λ p. IsHalf round p start.seen) is half)

  -- a payload is given
  module _ (new spare_new : Shown) (end_new : ℕ) (payload : List ℕ) (quiet : Quiet live new) (reading : IsReading new spare_new round end_new (so_far.done ++ payload ∷ []))
      (held : (more : List (List ℕ)) → IsHalf round (so_far.done ++ more) live.seen → Some payload ≡ first_of more) (at : StandsAt live.seen end payload) where
    rest_behind : 0 < length reading.rest
    rest_behind = gate_behind live.seen new.seen round end so_far.done payload at reading.rest so_far.reads.reading.place (quiet.seen) reading.text

    given_more : (payloads : List (List ℕ)) → IsHalf round payloads start.seen → (more : List (List ℕ)) × (payloads ≡ (so_far.done ++ payload ∷ []) ++ more)
    given_more payloads half =
        let old = so_far.held payloads half in
        let parts = first_parts payload old.0 (held old.0 (half_now payloads old.0 old.1 half)) in
        (parts.0, old.1 ∙ ap (λ (l : List (List ℕ)). so_far.done ++ l) parts.1 ∙ sym (append_assoc so_far.done (payload ∷ []) parts.0))

    pub goes_on : (ys : List Action) (behind : DurableState) (still : Bool) → actions_of payload ≡ Some ys → fold_on first d ys ≡ Some behind → still ≡ still_first first ys → SoFar start new spare_new round end_new behind still
    goes_on ys behind still are folds first_is = record {
      done = so_far.done ++ payload ∷ [];
      reads = record {
        reading = reading;
        actions = so_far.reads.actions ++ ys;
        are = actions-push so_far.done payload so_far.reads.actions ys so_far.reads.are are;
        folds = fold-push so_far.reads.actions ys first d behind so_far.reads.folds so_far.reads.first_is folds;
        first_is = first-push so_far.reads.actions ys first still so_far.reads.first_is first_is;
      };
      quiet = quiet_on start live new so_far.quiet quiet;
      gate = inr rest_behind;
      held = given_more;
    }

    module _ (none : (ys : List Action) → actions_of payload ≡ Some ys → fold_on first d ys ≡ None) where
      stands_for_none : state_in (so_far.done ++ payload ∷ []) ≡ None
      stands_for_none = state_none so_far.done payload so_far.reads.actions first d so_far.reads.are so_far.reads.folds so_far.reads.first_is none

      pub payload_breaks : Breaks start.seen round end
      payload_breaks = record {
        done = so_far.done;
        rest = so_far.reads.reading.rest;
        text = sym so_far.quiet.seen ∙ so_far.reads.reading.text;
        place = so_far.reads.reading.place;
        sizes = so_far.reads.reading.sizes;
        gate = so_far.gate;
        state = d;
        folds = state_between so_far.done so_far.reads.actions d so_far.reads.are so_far.reads.folds;
        fault = inr (payload, subst (λ (f : List ℕ). StandsAt f end payload) so_far.quiet.seen at, last_has (λ p. length p < 2 ^ 32) so_far.done payload reading.sizes, stands_for_none);
      }

      pub never_held : (payloads : List (List ℕ)) (state : DurableState) → IsHalf round payloads start.seen → state_in payloads ≡ Some state → ⊥
      never_held payloads state half folds =
          let more = given_more payloads half in
          let between = state_front (so_far.done ++ payload ∷ []) more.0 state (ap (λ (l : List (List ℕ)). state_in l) (sym more.1) ∙ folds) in
          let clash : None ≡ Some between.0 = sym stands_for_none ∙ between.1 in
          cc

  -- the records end
  pub ends : (new spare_new : Shown) (end_new : ℕ) → IsOpen new spare_new round end_new so_far.done → Keeps new spare_new round end_new d
  ends new spare_new end_new is_open = record {
    payloads = so_far.done;
    is_open = is_open;
    folds = state_between so_far.done so_far.reads.actions d so_far.reads.are so_far.reads.folds;
  }

  pub ends_held : ((more : List (List ℕ)) → IsHalf round (so_far.done ++ more) live.seen → None ≡ first_of more) → (payloads : List (List ℕ)) → IsHalf round payloads start.seen → state_in payloads ≡ Some d
  ends_held held payloads half =
      let old = so_far.held payloads half in
      let nothing = no_first old.0 (held old.0 (half_now payloads old.0 old.1 half)) in
      ap (λ (l : List (List ℕ)). state_in l) (old.1 ∙ ap (λ (l : List (List ℕ)). so_far.done ++ l) nothing ∙ append-nil so_far.done)
      ∙ state_between so_far.done so_far.reads.actions d so_far.reads.are so_far.reads.folds

  -- the file is cut short
  pub cut_breaks : next_of (drop end live.seen) ≡ Cut → Breaks start.seen round end
  cut_breaks cut = record {
    done = so_far.done;
    rest = so_far.reads.reading.rest;
    text = sym so_far.quiet.seen ∙ so_far.reads.reading.text;
    place = so_far.reads.reading.place;
    sizes = so_far.reads.reading.sizes;
    gate = so_far.gate;
    state = d;
    folds = state_between so_far.done so_far.reads.actions d so_far.reads.are so_far.reads.folds;
    fault = inl (ap (λ (l : List ℕ). next_of (drop end l)) (sym so_far.quiet.seen) ∙ cut);
  }

  pub cut_never_held : {P : Type 0} → ((more : List (List ℕ)) → IsHalf round (so_far.done ++ more) live.seen → P) → (payloads : List (List ℕ)) → IsHalf round payloads start.seen → P
  cut_never_held held payloads half = let old = so_far.held payloads half in held old.0 (half_now payloads old.0 old.1 half)

-- the half and the place of a damage
pub damaged_is : (x y half at : ℕ) → Damaged x y ≡ Damaged half at → (x ≡ half) × (y ≡ at)
damaged_is x y half at e = (cc, cc)

abbrev the_err : {T E : Type 0} → E → Result T E
the_err x = Err x

pub err_is : {T E : Type 0} (x y : E) → the_err {T = T} x ≡ the_err {T = T} y → x ≡ y
err_is x y e = cc

pub breaks_at : (file : List ℕ) (round end other at : ℕ) → round ≡ other → end ≡ at → Breaks file round end → Breaks file other at
breaks_at file round end other at r e breaks = subst (λ (a : ℕ). Breaks file other a) e (subst (λ (o : ℕ). Breaks file o end) r breaks)
