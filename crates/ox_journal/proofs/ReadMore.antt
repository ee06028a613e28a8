-- One record more is read.
use Rattle.std.proofs.Common.{◌≡◌, ◌≢◌, ℕ, ◌+◌, ◌-◌, ◌<◌, ◌≤◌, ◌^◌, Bool, true, false, List, [], ◌∷◌, ◌++◌, All, Some, None, length, take, drop, refl, sym, ◌∙◌, ap, subst, arith, append_assoc, length-append, length-drop, take-append-drop}
use Rattle.std.proofs.lemmas.Bool.Decides.{nat_tests}
use Rattle.std.proofs.lemmas.List.{drop_at, drop-drop, append_cancel_left, get_or-append-add}
use Rattle.std.specs.Prelude.{nat_lt, ◌==◌, if◌then◌else◌}
use Rattle.ox_types.specs.Lists.{first_of}
use Rattle.ox_outside.specs.Disk.{Shown, IsSynced, Quiet}
use Rattle.ox_journal.specs.Half.{mark, be32, record_text, records_text, front}
use Rattle.ox_journal.specs.Next.{next_of, number_of, StandsAt}
use Rattle.ox_journal.specs.Pair.{IsHalf, IsReading, IsOpen}
use Rattle.ox_journal.specs.declared.reading.Next.TheVariants.{Ends, Cut, Record}
use Rattle.ox_journal.proofs.Pairs.{front-push, length-front-push, all-push}
use Rattle.ox_journal.proofs.Held.{given_first, held_ends, held_not_cut}

fits : (a b : Bool) (n len : ℕ) → (if a then (if b then Record n else Cut) else Ends) ≡ Record len → (b ≡ true) × (n ≡ len)
fits true true n len e = (refl, cc)
fits true false n len e = cc
fits false b n len e = cc

test_true : (a b : ℕ) → nat_lt a b ≡ true → a < b
test_true a b e = grind (arith, nat_tests)

pub record_long : (text : List ℕ) (len : ℕ) → next_of text ≡ Record len → len + 5 < length text
record_long [] len e = cc
record_long (g ∷ text) len e =
    let both = fits (g == 1) (nat_lt (number_of text + 4) (length text)) (number_of text) len e in
    let n : number_of text ≡ len = both.1 in
    let less : number_of text + 4 < length text = test_true (number_of text + 4) (length text) both.0 in
    omega arith

pub quiet_synced : (old new : Shown) → Quiet old new → IsSynced old → IsSynced new
quiet_synced old new quiet synced c left = synced c (quiet.now c left) ∙ sym quiet.seen

-- the record that a read of a gate and of a payload gave
pub stands : (file seen payload : List ℕ) (end len : ℕ) → seen ≡ file → length payload ≡ len → next_of (drop end file) ≡ Record len → take 5 (drop end file) ≡ 1 ∷ be32 len
    → (end + 5 + len ≤ length seen → payload ≡ take len (drop (end + 5) seen)) → StandsAt file end payload
stands file seen payload end len same size is spelled payload_is =
    let rest = drop end file in
    let long : len + 5 < length rest = record_long rest len is in
    let size_rest : length rest ≡ length file - end = length-drop end file in
    let size_seen : length seen ≡ length file = ap length same in
    let behind : drop (end + 5) seen ≡ drop 5 rest = ap (λ (l : List ℕ). drop (end + 5) l) same ∙ sym (drop-drop 5 end file) in
    let payload_at : payload ≡ take len (drop 5 rest) = payload_is (omega arith) ∙ ap (λ (l : List ℕ). take len l) behind in
    let more = drop len (drop 5 rest) in
    let size_5 : length (drop 5 rest) ≡ length rest - 5 = length-drop 5 rest in
    let size_more : length more ≡ length (drop 5 rest) - len = length-drop len (drop 5 rest) in
    let whole : rest ≡ (1 ∷ record_text payload) ++ more =
    sym (take-append-drop 5 rest) ∙ ap (λ (l : List ℕ). l ++ drop 5 rest) spelled
    ∙ ap (λ (l : List ℕ). (1 ∷ be32 len) ++ l) (sym (take-append-drop len (drop 5 rest)) ∙ ap (λ (l : List ℕ). l ++ more) (sym payload_at))
    ∙ sym (append_assoc (1 ∷ be32 len) payload more)
    ∙ ap (λ (n : ℕ). (1 ∷ be32 n ++ payload) ++ more) (sym size) in
    record { rest = more; text = whole; more = omega arith }

-- the closed gate at which the records end
pub record EndGate (text : List ℕ) : Type 0 where
  pub gate : ℕ
  pub behind : List ℕ
  pub closed : gate ≢ 1
  pub is : text ≡ gate ∷ behind

test_open : (gate : ℕ) (b : Bool) (n : ℕ) → (if gate == 1 then (if b then Record n else Cut) else Ends) ≡ Ends → gate ≢ 1
test_open gate b n e one = let is : (if gate == 1 then (if b then Record n else Cut) else Ends) ≡ (if b then Record n else Cut) = grind (arith, nat_tests) in never b (sym is ∙ e)
  where
    never : (b : Bool) → (if b then Record n else Cut) ≡ Ends → ⊥
    never true e = cc
    never false e = cc

ends_gate : (text : List ℕ) → next_of text ≡ Ends → EndGate text
ends_gate [] e = cc
ends_gate (gate ∷ behind) e = record { gate = gate; behind = behind; closed = test_open gate (nat_lt (number_of behind + 4) (length behind)) (number_of behind) e; is = refl }

later_sizes : (P : List ℕ → Type 0) (xs ys : List (List ℕ)) → All P (xs ++ ys) → All P ys
later_sizes P xs ys all k d within =
    subst P (get_or-append-add xs ys k d) (all (length xs + k) d (omega (arith, within, length-append xs ys)))

records-append : (xs ys : List (List ℕ)) → records_text (xs ++ ys) ≡ records_text xs ++ records_text ys
records-append [] ys = refl
records-append (x ∷ xs) ys =
    ap (λ (l : List ℕ). 1 ∷ record_text x ++ l) (records-append xs ys) ∙ sym (append_assoc (1 ∷ record_text x) (records_text xs) (records_text ys))

front-append : (round : ℕ) (xs ys : List (List ℕ)) → front round (xs ++ ys) ≡ front round xs ++ records_text ys
unfolding front
front-append round xs ys = ap (λ (l : List ℕ). 1 ∷ mark ++ round ∷ l) (records-append xs ys)

module _ (live spare : Shown) (round end : ℕ) (done : List (List ℕ)) (reading : IsReading live spare round end done) where
  pub at_end : drop end live.seen ≡ reading.rest
  at_end = ap (λ (l : List ℕ). drop end l) reading.text ∙ drop_at (front round done) reading.rest end (sym reading.place)

  -- nothing more is read
  pub still_reading : (new : Shown) → Quiet live new → IsReading new spare round end done
  still_reading new quiet = record {
    rest = reading.rest;
    text = quiet.seen ∙ reading.text;
    place = reading.place;
    sizes = reading.sizes;
    in_range = reading.in_range;
    synced = quiet_synced live new quiet reading.synced;
    aside = reading.aside;
  }

  pub read_more : (new : Shown) (payload : List ℕ) → Quiet live new → length payload < 2 ^ 32 → StandsAt live.seen end payload → IsReading new spare round (end + (length payload + 5)) (done ++ payload ∷ [])
  read_more new payload quiet small at =
      let whole : reading.rest ≡ (1 ∷ record_text payload) ++ at.rest = sym at_end ∙ at.text in
      let long : length (front round (done ++ payload ∷ [])) ≡ length (front round done) + (length payload + 5) = length-front-push round done payload in
      let place : end ≡ length (front round done) = reading.place in
      record {
        rest = at.rest;
        text = quiet.seen ∙ reading.text ∙ ap (λ (l : List ℕ). front round done ++ l) whole
            ∙ sym (append_assoc (front round done) (1 ∷ record_text payload) at.rest)
            ∙ ap (λ (l : List ℕ). l ++ at.rest) (sym (front-push round done payload));
        place = omega arith;
        sizes = all-push (λ p. length p < 2 ^ 32) done payload reading.sizes small;
        in_range = reading.in_range;
        synced = quiet_synced live new quiet reading.synced;
        aside = reading.aside;
      }

  pub read_all : (new : Shown) → Quiet live new → next_of (drop end live.seen) ≡ Ends → IsOpen new spare round end done
  read_all new quiet ends =
      let last = ends_gate reading.rest (ap next_of (sym at_end) ∙ ends) in
      record {
        half = record {
          shut = record { gate = last.gate; behind = last.behind; closed = last.closed; is = quiet.seen ∙ reading.text ∙ ap (λ (l : List ℕ). front round done ++ l) last.is };
          sizes = reading.sizes;
          in_range = reading.in_range;
        };
        place = reading.place;
        synced = quiet_synced live new quiet reading.synced;
        aside = reading.aside;
      }

  -- the records of a half that holds these, from those that are read on
  module _ (more : List (List ℕ)) (half : IsHalf round (done ++ more) live.seen) where
    behind_done : reading.rest ≡ records_text more ++ half.shut.gate ∷ half.shut.behind
    behind_done =
        let end_text = half.shut.gate ∷ half.shut.behind in
        let two : front round (done ++ more) ++ end_text ≡ front round done ++ (records_text more ++ end_text) =
        ap (λ (l : List ℕ). l ++ end_text) (front-append round done more) ∙ append_assoc (front round done) (records_text more) end_text in
        append_cancel_left (front round done) reading.rest (records_text more ++ end_text) (sym reading.text ∙ half.shut.is ∙ two)

    more_sizes : All (λ p. length p < 2 ^ 32) more
    more_sizes = later_sizes (λ p. length p < 2 ^ 32) done more half.sizes

    pub held_next : (payload : List ℕ) → length payload < 2 ^ 32 → StandsAt live.seen end payload → Some payload ≡ first_of more
    held_next payload small at = given_first reading.rest more half.shut.gate half.shut.behind payload at.rest behind_done half.shut.closed more_sizes (sym at_end ∙ at.text) small

    pub held_none : next_of (drop end live.seen) ≡ Ends → None ≡ first_of more
    held_none ends = held_ends reading.rest more half.shut.gate half.shut.behind behind_done (ap next_of (sym at_end) ∙ ends)

    pub held_whole : next_of (drop end live.seen) ≡ Cut → ⊥
    held_whole cut = held_not_cut reading.rest more half.shut.gate half.shut.behind behind_done half.shut.closed more_sizes (ap next_of (sym at_end) ∙ cut)
