-- What the writes of a fill leave.
use Rattle.std.proofs.Common.{◌≡◌, inl, ℕ, zero, suc, ◌+◌, ◌-◌, ◌≤◌, List, [], ◌∷◌, ◌++◌, length, take, drop, Result, refl, sym, ◌∙◌, ap, subst, arith, append_assoc, length-append, take-append-drop}
use Rattle.std.proofs.lemmas.List.{take_at, take-take}
use Rattle.ox_outside.specs.Disk.{Shown, Placed, Torn, Writes, LeavesOnly}
use Rattle.ox_journal.specs.Half.{Shut, Staged}
use Rattle.ox_journal.specs.Append.{Opens, WithOrWithout}
use Rattle.ox_journal.specs.Filling.{Fills, Gathers}
use Rattle.ox_journal.specs.Pair.{IsClosed}
use Rattle.ox_journal.proofs.Steps.{wrote_more}

-- a write behind the first byte leaves it
pub torn_behind_first : (at n : ℕ) (d c : List ℕ) → Shut [] d → Torn (at + 1) n d c → Shut [] c
torn_behind_first at n d c shut torn =
    let one : take 1 (take (at + 1) c) ≡ take 1 c = take-take 1 (at + 1) c (omega arith) in
    let one_d : take 1 (take (at + 1) d) ≡ take 1 d = take-take 1 (at + 1) d (omega arith) in
    let first : take 1 c ≡ shut.gate ∷ [] = sym one ∙ ap (λ (l : List ℕ). take 1 l) torn.before ∙ one_d ∙ ap (λ (l : List ℕ). take 1 l) shut.is in
    record {
      gate = shut.gate;
      behind = drop 1 c;
      closed = shut.closed;
      is = sym (take-append-drop 1 c) ∙ ap (λ (l : List ℕ). l ++ drop 1 c) first;
    }

pub filled_long : (disk : Shown) (text : List ℕ) (at : ℕ) → Fills disk text → at ≡ length text → at + 1 ≤ length disk.seen
filled_long disk text at fills place =
    let staged = fills.staged in
    let size : length disk.seen ≡ length (staged.gate ∷ (text ++ staged.rest)) = ap length staged.is in
    let long : length (text ++ staged.rest) ≡ length text + length staged.rest = length-append text staged.rest in
    omega arith

module _ (start : Shown) (text piece : List ℕ) (at : ℕ) (fills : Fills start text) (place : at ≡ length text) where
  abbrev P : List ℕ → Type 0
  P = Shut []

  shut_seen : Shut [] start.seen
  shut_seen = record { gate = fills.staged.gate; behind = text ++ fills.staged.rest; closed = fills.staged.closed; is = fills.staged.is }

  begun : LeavesOnly start start P
  begun = record { later = omega arith; seen = shut_seen; now = fills.left; each = fills.left; before = λ t c le left. inl left }

  pub filled : {T E : Type 0} (new : Shown) (r : Result T E) → Writes start (at + 1) piece new r → LeavesOnly start new P
  filled new r writes = wrote_more P start start (at + 1) piece new r begun (filled_long start text at fills place) writes (λ d c shut torn. torn_behind_first at (length piece) d c shut torn)

  pub fills_more : {T E : Type 0} (new : Shown) (r : Result T E) → Placed start.seen (at + 1) piece new.seen → Writes start (at + 1) piece new r → Fills new (text ++ piece)
  fills_more new r placed writes =
      let staged = fills.staged in
      let rest = drop (at + 1 + length piece) start.seen in
      let size : length (staged.gate ∷ text) ≡ at + 1 = omega arith in
      let front : take (at + 1) start.seen ≡ staged.gate ∷ text = ap (λ (l : List ℕ). take (at + 1) l) staged.is ∙ take_at (staged.gate ∷ text) staged.rest (at + 1) size in
      record {
        staged = record {
          gate = staged.gate;
          rest = rest;
          closed = staged.closed;
          is = placed ∙ ap (λ (l : List ℕ). l ++ piece ++ rest) front;
        };
        left = λ c left. (filled new r writes).now c left;
      }

-- a half that is filled to its end may be opened
pub fills_opens : (disk : Shown) (front rest text : List ℕ) → Fills disk (front ++ rest) → front ++ rest ≡ text ++ 0 ∷ [] → Opens disk 0 [] text
fills_opens disk front rest text fills is = record {
  staged = subst (λ t. Staged [] t disk.seen) is fills.staged;
  place = refl;
  left = fills.left;
}

pub shut_or_open : (text c : List ℕ) → Shut [] c → WithOrWithout [] text c
shut_or_open text c shut = inl shut

-- A text of which the rest waits in a buffer.
module _ (disk : Shown) (filled_to : ℕ) (buffer text : List ℕ) (gathers : Gathers disk filled_to buffer text) where
  still_shut : Shut [] disk.seen
  still_shut = let staged = gathers.fills.staged in record { gate = staged.gate; behind = gathers.written ++ staged.rest; closed = staged.closed; is = staged.is }

  pub waits : LeavesOnly disk disk (Shut [])
  waits = record { later = omega arith; seen = still_shut; now = gathers.fills.left; each = gathers.fills.left; before = λ t c le left. inl left }

  pub buffered : (more buffer_new : List ℕ) → buffer_new ≡ buffer ++ more → Gathers disk filled_to buffer_new (text ++ more)
  buffered more buffer_new is = record {
    written = gathers.written;
    fills = gathers.fills;
    filled_is = gathers.filled_is;
    text_is = ap (λ (l : List ℕ). gathers.written ++ l) is ∙ sym (append_assoc gathers.written buffer more) ∙ ap (λ (l : List ℕ). l ++ more) gathers.text_is;
  }

  pub flushed : (new : Shown) (piece front back more buffer_new : List ℕ) (n : ℕ) → piece ≡ buffer ++ front → length piece ≡ n → front ++ back ≡ more → buffer_new ≡ back → Fills new (gathers.written ++ piece) → Gathers new (filled_to + n) buffer_new (text ++ more)
  flushed new piece front back more buffer_new n is size whole rest fills = record {
    written = gathers.written ++ piece;
    fills = fills;
    filled_is = let filled_is = gathers.filled_is in omega (arith, length-append gathers.written piece);
    text_is =
        ap (λ (l : List ℕ). (gathers.written ++ piece) ++ l) rest
        ∙ ap (λ (l : List ℕ). (gathers.written ++ l) ++ back) is
        ∙ ap (λ (l : List ℕ). l ++ back) (sym (append_assoc gathers.written buffer front))
        ∙ append_assoc (gathers.written ++ buffer) front back
        ∙ ap (λ (l : List ℕ). l ++ (front ++ back)) gathers.text_is
        ∙ ap (λ (l : List ℕ). text ++ l) whole;
  }

-- a half of which a piece is written is closed
pub fills_closed : (disk : Shown) (text piece : List ℕ) → Fills disk (text ++ piece) → 1 ≤ length piece → IsClosed disk
fills_closed disk text piece fills some =
    let staged = fills.staged in
    let long : length disk.seen ≡ length (staged.gate ∷ ((text ++ piece) ++ staged.rest)) = ap length staged.is in
    let parts : length ((text ++ piece) ++ staged.rest) ≡ length (text ++ piece) + length staged.rest = length-append (text ++ piece) staged.rest in
    let two : length (text ++ piece) ≡ length text + length piece = length-append text piece in
    record {
      shut = record { gate = staged.gate; behind = (text ++ piece) ++ staged.rest; closed = staged.closed; is = staged.is };
      left = fills.left;
      long = omega arith;
    }

-- the front up to one place, and then what stands from there to another
pub taken_on : (bytes : List ℕ) (at end : ℕ) → at ≤ end → take at bytes ++ take (end - at) (drop at bytes) ≡ take end bytes
taken_on bytes zero end le = ap (λ (n : ℕ). take n bytes) (omega arith)
taken_on [] (suc at) zero le = absurd (omega arith)
taken_on [] (suc at) (suc end) le = none (suc end - suc at)
  where
    none : (n : ℕ) → take {A = ℕ} n [] ≡ []
    none zero = refl
    none (suc n) = refl
taken_on (x ∷ bytes) (suc at) zero le = absurd (omega arith)
taken_on (x ∷ bytes) (suc at) (suc end) le =
    let less : suc end - suc at ≡ end - at = omega arith in
    ap (λ (l : List ℕ). x ∷ l) (ap (λ (n : ℕ). take at bytes ++ take n (drop at bytes)) less ∙ taken_on bytes at end (omega arith))
