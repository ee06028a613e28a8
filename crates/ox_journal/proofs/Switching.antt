-- A rewrite of a journal into its other half.
use Rattle.std.proofs.Common.{◌≡◌, inl, inr, ℕ, zero, suc, ◌+◌, ◌<◌, ◌^◌, Bool, true, false, List, [], ◌∷◌, ◌++◌, All, length, refl, sym, ◌∙◌, ap, subst, arith, append_assoc, length-append, zero-add, add-zero}
use Rattle.std.proofs.lemmas.List.{append-nil}
use Rattle.std.proofs.lemmas.Bool.Decides.{nat_tests}
use Rattle.std.specs.Prelude.{nat_lt, if◌then◌else◌}
use Rattle.ox_outside.specs.Disk.{Shown, MayLeave, IsSynced, LeavesOnly}
use Rattle.ox_journal.specs.Half.{mark, be32, record_text, records_text, front, Shut}
use Rattle.ox_journal.specs.Head.{head_of}
use Rattle.ox_journal.specs.Made.{DeadOr}
use Rattle.ox_journal.specs.Append.{WithOrWithout}
use Rattle.ox_journal.specs.Filling.{Fills, Gathers, begun_text, BegunSizes, IsRewriting, OldOrNew, inner, next_round}
use Rattle.ox_journal.specs.Pair.{IsHalf, Older, IsClosed, IsAside, IsOpen, LeavesPairs, Holds}
use Rattle.ox_journal.specs.declared.head.Head.{Head}
use Rattle.ox_journal.specs.declared.head.Head.TheVariants.{Bad, Round}
use Rattle.ox_journal.proofs.Heads.{shut_dead}

-- the text of records of which the last lacks some bytes
pub begun_last : (left : ℕ) (first : List (List ℕ)) (last : List ℕ) → begun_text left (first ++ last ∷ []) ≡ records_text first ++ (1 ∷ be32 (length last + left) ++ last)
begun_last left [] last = refl
begun_last left (p ∷ []) last = ap (λ (l : List ℕ). l ++ (1 ∷ be32 (length last + left) ++ last)) (sym (append-nil (1 ∷ record_text p)))
begun_last left (p ∷ q ∷ first) last =
    ap (λ (l : List ℕ). 1 ∷ record_text p ++ l) (begun_last left (q ∷ first) last) ∙ sym (append_assoc (1 ∷ record_text p) (records_text (q ∷ first)) (1 ∷ be32 (length last + left) ++ last))

pub begun_whole : (payloads : List (List ℕ)) → begun_text 0 payloads ≡ records_text payloads
begun_whole [] = refl
begun_whole (last ∷ []) = ap (λ (n : ℕ). 1 ∷ be32 n ++ last) (add-zero (length last)) ∙ sym (append-nil (1 ∷ record_text last))
begun_whole (p ∷ q ∷ payloads) = ap (λ (l : List ℕ). 1 ∷ record_text p ++ l) (begun_whole (q ∷ payloads))

pub sizes_last : (left : ℕ) (first : List (List ℕ)) (last : List ℕ) → BegunSizes left (first ++ last ∷ []) → length last + left < 2 ^ 32
sizes_last left [] last sizes = sizes
sizes_last left (p ∷ []) last sizes = sizes.1
sizes_last left (p ∷ q ∷ first) last sizes = sizes_last left (q ∷ first) last sizes.1

pub sizes_next : (left more : ℕ) (first : List (List ℕ)) (last next : List ℕ) → length next + more < 2 ^ 32 → BegunSizes left (first ++ last ∷ []) → BegunSizes more (first ++ next ∷ [])
sizes_next left more [] last next small sizes = small
sizes_next left more (p ∷ []) last next small sizes = (sizes.0, small)
sizes_next left more (p ∷ q ∷ first) last next small sizes = (sizes.0, sizes_next left more (q ∷ first) last next small sizes.1)

pub sizes_begin : (len : ℕ) (new : List (List ℕ)) → len < 2 ^ 32 → BegunSizes 0 new → BegunSizes len (new ++ [] ∷ [])
sizes_begin len [] small sizes = omega arith
sizes_begin len (p ∷ []) small sizes = (omega arith, omega arith)
sizes_begin len (p ∷ q ∷ new) small sizes = (sizes.0, sizes_begin len (q ∷ new) small sizes.1)

pub sizes_whole : (payloads : List (List ℕ)) → BegunSizes 0 payloads → All (λ p. length p < 2 ^ 32) payloads
sizes_whole [] sizes k d within = absurd (omega arith)
sizes_whole (last ∷ []) sizes zero d within = omega arith
sizes_whole (last ∷ []) sizes (suc k) d within = absurd (omega arith)
sizes_whole (p ∷ q ∷ payloads) sizes zero d within = sizes.0
sizes_whole (p ∷ q ∷ payloads) sizes (suc k) d within = sizes_whole (q ∷ payloads) sizes.1 k d (omega arith)

-- one record more is begun
pub begins : (round len : ℕ) (new : List (List ℕ)) → inner round 0 new ++ 1 ∷ be32 len ≡ inner round len (new ++ [] ∷ [])
begins round len new =
    append_assoc (mark ++ round ∷ []) (begun_text 0 new) (1 ∷ be32 len)
    ∙ ap (λ (l : List ℕ). mark ++ round ∷ l) (ap (λ (l : List ℕ). l ++ 1 ∷ be32 len) (begun_whole new) ∙ sym (begun_last len new [] ∙ last))
  where
    last : records_text new ++ (1 ∷ be32 (length {A = ℕ} [] + len) ++ []) ≡ records_text new ++ 1 ∷ be32 len
    last = ap (λ (l : List ℕ). records_text new ++ l) (append-nil (1 ∷ be32 (0 + len)) ∙ ap (λ (n : ℕ). 1 ∷ be32 n) (zero-add len))

-- the last has some bytes more
pub adds : (round left more : ℕ) (first : List (List ℕ)) (last bytes : List ℕ) → more + length bytes ≡ left → inner round left (first ++ last ∷ []) ++ bytes ≡ inner round more (first ++ (last ++ bytes) ∷ [])
adds round left more first last bytes is =
    append_assoc (mark ++ round ∷ []) (begun_text left (first ++ last ∷ [])) bytes
    ∙ ap (λ (l : List ℕ). mark ++ round ∷ l) (ap (λ (l : List ℕ). l ++ bytes) (begun_last left first last) ∙ regroup ∙ sym (begun_last more first (last ++ bytes)))
  where
    size : length last + left ≡ length (last ++ bytes) + more
    size = omega (arith, length-append last bytes)

    regroup : (records_text first ++ (1 ∷ be32 (length last + left) ++ last)) ++ bytes ≡ records_text first ++ (1 ∷ be32 (length (last ++ bytes) + more) ++ (last ++ bytes))
    regroup =
        ap (λ (n : ℕ). (records_text first ++ (1 ∷ be32 n ++ last)) ++ bytes) size
        ∙ append_assoc (records_text first) (1 ∷ be32 (length (last ++ bytes) + more) ++ last) bytes
        ∙ ap (λ (l : List ℕ). records_text first ++ l) (append_assoc (1 ∷ be32 (length (last ++ bytes) + more)) last bytes)

older_of : (round : ℕ) (file c : List ℕ) → Older round file → DeadOr (head_of file) c → Older round c
older_of round file c older (inl dead) = inl dead
older_of round file c (inl dead) (inr same) = inl (same ∙ dead)
older_of round file c (inr behind) (inr same) = inr (behind.0, same ∙ behind.1, behind.2)

round_test : (r : ℕ) → r < 3 → nat_lt r 3 ≡ true
round_test r less = grind (arith, nat_tests)

if_true : (b : Bool) (x y : Head) → b ≡ true → (if b then x else y) ≡ x
if_true true x y e = refl
if_true false x y e = cc

-- the head of a half
pub half_head : (round : ℕ) (payloads : List (List ℕ)) (file : List ℕ) → IsHalf round payloads file → head_of file ≡ Round round
unfolding front
half_head round payloads file half = ap head_of half.shut.is ∙ if_true (nat_lt round 3) (Round round) (Bad 9) (round_test round half.in_range)

-- The other half changes, and the journal stays.
module _ (live spare : Shown) (round end : ℕ) (payloads : List (List ℕ)) (is_open : IsOpen live spare round end payloads) where
  holds : (d : List ℕ) → Older round d → Holds live.seen d payloads
  holds d older = inl (round, is_open.half, older)

  leaves : (new : Shown) (P : List ℕ → Type 0) → ((d : List ℕ) → P d → Older round d) → LeavesOnly spare new P → LeavesPairs live spare live new (λ c d. Holds c d payloads)
  leaves new P older left = record {
    seen = holds new.seen (older new.seen left.seen);
    now = λ c d at_c at_d. subst (λ f. Holds f d payloads) (sym (is_open.synced c at_c)) (holds d (older d (left.now d at_d)));
    each = λ c d at_c at_d. subst (λ f. Holds f d payloads) (sym (is_open.synced c at_c)) (holds d (older d (left.each d at_d)));
  }

  -- after a fill
  pub fill_leaves : (new : Shown) → LeavesOnly spare new (Shut []) → LeavesPairs live spare live new (λ c d. Holds c d payloads)
  fill_leaves new left = leaves new (Shut []) (λ d shut. inl (shut_dead d shut)) left

  prepared_aside : (new : Shown) → IsAside round spare → (IsSynced spare → LeavesOnly spare new (DeadOr (head_of spare.seen))) → (IsClosed spare → LeavesOnly spare new (Shut []))
      → LeavesPairs live spare live new (λ c d. Holds c d payloads)
  prepared_aside new (inl safe) one two = leaves new (DeadOr (head_of spare.seen)) (λ d dead_or. older_of round spare.seen d safe.1 dead_or) (one safe.0)
  prepared_aside new (inr closed) one two = fill_leaves new (two closed)

  -- after a prepare
  pub prepare_leaves : (new : Shown) → (IsSynced spare → LeavesOnly spare new (DeadOr (head_of spare.seen))) → (IsClosed spare → LeavesOnly spare new (Shut []))
      → LeavesPairs live spare live new (λ c d. Holds c d payloads)
  prepare_leaves new one two = prepared_aside new is_open.aside one two

  pub with_spare : (new : Shown) → IsAside round new → IsOpen live new round end payloads
  with_spare new aside = record { half = is_open.half; place = is_open.place; synced = is_open.synced; aside = aside }

  fills_none : (new : Shown) → Shut [] new.seen → ((c : List ℕ) → MayLeave new c → Shut [] c) → Fills new []
  fills_none new shut left = record {
    staged = record { gate = shut.gate; rest = shut.behind; closed = shut.closed; is = shut.is };
    left = left;
  }

  rewriting_none : (new : Shown) (buffer : List ℕ) → Fills new [] → buffer ≡ inner (next_round round) 0 [] → IsRewriting new round 0 0 buffer []
  rewriting_none new buffer fills is = record { gathers = record { written = []; fills = fills; filled_is = refl; text_is = is }; sizes = tt }

  prepared_case : (new : Shown) (buffer : List ℕ) → IsAside round spare → (IsSynced spare → Shut [] new.seen × IsSynced new) → (IsClosed spare → IsClosed new)
      → buffer ≡ inner (next_round round) 0 [] → IsOpen live new round end payloads × IsRewriting new round 0 0 buffer []
  prepared_case new buffer (inl safe) one two is =
      let made = one safe.0 in (
        with_spare new (inl (made.1, inl (shut_dead new.seen made.0))),
        rewriting_none new buffer (fills_none new made.0 (λ c left. subst (λ f. Shut [] f) (sym (made.1 c left)) made.0)) is,
      )
  prepared_case new buffer (inr closed) one two is =
      let still = two closed in
      (with_spare new (inr still), rewriting_none new buffer (fills_none new still.shut still.left) is)

  pub prepared : (new : Shown) (buffer : List ℕ) → (IsSynced spare → Shut [] new.seen × IsSynced new) → (IsClosed spare → IsClosed new)
      → buffer ≡ inner (next_round round) 0 [] → IsOpen live new round end payloads × IsRewriting new round 0 0 buffer []
  prepared new buffer one two is = prepared_case new buffer is_open.aside one two is

  -- The half that was filled becomes the journal.
  module _ (filled : ℕ) (buffer : List ℕ) (new : List (List ℕ)) (rewriting : IsRewriting spare round filled 0 buffer new) where
    new_half : (d : List ℕ) → Shut (1 ∷ inner (next_round round) 0 new) d → IsHalf (next_round round) new d
    unfolding front
    new_half d shut = record {
      shut = subst (λ t. Shut (1 ∷ mark ++ next_round round ∷ t) d) (begun_whole new) shut;
      sizes = sizes_whole new rewriting.sizes;
      in_range = omega arith;
    }

    switch_pair : (d : List ℕ) → WithOrWithout [] (inner (next_round round) 0 new) d → OldOrNew payloads new live.seen d
    switch_pair d (inl shut) = inl (holds d (inl (shut_dead d shut)))
    switch_pair d (inr shut) = inr (inr (next_round round, new_half d shut, inr (round, half_head round payloads live.seen is_open.half, refl)))

    pub switch_leaves : (spare_new : Shown) → LeavesOnly spare spare_new (WithOrWithout [] (inner (next_round round) 0 new)) → LeavesPairs live spare live spare_new (OldOrNew payloads new)
    switch_leaves spare_new left = record {
      seen = switch_pair spare_new.seen left.seen;
      now = λ c d at_c at_d. subst (λ f. OldOrNew payloads new f d) (sym (is_open.synced c at_c)) (switch_pair d (left.now d at_d));
      each = λ c d at_c at_d. subst (λ f. OldOrNew payloads new f d) (sym (is_open.synced c at_c)) (switch_pair d (left.each d at_d));
    }

    pub switched : (spare_new : Shown) (end_new : ℕ) → Shut (1 ∷ inner (next_round round) 0 new) spare_new.seen × IsSynced spare_new → end_new ≡ filled + length buffer + 1 → IsOpen spare_new live (next_round round) end_new new
    unfolding front
    switched spare_new end_new made size = record {
      half = new_half spare_new.seen made.0;
      place =
          let gathers = rewriting.gathers in
          let filled_is : filled ≡ length gathers.written = gathers.filled_is in
          let long : length (gathers.written ++ buffer) ≡ length gathers.written + length buffer = length-append gathers.written buffer in
          let same : length (gathers.written ++ buffer) ≡ length (mark ++ next_round round ∷ records_text new) = ap length (gathers.text_is ∙ ap (λ (l : List ℕ). mark ++ next_round round ∷ l) (begun_whole new)) in
          omega arith;
      synced = made.1;
      aside = inl (is_open.synced, inr (round, half_head round payloads live.seen is_open.half, refl));
    }

-- the rest of a text, with the closed gate behind it
pub closes : (disk : Shown) (filled : ℕ) (buffer text : List ℕ) (gathers : Gathers disk filled buffer text) (bytes : List ℕ) → bytes ≡ buffer ++ 0 ∷ [] → gathers.written ++ bytes ≡ text ++ 0 ∷ []
closes disk filled buffer text gathers bytes is =
    ap (λ (l : List ℕ). gathers.written ++ l) is ∙ sym (append_assoc gathers.written buffer (0 ∷ [])) ∙ ap (λ (l : List ℕ). l ++ 0 ∷ []) gathers.text_is

-- after a fill
pub filled_more : (spare : Shown) (round filled left less : ℕ) (buffer : List ℕ) (first : List (List ℕ)) (last bytes : List ℕ) → less + length bytes ≡ left → BegunSizes left (first ++ last ∷ [])
    → Gathers spare filled buffer (inner (next_round round) left (first ++ last ∷ []) ++ bytes) → IsRewriting spare round filled less buffer (first ++ (last ++ bytes) ∷ [])
filled_more spare round filled left less buffer first last bytes is sizes gathers =
    let size : length last + left < 2 ^ 32 = sizes_last left first last sizes in
    let long : length (last ++ bytes) ≡ length last + length bytes = length-append last bytes in
    record {
      gathers = subst (λ (t : List ℕ). Gathers spare filled buffer t) (adds (next_round round) left less first last bytes is) gathers;
      sizes = sizes_next left less first last (last ++ bytes) (omega arith) sizes;
    }

-- after a record is begun
pub record_begun : (spare : Shown) (round filled left len : ℕ) (buffer bytes : List ℕ) (new : List (List ℕ)) → left ≡ 0 → len < 2 ^ 32 → bytes ≡ 1 ∷ be32 len → BegunSizes left new
    → Gathers spare filled buffer (inner (next_round round) left new ++ bytes) → IsRewriting spare round filled len buffer (new ++ [] ∷ [])
record_begun spare round filled left len buffer bytes new none small is sizes gathers = record {
  gathers = subst (λ (t : List ℕ). Gathers spare filled buffer t)
      (ap (λ (l : List ℕ). inner (next_round round) left new ++ l) is ∙ ap (λ (n : ℕ). inner (next_round round) n new ++ 1 ∷ be32 len) none ∙ begins (next_round round) len new) gathers;
  sizes = sizes_begin len new small (subst (λ (n : ℕ). BegunSizes n new) none sizes);
}

-- a rewrite whose last record has all its bytes
pub whole_now : (spare : Shown) (round filled left : ℕ) (buffer : List ℕ) (new : List (List ℕ)) → left ≡ 0 → IsRewriting spare round filled left buffer new → IsRewriting spare round filled 0 buffer new
whole_now spare round filled left buffer new none rewriting = subst (λ (n : ℕ). IsRewriting spare round filled n buffer new) none rewriting
