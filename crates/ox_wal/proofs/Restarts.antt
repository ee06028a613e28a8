-- What a recovery finds on two disks, and leaves of them.
use Rattle.std.proofs.Common.{◌≡◌, inl, inr, ◌⊎◌, ℕ, suc, zero, ◌<◌, ◌+◌, ◌%◌, List, [], Some, Result, Ok, Err, refl, sym, ap, ◌∙◌, subst, arith}
use Rattle.std.proofs.lemmas.Bool.{cases_eq}
use Rattle.std.proofs.lemmas.Bool.Decides.{nat_tests}
use Rattle.std.specs.Prelude.{IfOk, IfErr}
use Rattle.ox_types.specs.Durable.{DurableState, blank}
use Rattle.ox_outside.specs.Disk.{Shown, MayLeave, Quiet, LeavesOnly}
use Rattle.ox_journal.specs.Head.{head_of, choice, later_of}
use Rattle.ox_journal.specs.Made.{DeadOrMade}
use Rattle.ox_journal.specs.Opening.{chosen, BothQuiet, Recovered, IsUnformatted}
use Rattle.ox_journal.specs.Pair.{IsHalf, Holds, LeavesPairs}
use Rattle.ox_journal.specs.declared.head.Head.{Head}
use Rattle.ox_journal.specs.declared.head.Head.TheVariants.{Dead, Bad, Round}
use Rattle.ox_journal.specs.declared.head.Choice.{Choice}
use Rattle.ox_journal.specs.declared.head.Choice.TheVariants.{Neither, Damaged, Live}
use Rattle.ox_journal.specs.declared.fault.JournalFault.{JournalFault}
use Rattle.ox_journal.specs.declared.fault.JournalFault.TheVariants.{Unformatted, DiskFault, NoMemory, Damaged as DamagedAt}
use Rattle.ox_wal.specs.Files.{state_in, HoldsState, Stands, StandFor, Keeps, Breaks, IsDamaged, IsFormatted, half_of}
use Rattle.ox_wal.proofs.Crashes.{aside_seen, keeps_seen}

pub half_cases : (n : ℕ) → n < 2 → (n ≡ 0) ⊎ (n ≡ 1)
half_cases zero lt = inl refl
half_cases (suc zero) lt = inr refl
half_cases (suc (suc n)) lt = absurd (omega arith)

-- two dead halves are no journal
dead_choice : (one two : Head) → one ≡ Dead → two ≡ Dead → choice one two ≡ Neither
dead_choice one two d1 d2 = ap (λ (h : Head). choice h two) d1 ∙ ap (λ (h : Head). choice Dead h) d2

pub dead_neither : (first second : Shown) → head_of first.seen ≡ Dead → head_of second.seen ≡ Dead → chosen first second ≡ Neither
dead_neither first second d1 d2 = dead_choice (head_of first.seen) (head_of second.seen) d1 d2

pub neither_not_live : (x : Choice) (half round : ℕ) → x ≡ Live half round → x ≡ Neither → ⊥
neither_not_live x half round h k = let clash : Live half round ≡ Neither = sym h ∙ k in cc

pub neither_not_damaged : (x : Choice) (half at : ℕ) → x ≡ Damaged half at → x ≡ Neither → ⊥
neither_not_damaged x half at h k = let clash : Damaged half at ≡ Neither = sym h ∙ k in cc

later_never : (a b : ℕ) → later_of a b ≡ Neither → ⊥
later_never a b e = elim (cases_eq a b) [
  | inl same ↦ let bad : later_of a b ≡ Damaged 1 9 = grind (arith, nat_tests) in let f : Damaged 1 9 ≡ Neither = sym bad ∙ e in cc
  | inr differ ↦ elim (cases_eq a ((b + 1) % 3)) [
    | inl next ↦ let is : later_of a b ≡ Live 0 a = grind (arith, nat_tests) in let f : Live 0 a ≡ Neither = sym is ∙ e in cc
    | inr apart ↦ let is : later_of a b ≡ Live 1 b = grind (arith, nat_tests) in let f : Live 1 b ≡ Neither = sym is ∙ e in cc
  ]
]

both_dead : (one two : Head) → choice one two ≡ Neither → (one ≡ Dead) × (two ≡ Dead)
both_dead (Bad at) two e = cc
both_dead Dead (Bad at) e = cc
both_dead Dead Dead e = (refl, refl)
both_dead Dead (Round b) e = cc
both_dead (Round a) (Bad at) e = cc
both_dead (Round a) Dead e = cc
both_dead (Round a) (Round b) e = absurd (later_never a b e)

swapped : (a b : List ℕ) (payloads : List (List ℕ)) → Holds a b payloads → Holds b a payloads
swapped a b payloads (inl one) = inr one
swapped a b payloads (inr two) = inl two

swap_state : (a b : List ℕ) (d : DurableState) → HoldsState a b d → HoldsState b a d
swap_state a b d holds = record { payloads = holds.payloads; holds = swapped a b holds.payloads holds.holds; folds = holds.folds }

holds_at : (a b x y : List ℕ) (d : DurableState) → a ≡ x → b ≡ y → HoldsState a b d → HoldsState x y d
holds_at a b x y d ax by holds = subst (λ (f : List ℕ). HoldsState x f d) by (subst (λ (f : List ℕ). HoldsState f b d) ax holds)

stands_at : (a b x y : List ℕ) (d : DurableState) → a ≡ x → b ≡ y → Stands a b d → Stands x y d
stands_at a b x y d ax by stands = subst (λ (f : List ℕ). Stands x f d) by (subst (λ (f : List ℕ). Stands f b d) ax stands)

-- disks that nothing changed
pub quiet_leaves : (first second a b : Shown) (d : DurableState) → StandFor first second d → Quiet first a → Quiet second b → LeavesPairs first second a b (λ c e. Stands c e d)
quiet_leaves first second a b d stand one two = record {
  seen = stands_at first.seen second.seen a.seen b.seen d (sym one.seen) (sym two.seen) stand.seen;
  now = λ c e at_c at_e. stand.left c e (one.now c at_c) (two.now e at_e);
  each = λ c e at_c at_e. stand.left c e (one.each c at_c) (two.each e at_e);
}

-- A pair with a journal.
module _ (first second live spare : Shown) (half round end : ℕ) (recovered : Recovered first second live spare half round end) (below : half < 2) where
  pub stands_first : (d : DurableState) → HoldsState live.seen spare.seen d → HoldsState first.seen second.seen d
  stands_first d holds = elim (half_cases half below) [
    | inl is ↦ let q = recovered.zero is in holds_at live.seen spare.seen first.seen second.seen d q.one.seen q.two.seen holds
    | inr one ↦ let q = recovered.one one in swap_state second.seen first.seen d (holds_at live.seen spare.seen second.seen first.seen d q.two.seen q.one.seen holds)
  ]

  pub half_stands : (payloads : List (List ℕ)) (d : DurableState) → IsHalf round payloads live.seen → state_in payloads ≡ Some d → HoldsState first.seen second.seen d
  half_stands payloads d is folds = stands_first d (record { payloads = payloads; holds = inl (round, is, aside_seen round spare recovered.reading.aside); folds = folds })

  pub never_dead : head_of first.seen ≡ Dead → head_of second.seen ≡ Dead → ⊥
  never_dead d1 d2 = neither_not_live (chosen first second) half round recovered.heads (dead_neither first second d1 d2)

  file_is : half_of half first.seen second.seen ≡ live.seen
  file_is = elim (half_cases half below) [
    | inl is ↦ ap (λ (h : ℕ). half_of h first.seen second.seen) is ∙ sym (recovered.zero is).one.seen
    | inr one ↦ ap (λ (h : ℕ). half_of h first.seen second.seen) one ∙ sym (recovered.one one).two.seen
  ]

  pub breaks_there : (other at : ℕ) → other ≡ half → Breaks live.seen round at → IsDamaged first.seen second.seen other at
  breaks_there other at same breaks = inr (
    round,
    recovered.heads ∙ ap (λ (h : ℕ). Live h round) (sym same),
    subst (λ (f : List ℕ). Breaks f round at) (sym (ap (λ (h : ℕ). half_of h first.seen second.seen) same ∙ file_is)) breaks,
  )

  -- the log that was read
  module _ (new spare_new : Shown) (round_new end_new : ℕ) (d : DurableState) (quiet : Quiet live new) (keeps : Keeps new spare_new round_new end_new d) (same : spare_new.seen ≡ spare.seen) where
    pub kept_stands : HoldsState first.seen second.seen d
    kept_stands = stands_first d (holds_at new.seen spare_new.seen live.seen spare.seen d quiet.seen same (keeps_seen new spare_new round_new end_new d keeps))

-- A pair without one.
module _ (first second first_now second_now : Shown) (quiet : BothQuiet first second first_now second_now) (none : IsUnformatted first_now second_now) where
  dead_both : (head_of first_now.seen ≡ Dead) × (head_of second_now.seen ≡ Dead)
  dead_both = both_dead (head_of first_now.seen) (head_of second_now.seen) none.heads

  pub dead_first : head_of first.seen ≡ Dead
  dead_first = ap head_of (sym quiet.one.seen) ∙ dead_both.0

  pub dead_second : head_of second.seen ≡ Dead
  dead_second = ap head_of (sym quiet.two.seen) ∙ dead_both.1

  pub made_stands : (c : List ℕ) → DeadOrMade c → Stands c second_now.seen blank
  made_stands c (inl dead) = inr (dead, dead_both.1, refl)
  made_stands c (inr half) = inl (record { payloads = []; holds = inl (0, half, inl dead_both.1); folds = refl })

  pub begin_leaves : (new : Shown) → LeavesOnly first_now new DeadOrMade → StandFor first second blank → LeavesPairs first second new second_now (λ c e. Stands c e blank)
  begin_leaves new made stand = record {
    seen = made_stands new.seen made.seen;
    now = λ c e at_c at_e. subst (λ (f : List ℕ). Stands c f blank) (sym (none.two_synced e at_e)) (made_stands c (made.now c at_c));
    each = λ c e at_c at_e. each_of c e (made.before first.moment c quiet.one.later at_c) at_e;
  }
    where
      second_is : (e : List ℕ) → MayLeave second e → e ≡ second_now.seen
      second_is e left = stand.synced dead_first dead_second e left ∙ sym quiet.two.seen

      each_of : (c e : List ℕ) → first_now.left_since first.moment c ⊎ DeadOrMade c → second_now.left_since second.moment e → Stands c e blank
      each_of c e (inl was) at_e = stand.left c e (quiet.one.each c was) (quiet.two.each e at_e)
      each_of c e (inr here) at_e = subst (λ (f : List ℕ). Stands c f blank) (sym (second_is e (quiet.two.each e at_e))) (made_stands c here)

-- ---- answers

pub if_ok : {T E : Type 0} {P Q : T → Type 0} (r : Result T E) → IfOk r P → ((t : T) → P t → Q t) → IfOk r Q
if_ok (Ok t) h weaker = weaker t h
if_ok (Err e) h weaker = tt

pub if_ok_each : {T E A : Type 0} (P : A → Type 0) (Q : A → T → Type 0) (r : Result T E) → ((a : A) → P a → IfOk r (Q a)) → IfOk r (λ t. (a : A) → P a → Q a t)
if_ok_each P Q (Ok t) each = each
if_ok_each P Q (Err e) each = tt

pub if_err : {T E : Type 0} {P Q : E → Type 0} (r : Result T E) → IfErr r P → ((e : E) → P e → Q e) → IfErr r Q
if_err (Ok t) h weaker = tt
if_err (Err e) h weaker = weaker e h

pub same_state : (x y : DurableState) → Some x ≡ Some y → x ≡ y
same_state x y e = cc

pub not_unformatted : (x : JournalFault) → x ≡ Unformatted → (x ≡ DiskFault) ⊎ (x ≡ NoMemory) → ⊥
not_unformatted x is (inl disk) = let clash : Unformatted ≡ DiskFault = sym is ∙ disk in cc
not_unformatted x is (inr memory) = let clash : Unformatted ≡ NoMemory = sym is ∙ memory in cc

pub not_damaged : (x : JournalFault) (half at : ℕ) → x ≡ DamagedAt half at → (x ≡ DiskFault) ⊎ (x ≡ NoMemory) → ⊥
not_damaged x half at is (inl disk) = let clash : DamagedAt half at ≡ DiskFault = sym is ∙ disk in cc
not_damaged x half at is (inr memory) = let clash : DamagedAt half at ≡ NoMemory = sym is ∙ memory in cc

pub stand_blank : (first second : Shown) (d : DurableState) → d ≡ blank → StandFor first second d → StandFor first second blank
stand_blank first second d is stand = subst (λ (s : DurableState). StandFor first second s) is stand

-- a pair on which neither is live, before as well
pub not_formatted : (first second a b : Shown) → BothQuiet first second a b → IsUnformatted a b → IsFormatted first second → ⊥
not_formatted first second a b quiet none formatted =
    formatted (ap (λ (f : List ℕ). choice (head_of f) (head_of second.seen)) (sym quiet.one.seen) ∙ ap (λ (f : List ℕ). choice (head_of a.seen) (head_of f)) (sym quiet.two.seen) ∙ none.heads)
