-- Which half is the journal.
use Rattle.std.proofs.Common.{◌≡◌, ◌≢◌, inl, inr, ◌⊎◌, ℕ, ◌+◌, ◌%◌, ◌<◌, Bool, true, false, List, [], ◌∷◌, ◌++◌, length, take, drop, refl, sym, ◌∙◌, ap, subst, arith, take-append-drop}
use Rattle.std.proofs.lemmas.Bool.{cases_eq}
use Rattle.std.proofs.lemmas.Bool.Decides.{nat_tests}
use Rattle.std.specs.Prelude.{nat_lt, ◌==◌, if◌then◌else◌, bytes_eq}
use Rattle.std.specs.Cmp.Lexicographic.{same_text}
use Rattle.ox_outside.specs.Disk.{Shown, IsSynced, Quiet, LeavesOnly}
use Rattle.ox_journal.specs.Half.{mark, front}
use Rattle.ox_journal.specs.Head.{head_of, marked, round_of, choice, later_of, RoundsInRange}
use Rattle.ox_journal.specs.Made.{DeadOrMade, UnformattedOrEmpty}
use Rattle.ox_journal.specs.Opening.{chosen, Recovered, IsUnformatted}
use Rattle.ox_journal.specs.Pair.{IsHalf, Older, IsOpen, IsReading, LeavesPairs, Holds}
use Rattle.ox_journal.specs.declared.head.Head.{Head}
use Rattle.ox_journal.specs.declared.head.Head.TheVariants.{Dead, Bad, Round}
use Rattle.ox_journal.specs.declared.head.Choice.TheVariants.{Neither, Damaged, Live}
use Rattle.ox_journal.proofs.Steps.{started}
use Rattle.ox_journal.proofs.Switching.{half_head}

if_range : (a : Bool) (x : Head) → RoundsInRange x → RoundsInRange (if a then x else Dead)
if_range true x is = is
if_range false x is = tt

if_bad : (a : Bool) (x : Head) → RoundsInRange x → RoundsInRange (if a then x else Bad 1)
if_bad true x is = is
if_bad false x is = tt

round_range : (b : Bool) (r : ℕ) → (b ≡ true → r < 3) → RoundsInRange (if b then Round r else Bad 9)
round_range true r less = less refl
round_range false r less = tt

test_less : (r : ℕ) → nat_lt r 3 ≡ true → r < 3
test_less r e = grind (arith, nat_tests)

range_of : (l : List ℕ) → RoundsInRange (round_of l)
range_of [] = tt
range_of (r ∷ l) = round_range (nat_lt r 3) r (test_less r)

pub in_range : (file : List ℕ) → RoundsInRange (head_of file)
in_range [] = tt
in_range (g ∷ []) = tt
in_range (g ∷ b ∷ rest) = if_range (g == 1) (marked (b ∷ rest)) (if_bad (bytes_eq (take 8 (b ∷ rest)) mark) (round_of (drop 8 (b ∷ rest))) (range_of (drop 8 (b ∷ rest))))

if_live : (a : Bool) (x : Head) (r : ℕ) → (if a then x else Dead) ≡ Round r → (a ≡ true) × (x ≡ Round r)
if_live true x r e = (refl, e)
if_live false x r e = cc

if_marked : (a : Bool) (x : Head) (r : ℕ) → (if a then x else Bad 1) ≡ Round r → (a ≡ true) × (x ≡ Round r)
if_marked true x r e = (refl, e)
if_marked false x r e = cc

if_round : (b : Bool) (n r : ℕ) → (if b then Round n else Bad 9) ≡ Round r → n ≡ r
if_round true n r e = cc
if_round false n r e = cc

round_first : (l : List ℕ) (r : ℕ) → round_of l ≡ Round r → l ≡ r ∷ drop 1 l
round_first [] r e = cc
round_first (n ∷ l) r e = ap (λ (m : ℕ). m ∷ l) (if_round (nat_lt n 3) n r e)

test_one : (g : ℕ) → (g == 1) ≡ true → g ≡ 1
test_one g e = grind (arith, nat_tests)

-- a live file is its head and a rest
pub live_text : (file : List ℕ) (r : ℕ) → head_of file ≡ Round r → file ≡ front r [] ++ drop 1 (drop 8 (drop 1 file))
unfolding front
live_text [] r e = cc
live_text (g ∷ []) r e = cc
live_text (g ∷ b ∷ rest) r e =
    let t = b ∷ rest in
    let one = if_live (g == 1) (marked t) r e in
    let two = if_marked (bytes_eq (take 8 t) mark) (round_of (drop 8 t)) r one.1 in
    let is_mark : take 8 t ≡ mark = same_text (take 8 t) mark (sym two.0) in
    ap (λ (n : ℕ). n ∷ t) (test_one g one.0)
    ∙ ap (λ (l : List ℕ). 1 ∷ l) (sym (take-append-drop 8 t))
    ∙ ap (λ (l : List ℕ). 1 ∷ (l ++ drop 8 t)) is_mark
    ∙ ap (λ (l : List ℕ). 1 ∷ (mark ++ l)) (round_first (drop 8 t) r two.1)

other_round : (a b : ℕ) → a < 3 → b < 3 → a ≢ b → (a ≡ (b + 1) % 3 → ⊥) → b ≡ (a + 1) % 3
other_round a b la lb ne apart = omega arith

-- what a choice of a half says
pub record Says (live spare : Head) (round : ℕ) : Type 0 where
  pub is : live ≡ Round round
  pub other : (spare ≡ Dead) ⊎ ((r : ℕ) × (spare ≡ Round r) × (round ≡ (r + 1) % 3))

abbrev pub SaysOf : Head → Head → ℕ → ℕ → Type 0
SaysOf one two half round = ((half ≡ 0) × Says one two round) ⊎ ((half ≡ 1) × Says two one round)

later_says : (a b half round : ℕ) → a < 3 → b < 3 → later_of a b ≡ Live half round → SaysOf (Round a) (Round b) half round
later_says a b half round la lb e = elim (cases_eq a b) [
  | inl same ↦ absurd (let bad : later_of a b ≡ Damaged 1 9 = grind (arith, nat_tests) in let f : Damaged 1 9 ≡ Live half round = sym bad ∙ e in cc)
  | inr differ ↦ elim (cases_eq a ((b + 1) % 3)) [
    | inl next ↦ let is : later_of a b ≡ Live 0 a = grind (arith, nat_tests) in
        let f : Live 0 a ≡ Live half round = sym is ∙ e in
        let at_half : 0 ≡ half = cc in
        let at_round : a ≡ round = cc in
        inl (sym at_half, record { is = ap Round at_round; other = inr (b, refl, sym at_round ∙ next) })
    | inr apart ↦ let is : later_of a b ≡ Live 1 b = grind (arith, nat_tests) in
        let f : Live 1 b ≡ Live half round = sym is ∙ e in
        let at_half : 1 ≡ half = cc in
        let at_round : b ≡ round = cc in
        inr (sym at_half, record { is = ap Round at_round; other = inr (a, refl, sym at_round ∙ other_round a b la lb differ apart) })
  ]
]

pub choice_says : (one two : Head) (half round : ℕ) → RoundsInRange one → RoundsInRange two → choice one two ≡ Live half round → SaysOf one two half round
choice_says (Bad at) two half round r1 r2 e = cc
choice_says Dead (Bad at) half round r1 r2 e = cc
choice_says Dead Dead half round r1 r2 e = cc
choice_says (Round a) (Bad at) half round r1 r2 e = cc
choice_says (Round a) Dead half round r1 r2 e =
    let at_half : 0 ≡ half = cc in let at_round : a ≡ round = cc in
    inl (sym at_half, record { is = ap Round at_round; other = inl refl })
choice_says Dead (Round b) half round r1 r2 e =
    let at_half : 1 ≡ half = cc in let at_round : b ≡ round = cc in
    inr (sym at_half, record { is = ap Round at_round; other = inl refl })
choice_says (Round a) (Round b) half round r1 r2 e = later_says a b half round r1 r2 e

round_of_range : (head : Head) (round : ℕ) → RoundsInRange head → head ≡ Round round → round < 3
round_of_range first round is e = let P : Head → Type 0 = λ h. RoundsInRange h in subst P e is

length-front-empty : (round : ℕ) → 10 ≡ length (front round [])
unfolding front
length-front-empty round = refl

reads : (live spare live_new spare_new : Shown) (round : ℕ) → Says (head_of live.seen) (head_of spare.seen) round → Quiet live live_new → Quiet spare spare_new → IsSynced live_new → IsSynced spare_new → IsReading live_new spare_new round 10 []
reads live spare live_new spare_new round says quiet_live quiet_spare synced_live synced_spare = record {
  rest = drop 1 (drop 8 (drop 1 live.seen));
  text = quiet_live.seen ∙ live_text live.seen round says.is;
  place = length-front-empty round;
  sizes = λ k d l. absurd (omega arith);
  in_range = round_of_range (head_of live.seen) round (in_range live.seen) says.is;
  synced = synced_live;
  aside = inl (synced_spare, subst (λ f. Older round f) (sym quiet_spare.seen) says.other);
}

module _ (first second first_new second_new : Shown) (half round : ℕ) (q1 : Quiet first first_new) (q2 : Quiet second second_new) (s1 : IsSynced first_new) (s2 : IsSynced second_new) (is : chosen first second ≡ Live half round) where
  says : SaysOf (head_of first.seen) (head_of second.seen) half round
  says = choice_says (head_of first.seen) (head_of second.seen) half round (in_range first.seen) (in_range second.seen) is

  pub found_zero : half ≡ 0 → Recovered first second first_new second_new half round 10
  found_zero zero = record {
    heads = is;
    zero = λ _. record { one = q1; two = q2 };
    one = λ one. absurd (omega arith);
    reading = elim says [
      | inl (h, s) ↦ reads first second first_new second_new round s q1 q2 s1 s2
      | inr (h, s) ↦ absurd (omega arith)
    ];
  }

  pub found_one : (half ≡ 0 → ⊥) → Recovered first second second_new first_new half round 10
  found_one not_zero = record {
    heads = is;
    zero = λ zero. absurd (not_zero zero);
    one = λ _. record { one = q1; two = q2 };
    reading = elim says [
      | inl (h, s) ↦ absurd (not_zero h)
      | inr (h, s) ↦ reads second first second_new first_new round s q2 q1 s2 s1
    ];
  }

-- a pair where neither is live
neither : (one two : Head) → choice one two ≡ Neither → (one ≡ Dead) × (two ≡ Dead)
neither (Bad at) two e = cc
neither Dead (Bad at) e = cc
neither Dead Dead e = (refl, refl)
neither Dead (Round b) e = cc
neither (Round a) (Bad at) e = cc
neither (Round a) Dead e = cc
neither (Round a) (Round b) e = elim (cases_eq a b) [
  | inl same ↦ let bad : later_of a b ≡ Damaged 1 9 = grind (arith, nat_tests) in let f : Damaged 1 9 ≡ Neither = sym bad ∙ e in cc
  | inr differ ↦ elim (cases_eq a ((b + 1) % 3)) [
    | inl next ↦ let is : later_of a b ≡ Live 0 a = grind (arith, nat_tests) in let f : Live 0 a ≡ Neither = sym is ∙ e in cc
    | inr apart ↦ let is : later_of a b ≡ Live 1 b = grind (arith, nat_tests) in let f : Live 1 b ≡ Neither = sym is ∙ e in cc
  ]
]

module _ (first second : Shown) (none : IsUnformatted first second) where
  pub dead_first : head_of first.seen ≡ Dead
  dead_first = (neither (head_of first.seen) (head_of second.seen) none.heads).0

  dead_second : head_of second.seen ≡ Dead
  dead_second = (neither (head_of first.seen) (head_of second.seen) none.heads).1

  pair_of : (c : List ℕ) → DeadOrMade c → UnformattedOrEmpty c second.seen
  pair_of c (inl dead) = inl (dead, dead_second)
  pair_of c (inr half) = inr (inl (0, half, inl dead_second))

  pub create_leaves : (new : Shown) → LeavesOnly first new DeadOrMade → LeavesPairs first second new second UnformattedOrEmpty
  create_leaves new left = record {
    seen = pair_of new.seen left.seen;
    now = λ c d at_c at_d. subst (λ s. UnformattedOrEmpty c s) (sym (none.two_synced d at_d)) (pair_of c (left.now c at_c));
    each = λ c d at_c at_d. subst (λ s. UnformattedOrEmpty c s) (sym (none.two_synced d at_d)) (pair_of c (left.each c at_c));
  }

  pub untouched : LeavesPairs first second first second UnformattedOrEmpty
  untouched = record {
    seen = pair_of first.seen (inl dead_first);
    now = λ c d at_c at_d. subst (λ s. UnformattedOrEmpty c s) (sym (none.two_synced d at_d)) (pair_of c (inl (ap head_of (none.one_synced c at_c) ∙ dead_first)));
    each = λ c d at_c at_d. subst (λ s. UnformattedOrEmpty c s) (sym (none.two_synced d at_d)) (pair_of c (inl (ap head_of (none.one_synced c at_c) ∙ dead_first)));
  }

  pub untouched_first : LeavesOnly first first DeadOrMade
  untouched_first = started DeadOrMade first none.one_synced (inl dead_first)

  pub create_open : (new : Shown) → IsHalf 0 [] new.seen × IsSynced new → IsOpen new second 0 10 []
  create_open new made = record { half = made.0; place = length-front-empty 0; synced = made.1; aside = inl (none.two_synced, inl dead_second) }

-- A pair that holds some records.
later_zero : (a b : ℕ) → b < 3 → a ≡ (b + 1) % 3 → later_of a b ≡ Live 0 a
later_zero a b below next = let differ : a ≢ b = omega arith in grind (arith, nat_tests)

later_one : (a b : ℕ) → a < 3 → b ≡ (a + 1) % 3 → later_of a b ≡ Live 1 b
later_one a b below next =
    let differ : a ≢ b = omega arith in
    let apart : a ≢ (b + 1) % 3 = omega arith in
    grind (arith, nat_tests)

choice_zero : (one two : Head) (a : ℕ) → RoundsInRange two → one ≡ Round a → (two ≡ Dead) ⊎ ((r : ℕ) × (two ≡ Round r) × (a ≡ (r + 1) % 3)) → choice one two ≡ Live 0 a
choice_zero one two a range is (inl dead) = ap (λ (h : Head). choice h two) is ∙ ap (λ (h : Head). choice (Round a) h) dead
choice_zero one two a range is (inr behind) =
    ap (λ (h : Head). choice h two) is ∙ ap (λ (h : Head). choice (Round a) h) behind.1 ∙ later_zero a behind.0 (round_of_range two behind.0 range behind.1) behind.2

choice_one : (one two : Head) (b : ℕ) → RoundsInRange one → two ≡ Round b → (one ≡ Dead) ⊎ ((r : ℕ) × (one ≡ Round r) × (b ≡ (r + 1) % 3)) → choice one two ≡ Live 1 b
choice_one one two b range is (inl dead) = ap (λ (h : Head). choice h two) dead ∙ ap (λ (h : Head). choice Dead h) is
choice_one one two b range is (inr behind) =
    ap (λ (h : Head). choice h two) behind.1 ∙ ap (λ (h : Head). choice (Round behind.0) h) is ∙ later_one behind.0 b (round_of_range one behind.0 range behind.1) behind.2

-- which half is the journal
abbrev Which : Shown → Shown → List (List ℕ) → Type 0
Which first second payloads = ((a : ℕ) × (chosen first second ≡ Live 0 a) × IsHalf a payloads first.seen) ⊎ ((b : ℕ) × (chosen first second ≡ Live 1 b) × IsHalf b payloads second.seen)

module _ (first second : Shown) (payloads : List (List ℕ)) where
  which : Holds first.seen second.seen payloads → Which first second payloads
  which (inl one) = inl (one.0, choice_zero (head_of first.seen) (head_of second.seen) one.0 (in_range second.seen) (half_head one.0 payloads first.seen one.1) one.2, one.1)
  which (inr two) = inr (two.0, choice_one (head_of first.seen) (head_of second.seen) two.0 (in_range first.seen) (half_head two.0 payloads second.seen two.1) two.2, two.1)

  not_neither : Which first second payloads → chosen first second ≡ Neither → ⊥
  not_neither (inl one) e = let f : Live 0 one.0 ≡ Neither = sym one.1 ∙ e in cc
  not_neither (inr two) e = let f : Live 1 two.0 ≡ Neither = sym two.1 ∙ e in cc

  pub held_neither : Holds first.seen second.seen payloads → chosen first second ≡ Neither → ⊥
  held_neither holds e = not_neither (which holds) e

  not_damaged : (half at : ℕ) → Which first second payloads → chosen first second ≡ Damaged half at → ⊥
  not_damaged half at (inl one) e = let f : Live 0 one.0 ≡ Damaged half at = sym one.1 ∙ e in cc
  not_damaged half at (inr two) e = let f : Live 1 two.0 ≡ Damaged half at = sym two.1 ∙ e in cc

  pub held_damaged : (half at : ℕ) → Holds first.seen second.seen payloads → chosen first second ≡ Damaged half at → ⊥
  held_damaged half at holds e = not_damaged half at (which holds) e

  at_zero : (half round : ℕ) → Which first second payloads → chosen first second ≡ Live half round → half ≡ 0 → IsHalf round payloads first.seen
  at_zero half round (inl one) e zero = let f : Live 0 one.0 ≡ Live half round = sym one.1 ∙ e in let same : one.0 ≡ round = cc in subst (λ (r : ℕ). IsHalf r payloads first.seen) same one.2
  at_zero half round (inr two) e zero = let f : Live 1 two.0 ≡ Live half round = sym two.1 ∙ e in let same : 1 ≡ half = cc in absurd (omega arith)

  at_one : (half round : ℕ) → Which first second payloads → chosen first second ≡ Live half round → (half ≡ 0 → ⊥) → IsHalf round payloads second.seen
  at_one half round (inl one) e not_zero = let f : Live 0 one.0 ≡ Live half round = sym one.1 ∙ e in let same : 0 ≡ half = cc in absurd (not_zero (sym same))
  at_one half round (inr two) e not_zero = let f : Live 1 two.0 ≡ Live half round = sym two.1 ∙ e in let same : two.0 ≡ round = cc in subst (λ (r : ℕ). IsHalf r payloads second.seen) same two.2

  pub held_zero : (half round : ℕ) (new : Shown) → Holds first.seen second.seen payloads → chosen first second ≡ Live half round → half ≡ 0 → Quiet first new → IsHalf round payloads new.seen
  held_zero half round new holds e zero quiet = subst (λ (f : List ℕ). IsHalf round payloads f) (sym quiet.seen) (at_zero half round (which holds) e zero)

  pub held_one : (half round : ℕ) (new : Shown) → Holds first.seen second.seen payloads → chosen first second ≡ Live half round → (half ≡ 0 → ⊥) → Quiet second new → IsHalf round payloads new.seen
  held_one half round new holds e not_zero quiet = subst (λ (f : List ℕ). IsHalf round payloads f) (sym quiet.seen) (at_one half round (which holds) e not_zero)
