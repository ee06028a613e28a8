-- What crashes leave of the files of a log.
use Rattle.std.proofs.Common.{◌≡◌, ◌≢◌, inl, inr, ℕ, List, [], ◌∷◌, ◌++◌, Some, refl, sym, ap, ◌∙◌, subst}
use Rattle.std.proofs.Common.{arith}
use Rattle.std.proofs.lemmas.Bool.Decides.{nat_tests}
use Rattle.std.specs.Prelude.{◌==◌, if◌then◌else◌}
use Rattle.ox_types.specs.Durable.{DurableState}
use Rattle.ox_outside.specs.Disk.{Shown, MayLeave}
use Rattle.ox_journal.specs.Half.{Shut}
use Rattle.ox_journal.specs.Head.{head_of, marked}
use Rattle.ox_journal.specs.Pair.{IsHalf, Older, IsAside, LeavesPairs}
use Rattle.ox_journal.specs.Appended.{BeforeOrAfter}
use Rattle.ox_journal.specs.declared.head.Head.{Head}
use Rattle.ox_journal.specs.declared.head.Head.TheVariants.{Dead}
use Rattle.ox_wal.specs.Files.{HoldsState, BeforeOrBehind, Keeps, state_in}

-- a shut half is dead
dead_gate : (gate : ℕ) (x : Head) → gate ≢ 1 → (if gate == 1 then x else Dead) ≡ Dead
dead_gate gate x closed = grind (arith, nat_tests)

closed_dead : (gate : ℕ) (rest : List ℕ) → gate ≢ 1 → head_of (gate ∷ rest) ≡ Dead
closed_dead gate [] closed = refl
closed_dead gate (b ∷ rest) closed = dead_gate gate (marked (b ∷ rest)) closed

shut_dead : (file : List ℕ) → Shut [] file → head_of file ≡ Dead
shut_dead file shut = ap head_of shut.is ∙ closed_dead shut.gate shut.behind shut.closed

pub aside_seen : (round : ℕ) (spare : Shown) → IsAside round spare → Older round spare.seen
aside_seen round spare (inl safe) = safe.1
aside_seen round spare (inr closed) = inl (shut_dead spare.seen closed.shut)

aside_left : (round : ℕ) (spare : Shown) → IsAside round spare → (d : List ℕ) → MayLeave spare d → Older round d
aside_left round spare (inl safe) d left = subst (λ f. Older round f) (sym (safe.0 d left)) safe.1
aside_left round spare (inr closed) d left = inl (shut_dead d (closed.left d left))

-- weaker words
module _ (live spare live_new spare_new : Shown) (P Q : List ℕ → List ℕ → Type 0) (weaker : (c d : List ℕ) → P c d → Q c d) where
  pub leaves_weaker : LeavesPairs live spare live_new spare_new P → LeavesPairs live spare live_new spare_new Q
  leaves_weaker leaves = record {
    seen = weaker live_new.seen spare_new.seen leaves.seen;
    now = λ c d at_c at_d. weaker c d (leaves.now c d at_c at_d);
    each = λ c d at_c at_d. weaker c d (leaves.each c d at_c at_d);
  }

module _ (live spare : Shown) (round end : ℕ) (d : DurableState) (keeps : Keeps live spare round end d) where
  pub keeps_seen : HoldsState live.seen spare.seen d
  keeps_seen = record { payloads = keeps.payloads; holds = inl (round, keeps.is_open.half, aside_seen round spare keeps.is_open.aside); folds = keeps.folds }

  pub left : (c e : List ℕ) → MayLeave live c → MayLeave spare e → HoldsState c e d
  left c e at_c at_e = record {
    payloads = keeps.payloads;
    holds = inl (round, subst (λ f. IsHalf round keeps.payloads f) (sym (keeps.is_open.synced c at_c)) keeps.is_open.half, aside_left round spare keeps.is_open.aside e at_e);
    folds = keeps.folds;
  }

  -- where nothing is done, a crash leaves the state
  pub idle : (behind : DurableState) → LeavesPairs live spare live spare (BeforeOrBehind d behind)
  idle behind = record {
    seen = inl keeps_seen;
    now = λ c e at_c at_e. inl (left c e at_c at_e);
    each = λ c e at_c at_e. inl (left c e at_c at_e);
  }

  -- a record more, or not
  pub batch_left : (payload : List ℕ) (behind : DurableState) → state_in (keeps.payloads ++ payload ∷ []) ≡ Some behind → (c e : List ℕ) → BeforeOrAfter keeps.payloads payload c e → BeforeOrBehind d behind c e
  batch_left payload behind folds c e (inl holds) = inl (record { payloads = keeps.payloads; holds = holds; folds = keeps.folds })
  batch_left payload behind folds c e (inr holds) = inr (record { payloads = keeps.payloads ++ payload ∷ []; holds = holds; folds = folds })
