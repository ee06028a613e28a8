-- What a leader commits, where no snapshot stands before its entries.
use Rattle.std.proofs.Common.{◌≡◌, ◌+◌, ◌-◌, ◌<◌, ◌≤◌, ℕ, zero, suc, false, nat_lt, List, [], ◌∷◌, ◌++◌, length, drop, Option, Some, None, refl, sym, ap, subst, arith}
use Rattle.std.proofs.lemmas.Bool.{lt-ltb}
use Rattle.std.proofs.lemmas.List.{append-nil}
use Rattle.std.proofs.lemmas.Bool.Decides.{nat_tests}
use Rattle.ox_types.specs.declared.log.Entry.{Entry}
use Rattle.ox_types.specs.Durable.{DurableState, count_of}
use Rattle.ox_machine.specs.Meaning.{Meaning}
use Rattle.ox_machine.specs.Store.{RunsFrom, state_from}
use Rattle.ox_solo_replica.specs.declared.leading.Leading.{Leading}
use Rattle.ox_solo_replica.specs.declared.live.Live.{Live}
use Rattle.ox_solo_replica.specs.declared.output.Outgoing.{Outgoing}
use Rattle.ox_solo_replica.specs.declared.output.Answered.{Answered}
use Rattle.ox_solo_replica.specs.Advance.{acks_of}
use Rattle.ox_solo_replica.specs.Moving.{advance, moved, unmoved, ready_to, leading_after}
use Rattle.ox_solo_replica.specs.Sound.{IsUnsaved}

-- entries behind some first ones
pub runs_behind : (n from : ℕ) (entries : List Entry) → RunsFrom from entries → RunsFrom (from + n) (drop n entries)
runs_behind zero from entries runs = let same : from ≡ from + 0 = omega arith in subst (λ (k : ℕ). RunsFrom k entries) same runs
runs_behind (suc n) from [] runs = tt
runs_behind (suc n) from (e ∷ entries) runs =
    let same : from + 1 + n ≡ from + suc n = omega arith in
    subst (λ (k : ℕ). RunsFrom k (drop n entries)) same (runs_behind n (from + 1) entries runs.1)

not_below : (a b : ℕ) → b ≤ a → nat_lt a b ≡ false
not_below a b h = grind (arith, nat_tests)

module _ {S C R Q A : Type 0} (M : Meaning S C R Q A) (d : DurableState) (live : Live S) where
  pub advance-none : live.leading ≡ None → advance M d live ≡ unmoved live
  unfolding advance
  advance-none e = rw e refl

  pub advance-still : (l : Leading) → live.leading ≡ Some l → count_of d ≤ live.commit → advance M d live ≡ unmoved live
  unfolding advance
  advance-still l e still = rw (e, not_below live.commit (count_of d) still) refl

  pub advance-moves : (l : Leading) → live.leading ≡ Some l → live.commit < count_of d → advance M d live ≡ moved M d live l
  unfolding advance
  advance-moves l e below = rw (e, lt-ltb live.commit (count_of d) below) refl

  -- where nothing moves
  pub live_unmoved : advance M d live ≡ unmoved live → (leading : Option Leading) → live.leading ≡ leading → record live { leading = leading } ≡ (advance M d live).live
  live_unmoved same leading is = rw same (ap (λ (o : Option Leading). record live { leading = o }) (sym is))

  pub sends_unmoved : advance M d live ≡ unmoved live → (before : List Outgoing) → before ≡ before ++ (advance M d live).sends
  sends_unmoved same before = rw (same, append-nil) refl

  pub replies_unmoved : advance M d live ≡ unmoved live → (before : List Answered) → before ≡ before ++ (advance M d live).replies
  replies_unmoved same before = rw (same, append-nil) refl

  pub still : (l : Leading) → IsUnsaved d → live.leading ≡ Some l → length d.entries ≤ live.commit → advance M d live ≡ unmoved live
  still l bare leads all = let none = bare.count in advance-still l leads (omega arith)

  module _ (l : Leading) (bare : IsUnsaved d) (leads : live.leading ≡ Some l) (below : live.commit < length d.entries) where
    counted : d.base.count + length d.entries ≡ length d.entries
    counted = let none = bare.count in omega arith

    behind : live.commit - d.base.count ≡ live.commit
    behind = let none = bare.count in omega arith

    moves : advance M d live ≡ moved M d live l
    moves = advance-moves l leads (rw counted below)

    pub live_moved : (count : ℕ) (machine : S) (leading : Leading) → count ≡ length d.entries → machine ≡ state_from M live.machine (drop live.commit d.entries)
        → leading ≡ leading_after M (length d.entries) live.now (nat_lt live.commit l.begin) machine l
        → record live { commit = count; machine = machine; leading = Some leading } ≡ (advance M d live).live
    live_moved count machine leading count-is machine-is leading-is = rw (moves, counted, behind, count-is, leading-is, machine-is) refl

    pub sends_moved : (before after : List Outgoing) → after ≡ before ++ ready_to (nat_lt live.commit l.begin) d.term l.chief → after ≡ before ++ (advance M d live).sends
    sends_moved before after is = rw moves is

    pub replies_moved : (before after : List Answered) → after ≡ before ++ acks_of M d.term l.pending live.machine (drop live.commit d.entries) → after ≡ before ++ (advance M d live).replies
    replies_moved before after is = rw (moves, behind) is
