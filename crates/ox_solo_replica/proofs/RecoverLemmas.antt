-- From which logs a replica starts, and what a start leaves.
use Rattle.std.proofs.Common.{◌≡◌, ◌+◌, ◌<◌, ◌≤◌, ℕ, zero, suc, true, false, nat_eq, nat_le, List, [], ◌∷◌, Option, Some, None, refl, sym, subst, arith}
use Rattle.std.specs.Prelude.{◌&&◌, is_none}
use Rattle.std.specs.List.{list_all}
use Rattle.std.proofs.lemmas.Bool.{and_parts, eqb-true, leb-true}
use Rattle.ox_types.specs.declared.log.Head.{Head}
use Rattle.ox_types.specs.declared.log.Entry.{Entry}
use Rattle.ox_types.specs.Log.{head_from}
use Rattle.ox_types.specs.Durable.{DurableState, count_of, may_follow}
use Rattle.ox_outside.specs.Disk.{Shown}
use Rattle.ox_journal.specs.Pair.{LeavesPairs}
use Rattle.ox_machine.specs.Meaning.{Meaning}
use Rattle.ox_machine.specs.Store.{RunsFrom}
use Rattle.ox_solo_replica.specs.Advance.{is_entry}
use Rattle.ox_solo_replica.specs.Recovered.{is_unsaved, is_usable}
use Rattle.ox_solo_replica.specs.Sound.{IsSound, IsUnsaved}
use Rattle.ox_solo_replica.proofs.AdvanceLemmas.{may_follow-parts}

-- the last term of entries that follow a head
pub head_small : (top count : ℕ) (head : Head) (entries : List Entry) → may_follow top head.term count entries ≡ true → head.term ≤ top → (head_from head entries).term ≤ top
head_small top count head [] follow small = small
head_small top count head (e ∷ entries) follow small =
    let parts = may_follow-parts top head.term count e entries follow in
    head_small top (count + 1) (record { term = e.term; count = e.offset + 1 }) entries parts.behind parts.low

none_is : {A : Type 0} (o : Option A) → is_none o ≡ true → o ≡ None
none_is None h = refl
none_is (Some x) h = cc

unsaved_is : (d : DurableState) → is_unsaved d ≡ true → IsUnsaved d
unsaved_is d h =
    let a = and_parts (nat_eq d.base.term 0 && nat_eq d.base.count 0) (is_none d.saved) h in
    let b = and_parts (nat_eq d.base.term 0) (nat_eq d.base.count 0) a.0 in
    record { term = eqb-true d.base.term 0 b.0; count = eqb-true d.base.count 0 b.1; saved = none_is d.saved a.1 }

-- the disks of a pair again, the first half's first
pub either_half : {D : Type 0} (shows : D → Shown) (P : List ℕ → List ℕ → Type 0) (first second : Shown) (live spare a b : D) (half : ℕ) → half < 2
    → (half ≡ 0 → LeavesPairs first second (shows live) (shows spare) P) → (half ≡ 1 → LeavesPairs first second (shows spare) (shows live) P)
    → (half ≡ 0 → (a ≡ live) × (b ≡ spare)) → (half ≡ 1 → (a ≡ spare) × (b ≡ live)) → LeavesPairs first second (shows a) (shows b) P
either_half shows P first second live spare a b zero small at_zero at_one zero_is one_is = let same = zero_is refl in rw (same.0, same.1) (at_zero refl)
either_half shows P first second live spare a b (suc zero) small at_zero at_one zero_is one_is = let same = one_is refl in rw (same.0, same.1) (at_one refl)
either_half shows P first second live spare a b (suc (suc n)) small at_zero at_one zero_is one_is = absurd (omega arith)

module _ {S C R Q A : Type 0} (M : Meaning S C R Q A) (d : DurableState) where
  pub unusable : (is_unsaved d && nat_le d.term 9007199254740992) ≡ false → false ≡ is_usable M d
  unfolding is_usable
  unusable e = rw e refl

  pub usable_where : (is_unsaved d && nat_le d.term 9007199254740992) ≡ true → list_all (is_entry M) d.entries ≡ is_usable M d
  unfolding is_usable
  usable_where e = rw e refl

  usable_parts : is_usable M d ≡ true → (is_unsaved d && nat_le d.term 9007199254740992) ≡ true
  unfolding is_usable
  usable_parts e = (and_parts (is_unsaved d && nat_le d.term 9007199254740992) (list_all (is_entry M) d.entries) e).0

  pub opening_sound : (machine : S) → is_usable M d ≡ true → RunsFrom 0 d.entries → M.fits 0 machine → count_of d ≤ 9007199254740992 → may_follow d.term d.base.term d.base.count d.entries ≡ true
      → IsSound M d (record { commit = d.base.count; machine = machine; now = 0; hint = None; leading = None })
  opening_sound machine usable runs fits small follow =
      let parts = and_parts (is_unsaved d) (nat_le d.term 9007199254740992) (usable_parts usable) in
      let bare = unsaved_is d parts.0 in
      let none = bare.count in
      let bottom = bare.term in
      let low : d.base.term ≤ d.term = omega arith in
      record {
        unsaved = bare;
        small_term = leb-true d.term 9007199254740992 parts.1;
        small_count = small;
        small_head = head_small d.term d.base.count d.base d.entries follow low;
        runs = runs;
        now = omega arith;
        committed = omega arith;
        fits = subst (λ (n : ℕ). M.fits n machine) (sym none) fits;
      }
