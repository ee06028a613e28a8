-- Two term tables, passed from the front: up to a count, the greatest at which they agree is found.
use Rattle.std.proofs.Common.{◌≡◌, ◌∙◌, sym, ap, subst, refl, ℕ, zero, suc, ◌+◌, ◌-◌, ◌<◌, ◌≤◌, ◌==◌, ◌&&◌, nat_le, nat_lt, Bool, true, false, Option, Some, None, List, [], ◌∷◌, length, get_or, drop, if◌then◌else◌, arith, inl, inr, add-one, drop-cons}
use Rattle.std.specs.Prelude.{min, max}
use Rattle.std.proofs.lemmas.Bool.{cases_lt}
use Rattle.ox_types.specs.declared.log.TermRun.{TermRun}
use Rattle.ox_types.specs.declared.log.TermTable.{TermTable}
use Rattle.ox_types.specs.Log.{term_in_runs, term_at}
use Rattle.ox_quorum.specs.CommonPoint.{greatest, agree_at, is_same_term}
use Rattle.ox_quorum.proofs.Points.{greatest_here, greatest_below}

-- a run that ends before the offset is passed over, and one that reaches it says its term
pub passes : (r : TermRun) (runs : List TermRun) (o : ℕ) → r.last < o → term_in_runs (r ∷ runs) o ≡ term_in_runs runs o
passes r runs o before =
    let no : nat_le o r.last ≡ false = grind (arith, before) in
    rw no refl

pub reaches : (r : TermRun) (runs : List TermRun) (o : ℕ) → o ≤ r.last → term_in_runs (r ∷ runs) o ≡ Some r.term
reaches r runs o upto =
    let yes : nat_le o r.last ≡ true = grind (arith, upto) in
    rw yes refl

-- behind its base a table's runs alone say the term
pub term_past : (t : TermTable) (o : ℕ) → t.base.count ≤ o → term_at t o ≡ term_in_runs t.runs o
term_past t o past =
    let no_base : (o + 1 == t.base.count) ≡ false = grind (arith, past) in
    let behind : nat_lt o t.base.count ≡ false = grind (arith, past) in
    rw (no_base, behind) refl

no_term : (a : Option ℕ) → is_same_term a None ≡ false
no_term None = refl
no_term (Some a) = refl

-- the runs from a place on
pub rest_is : (runs : List TermRun) (i : ℕ) (r : TermRun) → i < length runs → r ≡ get_or runs i r → drop i runs ≡ r ∷ drop (i + 1) runs
rest_is runs i r lt is = rw add-one (drop-cons runs i r lt ∙ ap (λ (x : TermRun). x ∷ drop (suc i) runs) (sym is))

-- the same of a slice of the runs, where an element has been copied
pub rest_of : (runs slice : List TermRun) (i : ℕ) (r item : TermRun) → slice ≡ runs → i < length slice → r ≡ item → item ≡ get_or slice i item → drop i runs ≡ r ∷ drop (i + 1) runs
rest_of runs slice i r item whole lt copied is =
    subst (λ (s : List TermRun). drop i s ≡ r ∷ drop (i + 1) s) whole (rest_is slice i r lt (subst (λ (x : TermRun). x ≡ get_or slice i x) (sym copied) is))

pub none_left : (runs : List TermRun) (i : ℕ) → length runs ≤ i → drop i runs ≡ []
none_left [] zero le = refl
none_left [] (suc i) le = refl
none_left (r ∷ runs) zero le = absurd (omega arith)
none_left (r ∷ runs) (suc i) le = none_left runs i (omega arith)

module _ (leader follower : TermTable) (least most : ℕ) where
  -- both tables are passed up to a count
  pub record Met (place other at : ℕ) (found : Option ℕ) : Type 0 where
    pub above : least ≤ at
    pub within : at ≤ most
    pub ours : (o : ℕ) → at ≤ o → o < most → term_in_runs leader.runs o ≡ term_in_runs (drop place leader.runs) o
    pub theirs : (o : ℕ) → at ≤ o → o < most → term_in_runs follower.runs o ≡ term_in_runs (drop other follower.runs) o
    pub is : found ≡ greatest (agree_at leader follower) least at

  pub begins : (found : Option ℕ) → least ≤ most → found ≡ greatest (agree_at leader follower) least least → Met 0 0 least found
  begins found within is = record { above = omega arith; within = within; ours = λ o a b. refl; theirs = λ o a b. refl; is = is }

  -- behind both bases the runs say whether the tables agree
  agrees : (o : ℕ) → leader.base.count ≤ o → follower.base.count ≤ o → agree_at leader follower (o + 1) ≡ is_same_term (term_in_runs leader.runs o) (term_in_runs follower.runs o)
  agrees o a b =
      let some : (o + 1 == 0) ≡ false = grind arith in
      let less : o + 1 - 1 ≡ o = omega arith in
      rw (some, less, term_past leader o a, term_past follower o b) refl

  module _ (ahead : leader.base.count ≤ least) (behind : follower.base.count ≤ least) (place other at : ℕ) (found : Option ℕ) (m : Met place other at found) where
    -- behind the count the runs that are left say it
    left : (o : ℕ) → at ≤ o → o < most → agree_at leader follower (o + 1) ≡ is_same_term (term_in_runs (drop place leader.runs) o) (term_in_runs (drop other follower.runs) o)
    left o from upto =
        let above = m.above in
        agrees o (omega (arith, ahead, above, from)) (omega (arith, behind, above, from))
        ∙ ap (λ (x : Option ℕ). is_same_term x (term_in_runs follower.runs o)) (m.ours o from upto)
        ∙ ap (λ (x : Option ℕ). is_same_term (term_in_runs (drop place leader.runs) o) x) (m.theirs o from upto)

    left_at : (k : ℕ) → at < k → k ≤ most → agree_at leader follower k ≡ is_same_term (term_in_runs (drop place leader.runs) (k - 1)) (term_in_runs (drop other follower.runs) (k - 1))
    left_at k from upto =
        let same : k - 1 + 1 ≡ k = omega arith in
        subst (λ (n : ℕ). agree_at leader follower n ≡ is_same_term (term_in_runs (drop place leader.runs) (k - 1)) (term_in_runs (drop other follower.runs) (k - 1))) same
        (left (k - 1) (omega arith) (omega arith))

    -- where one table has no more runs, the tables agree no more
    ended : ((o : ℕ) → is_same_term (term_in_runs (drop place leader.runs) o) (term_in_runs (drop other follower.runs) o) ≡ false) → found ≡ greatest (agree_at leader follower) least most
    ended none = m.is ∙ sym (greatest_below (agree_at leader follower) least most at m.within (λ k from upto. left_at k from upto ∙ none (k - 1)))

    pub ours_end : length leader.runs ≤ place → found ≡ greatest (agree_at leader follower) least most
    ours_end le = ended (λ o. ap (λ (l : List TermRun). is_same_term (term_in_runs l o) (term_in_runs (drop other follower.runs) o)) (none_left leader.runs place le))

    pub theirs_end : length follower.runs ≤ other → found ≡ greatest (agree_at leader follower) least most
    theirs_end le = ended (λ o. ap (λ (l : List TermRun). is_same_term (term_in_runs (drop place leader.runs) o) (term_in_runs l o)) (none_left follower.runs other le) ∙ no_term (term_in_runs (drop place leader.runs) o))

    module _ (r s : TermRun) (end : ℕ) (some : 0 < most) (end_is : end ≡ min (min r.last s.last) (most - 1) + 1) (mine : drop place leader.runs ≡ r ∷ drop (place + 1) leader.runs) (its : drop other follower.runs ≡ s ∷ drop (other + 1) follower.runs) where
      end_within : end ≤ most
      end_within = omega arith

      said : (k : ℕ) → at < k → k ≤ end → agree_at leader follower k ≡ (r.term == s.term)
      said k from upto =
          let most_of : k ≤ most = omega (arith, end_within) in
          let o_mine : k - 1 ≤ r.last = omega (arith, end_is) in
          let o_its : k - 1 ≤ s.last = omega (arith, end_is) in
          left_at k from most_of
          ∙ ap (λ (l : List TermRun). is_same_term (term_in_runs l (k - 1)) (term_in_runs (drop other follower.runs) (k - 1))) mine
          ∙ ap (λ (l : List TermRun). is_same_term (term_in_runs (r ∷ drop (place + 1) leader.runs) (k - 1)) (term_in_runs l (k - 1))) its
          ∙ ap (λ (x : Option ℕ). is_same_term x (term_in_runs (s ∷ drop (other + 1) follower.runs) (k - 1))) (reaches r (drop (place + 1) leader.runs) (k - 1) o_mine)
          ∙ ap (λ (x : Option ℕ). is_same_term (Some r.term) x) (reaches s (drop (other + 1) follower.runs) (k - 1) o_its)

      after : (same : Bool) → (r.term == s.term) ≡ same → (next : ℕ) → next ≡ max at end → (if same && nat_lt at end then Some end else found) ≡ greatest (agree_at leader follower) least next
      after same e next next_is = elim (cases_lt at end) [
        | inl lt ↦
            let yes : nat_lt at end ≡ true = grind (arith, lt) in
            let at_end : next ≡ end = omega arith in
            let above = m.above in
            rw (yes, at_end) (by_same same e lt (omega arith))
        | inr ge ↦
            let no : nat_lt at end ≡ false = grind (arith, ge) in
            let stays : next ≡ at = omega arith in
            rw (no, stays) (unless same)
      ]
        where
          by_same : (b : Bool) → (r.term == s.term) ≡ b → at < end → least ≤ end → (if b && true then Some end else found) ≡ greatest (agree_at leader follower) least end
          by_same true e lt le = sym (greatest_here (agree_at leader follower) least end le (said end lt (omega arith) ∙ e))
          by_same false e lt le = m.is ∙ sym (greatest_below (agree_at leader follower) least end at (omega arith) (λ k from upto. said k from upto ∙ e))

          unless : (b : Bool) → (if b && false then Some end else found) ≡ greatest (agree_at leader follower) least at
          unless true = m.is
          unless false = m.is

      module _ (next : ℕ) (next_is : next ≡ max at end) (now_found : Option ℕ) (found_is : now_found ≡ (if (r.term == s.term) && nat_lt at end then Some end else found)) where
        next_within : next ≤ most
        next_within = let within = m.within in omega (arith, end_within)

        next_above : least ≤ next
        next_above = let above = m.above in omega arith

        at_next : at ≤ next
        at_next = omega arith

        pub ours_pass : r.last ≤ s.last → Met (place + 1) other next now_found
        ours_pass first = record {
          above = next_above;
          within = next_within;
          ours = λ o from upto. m.ours o (omega (arith, at_next)) upto ∙ ap (λ (l : List TermRun). term_in_runs l o) mine ∙ passes r (drop (place + 1) leader.runs) o (omega arith);
          theirs = λ o from upto. m.theirs o (omega (arith, at_next)) upto;
          is = found_is ∙ after (r.term == s.term) refl next next_is;
        }

        pub theirs_pass : s.last < r.last → Met place (other + 1) next now_found
        theirs_pass first = record {
          above = next_above;
          within = next_within;
          ours = λ o from upto. m.ours o (omega (arith, at_next)) upto;
          theirs = λ o from upto. m.theirs o (omega (arith, at_next)) upto ∙ ap (λ (l : List TermRun). term_in_runs l o) its ∙ passes s (drop (other + 1) follower.runs) o (omega arith);
          is = found_is ∙ after (r.term == s.term) refl next next_is;
        }
