-- Leaders are complete, from the facts of a tale alone: by induction on the term.
use Rattle.std.proofs.Common.{◌≡◌, ℕ, zero, suc, ◌+◌, ◌-◌, ◌<◌, ◌≤◌, Bool, List, length, refl, sym, subst, arith, ◌⊎◌, inl, inr}
use Rattle.std.specs.Prelude.{IsTrue}
use Rattle.std.proofs.lemmas.Bool.{cases_lt, cases_order}
use Rattle.ox_types.specs.declared.log.Entry.{Entry}
use Rattle.ox_quorum.specs.declared.config.Config.{Config}
use Rattle.ox_quorum.specs.Quorum.{meets_config, Follows}
use Rattle.ox_agreement.specs.Begins.{Begins}
use Rattle.ox_agreement.specs.Entries.{last_term, IsHeadWithin}
use Rattle.ox_agreement.specs.Committed.{QuorumHas}
use Rattle.ox_agreement.proofs.Beginnings.{begins_on, begins_shorter, begins_both, begins_either}
use Rattle.ox_agreement.proofs.Fronts.{TermsNeverFall, begins_term}
use Rattle.ox_agreement.proofs.Facts.{AreComplete, Facts}
use Rattle.ox_agreement.proofs.Majorities.{Shared, before, shared_of_config}
use Rattle.ox_agreement.proofs.Majorities.Before.{Still, Split}

-- strong induction
below_each : (P : ℕ → Type 0) → ((t : ℕ) → ((v : ℕ) → v < t → P v) → P t) → (n : ℕ) (v : ℕ) → v < n → P v
below_each P step zero v h = absurd (omega arith)
below_each P step (suc n) v h = step v (λ w k. below_each P step n w (omega arith))

pub by_lower : (P : ℕ → Type 0) → ((t : ℕ) → ((v : ℕ) → v < t → P v) → P t) → (t : ℕ) → P t
by_lower P step t = below_each P step (suc t) t (omega arith)

-- Between u and t a joint term that was recorded steady, of which each set that meets its config shares a node with these.
pub record Crossing (config : ℕ → Config) (steady : ℕ → Bool) (nodes : ℕ → Bool) (u t : ℕ) : Type 0 where
  pub at : ℕ
  pub from : u ≤ at
  pub under : at < t
  pub recorded : IsTrue (steady at)
  pub shares : (others : ℕ → Bool) → IsTrue (meets_config others (config at)) → Shared others nodes

-- Going down from term t, whose config the nodes meet, to u: they meet that of u too, or there is a crossing.
pub data Down (config : ℕ → Config) (steady : ℕ → Bool) (nodes : ℕ → Bool) (u t : ℕ) : Type 0 where
  Meeting : IsTrue (meets_config nodes (config u)) → Down config steady nodes u t
  Crossed : Crossing config steady nodes u t → Down config steady nodes u t

module _ (config : ℕ → Config) (steady : ℕ → Bool) (t : ℕ) (chain : (v : ℕ) → v < t → Follows (config v) (steady v) (config (suc v))) where
  one_down : (nodes : ℕ → Bool) (u : ℕ) → u < t → Down config steady nodes (suc u) t → Down config steady nodes u t
  one_down nodes u h (Meeting m) =
      elim (before nodes (config u) (steady u) (config (suc u)) (chain u h) m) [
        | Still k ↦ Meeting k
        | Split is shares ↦ Crossed (record { at = u; from = omega arith; under = h; recorded = is; shares = shares })
      ]
  one_down nodes u h (Crossed c) =
      Crossed (record { at = c.at; from = let k = c.from in omega arith; under = c.under; recorded = c.recorded; shares = c.shares })

  all_down : (nodes : ℕ → Bool) (d u : ℕ) → u + d ≡ t → IsTrue (meets_config nodes (config t)) → Down config steady nodes u t
  all_down nodes zero u e m = let same : t ≡ u = omega arith in Meeting (subst (λ v. IsTrue (meets_config nodes (config v))) same m)
  all_down nodes (suc d) u e m = one_down nodes u (omega arith) (all_down nodes d (suc u) (omega arith) m)

  pub down : (nodes : ℕ → Bool) (u : ℕ) → u ≤ t → IsTrue (meets_config nodes (config t)) → Down config steady nodes u t
  down nodes u h m = all_down nodes (t - u) u (omega arith) m

module _
    (config : ℕ → Config) (steady : ℕ → Bool)
    (WasFenced TookPart : ℕ → ℕ → List Entry → Type 0)
    (LedFrom LeaderHad IsCommitted : ℕ → List Entry → Type 0)
    (facts : Facts config steady WasFenced TookPart LedFrom LeaderHad IsCommitted) where
  -- a list that ends in the term of a leader isn't shorter than that from which the leader began
  longer_than_opening : (w : ℕ) (x o r : List Entry) → LedFrom w o → last_term x ≡ w → Begins x r → Begins o r → length o ≤ length x
  longer_than_opening w x o r opens e b c =
      elim (cases_lt (length x) (length o)) [
        | inl h ↦
            let k = begins_term (begins_both b c (omega arith)) (facts.rises w o opens) in
            let j = facts.below w o opens in
            absurd (omega arith)
        | inr h ↦ h
      ]

  -- A list that may be chosen at term t by nodes that meet the config of term b: each of them has what it had of the committed
  -- below t, and its head isn't above that of q.
  pub record Candidate (b t : ℕ) (q : List Entry) : Type 0 where
    pub chain : (v : ℕ) → v < b → Follows (config v) (steady v) (config (suc v))
    pub below : last_term q < t
    pub stems : 0 < last_term q → (r : List Entry) × LeaderHad (last_term q) r × Begins q r
    pub poll :
        QuorumHas (config b) (λ n l.
        ((u : ℕ) (x p : List Entry) → u < t → TookPart n u x → IsCommitted u p → Begins p x → Begins p l)
        × TermsNeverFall l × IsHeadWithin l q)

  -- Where the leaders below t are complete: what a leader of v committed begins a candidate at t, if it begins another list
  -- whose head isn't above the candidate's.
  module _
      (b t : ℕ) (lower : (v : ℕ) → v < t → AreComplete LedFrom IsCommitted v)
      (q : List Entry) (candidate : Candidate b t q)
      (v : ℕ) (p l : List Entry) (commits : IsCommitted v p) (front : Begins p l) (rises : TermsNeverFall l) where
    -- the candidate ends in the term of the commit
    same_term : v ≡ last_term q → length l ≤ length q → (r : List Entry) → LeaderHad (last_term q) r → Begins q r → Begins p q
    same_term e long r leads b =
        let of = facts.of_leader v p commits in
        let led : LeaderHad v r = subst (λ w. LeaderHad w r) (sym e) leads in
        let short : length p ≤ length q = let k = begins_shorter front in omega arith in
        elim (facts.one v r of.0 led of.1) [
          | inl k ↦ begins_both of.2 (begins_on b k) short
          | inr k ↦ begins_both (begins_on of.2 k) b short
        ]

    -- it ends in a higher term
    higher_term : v < last_term q → last_term q < t → (r : List Entry) → LeaderHad (last_term q) r → Begins q r → Begins p q
    higher_term h k r leads b =
        let o = facts.opened (last_term q) r leads in
        let has : Begins p o.0 = lower (last_term q) k o.0 o.1 v h p commits in
        let long : length o.0 ≤ length q = longer_than_opening (last_term q) q o.0 r o.1 refl b o.2 in
        begins_both (begins_on has o.2) b (let j = begins_shorter has in omega arith)

    elected : IsHeadWithin l q → Begins p q
    elected within =
        let own = facts.own v p commits in
        let up = begins_term front rises in
        let fenced = candidate.below in
        let of = facts.of_leader v p commits in
        let first = facts.opened v of.0 of.1 in
        let some : last_term first.0 < v = facts.below v first.0 first.1 in
        let ends : last_term l ≤ last_term q = elim within [ inl h ↦ omega arith | inr h ↦ let e = h.0 in omega arith ] in
        let r = candidate.stems (omega arith) in
        elim (cases_lt v (last_term q)) [
          | inl h ↦ higher_term h fenced r.0 r.1 r.2
          | inr h ↦ same_term (omega arith) (elim within [ inl k ↦ absurd (omega arith) | inr k ↦ k.1 ]) r.0 r.1 r.2
        ]

  -- what was committed in a term begins what is committed in a higher one, below t
  steady_has :
      (t : ℕ) → ((v : ℕ) → v < t → AreComplete LedFrom IsCommitted v) →
      (u v : ℕ) (p x : List Entry) → u < v → v < t → IsCommitted u p → IsCommitted v x → Begins p x
  steady_has t lower u v p x h k commits later =
      let of = facts.of_leader v x later in
      let o = facts.opened v of.0 of.1 in
      let has = lower v k o.0 o.1 u h p commits in
      let long = longer_than_opening v x o.0 of.0 o.1 (facts.own v x later) of.2 o.2 in
      begins_both (begins_on has o.2) of.2 (let j = begins_shorter has in omega arith)

  module _ (b t : ℕ) (lower : (v : ℕ) → v < t → AreComplete LedFrom IsCommitted v) (q : List Entry) (candidate : Candidate b t q) where
    -- what was committed in v begins the candidate, where nodes that meet the config of v always share one with the voters
    by_voters :
        (v : ℕ) (p : List Entry) → v < t → IsCommitted v p →
        ((others : ℕ → Bool) → IsTrue (meets_config others (config v)) → Shared others candidate.poll.nodes) → Begins p q
    by_voters v p h commits shares =
        let held = facts.held v p commits in
        let n = shares held.nodes held.quorum in
        let stood = held.each n.0 n.1 in
        let voter = candidate.poll.each n.0 n.2 in
        elected b t lower q candidate v p voter.0 commits (voter.1.0 v stood.0 p h stood.1.0 commits stood.1.1) voter.1.1 voter.1.2

    pub candidate_has : b ≤ t → (u : ℕ) (p : List Entry) → u ≤ b → u < t → IsCommitted u p → Begins p q
    candidate_has i u p j h commits =
        elim (down config steady b candidate.chain candidate.poll.nodes u j candidate.poll.quorum) [
          | Meeting m ↦ by_voters u p h commits (λ others k. shared_of_config others candidate.poll.nodes (config u) k m)
          | Crossed c ↦
              elim (cases_lt u c.at) [
                | inl k ↦
                    let x = facts.ready c.at c.recorded in
                    let under : c.at < t = let l = c.under in omega arith in
                    begins_on (steady_has t lower u c.at p x.0 k under commits x.1) (by_voters c.at x.0 under x.1 c.shares)
                | inr k ↦
                    let same : c.at ≡ u = let l = c.from in omega arith in
                    by_voters u p h commits
                    (subst
                    (λ w. (others : ℕ → Bool) → IsTrue (meets_config others (config w)) → Shared others candidate.poll.nodes)
                    same c.shares)
              ]
        ]

  -- a leader was a candidate of nodes that were fenced at its term
  leader_candidate : (t : ℕ) → ((v : ℕ) → v < t → AreComplete LedFrom IsCommitted v) → (q : List Entry) → LedFrom t q → Candidate t t q
  leader_candidate t lower q opens =
      let poll = facts.chosen t q opens in
      record {
        chain = facts.chain t q opens;
        below = facts.below t q opens;
        stems = facts.stems t q opens;
        poll = record {
          nodes = poll.nodes;
          quorum = poll.quorum;
          each = λ n h.
              let l = poll.each n h in (
                l.0,
                (
                  λ u x p j stood commits front. facts.kept n t u l.0 x p l.1.0 stood j commits front lower,
                  facts.fenced_rises n t l.0 l.1.0,
                  l.1.1,
                ),
              );
        };
      }

  step : (t : ℕ) → ((v : ℕ) → v < t → AreComplete LedFrom IsCommitted v) → AreComplete LedFrom IsCommitted t
  step t lower q opens u h p commits =
      candidate_has t t lower q (leader_candidate t lower q opens) (omega arith) u p (omega arith) h commits

  pub complete : (t : ℕ) → AreComplete LedFrom IsCommitted t
  complete = by_lower (AreComplete LedFrom IsCommitted) step

  -- what was committed in a term begins what is committed in a higher one
  pub later_has : (u t : ℕ) (p x : List Entry) → u < t → IsCommitted u p → IsCommitted t x → Begins p x
  later_has u t p x h c d = steady_has (suc t) (λ v _. complete v) u t p x h (omega arith) c d

  same_leader : (t : ℕ) (p x : List Entry) → IsCommitted t p → IsCommitted t x → Begins p x ⊎ Begins x p
  same_leader t p x c d =
      let a = facts.of_leader t p c in
      let b = facts.of_leader t x d in
      elim (facts.one t a.0 b.0 a.1 b.1) [
        | inl k ↦ begins_either (begins_on a.2 k) b.2
        | inr k ↦ begins_either a.2 (begins_on b.2 k)
      ]

  -- of two committed lists one begins the other
  pub agree : (t u : ℕ) (p x : List Entry) → IsCommitted t p → IsCommitted u x → Begins p x ⊎ Begins x p
  agree t u p x c d =
      elim (cases_order t u) [
        | inl e ↦ same_leader u p x (subst (λ w. IsCommitted w p) e c) d
        | inr (inl h) ↦ inl (later_has t u p x h c d)
        | inr (inr h) ↦ inr (later_has u t x p h d c)
      ]
