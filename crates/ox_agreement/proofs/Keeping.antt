-- What was committed stays with the nodes that had it; so the facts of a tale, and what follows from them.
use Rattle.std.proofs.Common.{◌≡◌, ℕ, suc, ◌<◌, ◌≤◌, Bool, List, [], ◌∷◌, refl, sym, ◌∙◌, subst, arith, inl, inr}
use Rattle.std.proofs.lemmas.Bool.{cases_lt}
use Rattle.std.specs.Prelude.{IsTrue}
use Rattle.ox_types.specs.declared.log.Entry.{Entry}
use Rattle.ox_types.specs.declared.log.Seat.{Seat}
use Rattle.ox_types.specs.declared.log.Seat.TheVariants.{Fenced, Attached, Led}
use Rattle.ox_quorum.specs.declared.config.Config.{Config}
use Rattle.ox_quorum.specs.Quorum.{meets_config, Follows}
use Rattle.ox_agreement.specs.Begins.{Begins}
use Rattle.ox_agreement.specs.Entries.{IsHeadWithin}
use Rattle.ox_agreement.specs.Tale.{Moment, latest, Was, WasFenced, TookPart, LeaderHad, LedFrom}
use Rattle.ox_agreement.specs.Steps.{Step, IsTale, IsFaithful, KeepsCommon}
use Rattle.ox_agreement.specs.Steps.Step.{ByFencing, ByLeading, ByWriting, ByAttaching, ByGrowing}
use Rattle.ox_agreement.specs.Committed.{QuorumHas, IsCommitted}
use Rattle.ox_agreement.specs.Story.{Story, IsStory, LeadersAreComplete, CandidatesAreComplete, HasOneHistory, IsRecoverable}
use Rattle.ox_agreement.proofs.Beginnings.{begins_itself, begins_on}
use Rattle.ox_agreement.proofs.Facts.{AreComplete, Facts}
use Rattle.ox_agreement.proofs.Completeness.{complete, agree, candidate_has}
use Rattle.ox_agreement.proofs.Moments.{latest_by, step_term, term_rises}
use Rattle.ox_agreement.proofs.Soundness.{latest_sound, sound}
use Rattle.ox_agreement.proofs.Stems.{Stems, some_entries, latest_stems, stems}
use Rattle.ox_agreement.proofs.Seats.{TookPartBy, took_part_by, took_part_rises, fenced_higher, stays}
use Rattle.ox_agreement.proofs.Seats.TookPartBy.{newly, earlier}
use Rattle.ox_agreement.proofs.Leaders.{one, opened}
use Rattle.ox_agreement.proofs.Openings.{opening}

-- A node that had what was committed has it on, in a tale whose later leaders are complete.
module _ (config : ℕ → Config) (leader : ℕ → ℕ) (whole : List Moment) (steps : IsTale leader whole) (faithful : IsFaithful whole) where
  abbrev pub Complete : ℕ → Type 0
  Complete v = AreComplete (LedFrom whole) (IsCommitted config whole) v

  abbrev pub IsIn : List Moment → Type 0
  IsIn ms = (n t : ℕ) (s : Seat) (l : List Entry) → Was ms n t s l → Was whole n t s l

  step_keeps :
      (ms : List Moment) (m : Moment) → IsTale leader ms →
      ((latest ms m.node).seat ≡ Fenced → m.seat ≡ Attached → KeepsCommon ms (latest ms m.node) m) → IsIn ms →
      (u : ℕ) (q p : List Entry) → TookPart ms m.node u q → IsCommitted config whole u p →
      Complete m.term → Step leader ms (latest ms m.node) m → Begins p (latest ms m.node).entries → Begins p m.entries
  step_keeps ms m tale faithful inside u q p st commits complete (ByFencing s) b = subst (λ l. Begins p l) (sym s.same) b
  step_keeps ms m tale faithful inside u q p st commits complete (ByLeading s) b =
      begins_on b (record { rest = s.pass ∷ []; is = sym s.added })
  step_keeps ms m tale faithful inside u q p st commits complete (ByWriting s) b = begins_on b (record { rest = s.more; is = sym s.added })
  step_keeps ms m tale faithful inside u q p st commits complete (ByGrowing s) b = begins_on b s.keeps
  step_keeps ms m tale faithful inside u q p st commits complete (ByAttaching s) b =
      let rises = took_part_rises leader ms tale m.node u q st in
      let k = faithful s.was s.seat in
      let o = opened leader whole steps k.leads.0 m.term k.list (inside k.leads.0 m.term Led k.list k.leads.1) in
      elim (cases_lt u m.term) [
        | inl h ↦ k.keeps p b (begins_on (complete o.0 o.1 u h p commits) o.2)
        | inr h ↦ let e = s.term in absurd (stays leader ms tale m.node u q st (omega arith) s.was)
      ]

  pub holds :
      (ms : List Moment) → IsTale leader ms → IsFaithful ms → IsIn ms → (n u : ℕ) (q p : List Entry) → TookPart ms n u q →
      IsCommitted config whole u p → Begins p q →
      ((v : ℕ) → v ≤ (latest ms n).term → Complete v) → Begins p (latest ms n).entries
  holds [] tale faithful inside n u q p (inl w) commits b = absurd w
  holds [] tale faithful inside n u q p (inr w) commits b = absurd w
  holds (m ∷ ms) tale faithful inside n u q p st commits b =
      holds_by (took_part_by leader m ms n u q st) (holds ms tale.1 faithful.1 (λ n t s l w. inside n t s l (inr w)))
    where
      holds_by :
          TookPartBy leader m ms n u q →
          ((n u : ℕ) (q p : List Entry) → TookPart ms n u q → IsCommitted config whole u p → Begins p q →
          ((v : ℕ) → v ≤ (latest ms n).term → Complete v) → Begins p (latest ms n).entries) →
          ((v : ℕ) → v ≤ (latest (m ∷ ms) n).term → Complete v) → Begins p (latest (m ∷ ms) n).entries
      holds_by (newly _ at _ has) each =
          latest_by (λ x. ((v : ℕ) → v ≤ x.term → Complete v) → Begins p x.entries) m ms n
          (λ _ _. subst (λ l. Begins p l) (sym has) b)
          (λ e. absurd (e at))
      holds_by (earlier w) each =
          latest_by (λ x. ((v : ℕ) → v ≤ x.term → Complete v) → Begins p x.entries) m ms n
          (λ e complete.
          let at : TookPart ms m.node u q = subst (λ k. TookPart ms k u q) (sym e) w in
          let up = step_term leader ms (latest ms m.node) m tale.0 in
          step_keeps ms m tale.1 faithful.0 (λ n t s l w. inside n t s l (inr w)) u q p at commits
          (complete m.term (omega arith)) tale.0
          (each m.node u q p at commits b (λ v h. complete v (omega arith))))
          (λ _. each n u q p w commits b)

  kept :
      (ms : List Moment) → IsTale leader ms → IsFaithful ms → IsIn ms → (n t u : ℕ) (l q p : List Entry) → WasFenced ms n t l →
      TookPart ms n u q → u < t →
      IsCommitted config whole u p → Begins p q → ((v : ℕ) → v < t → Complete v) → Begins p l
  kept [] tale faithful inside n t u l q p w st h commits b complete = absurd w
  kept (m ∷ ms) tale faithful inside n t u l q p w st h commits b complete =
      kept_by w (took_part_by leader m ms n u q st) (kept ms tale.1 faithful.1 (λ n t s l w. inside n t s l (inr w)) n t u l q p)
    where
      kept_by :
          WasFenced (m ∷ ms) n t l → TookPartBy leader m ms n u q →
          (WasFenced ms n t l → TookPart ms n u q → u < t → IsCommitted config whole u p → Begins p q →
          ((v : ℕ) → v < t → Complete v) → Begins p l) →
          Begins p l
      kept_by (inl g) (newly not _ _ _) each = absurd (not g.at_seat)
      kept_by (inl g) (earlier w) each =
          let s = fenced_higher leader ms (latest ms m.node) m tale.0 g.at_seat in
          let higher = s.higher in
          let term = g.at_term in
          let at : TookPart ms m.node u q = subst (λ k. TookPart ms k u q) (sym g.at_node) w in
          subst (λ l. Begins p l) (sym s.same ∙ g.has)
          (holds ms tale.1 faithful.1 (λ n t s l w. inside n t s l (inr w)) m.node u q p at commits b (λ v k. complete v (omega arith)))
      kept_by (inr v) (newly _ at term _) each =
          let rises : t ≤ (latest ms m.node).term =
          subst (λ k. t ≤ (latest ms k).term) (sym at) (term_rises leader ms tale.1 n t Fenced l v) in
          let up = step_term leader ms (latest ms m.node) m tale.0 in
          absurd (omega arith)
      kept_by (inr v) (earlier w) each = each v w h commits b complete

  -- who began to lead has led
  opens_within :
      (ms : List Moment) → IsTale leader ms → (t : ℕ) (q : List Entry) → LedFrom ms t q →
      (n : ℕ) × (l : List Entry) × Was ms n t Led l
  opens_within [] tale t q o = absurd o
  opens_within (m ∷ ms) tale t q (inl o) = (m.node, m.entries, inl (record { at_node = refl; at_term = o.0; at_seat = o.1; has = refl }))
  opens_within (m ∷ ms) tale t q (inr o) = let w = opens_within ms tale.1 t q o in (w.0, w.1, inr w.2)

  module _
      (steady : ℕ → Bool) (newest : ℕ) (chain : (v : ℕ) → v < newest → Follows (config v) (steady v) (config (suc v)))
      (within : (n : ℕ) → (latest whole n).term ≤ newest)
      (ready : (t : ℕ) → IsTrue (steady t) → (p : List Entry) × IsCommitted config whole t p)
      (chosen : (t : ℕ) (q : List Entry) → LedFrom whole t q → QuorumHas (config t) (λ n l. WasFenced whole n t l × IsHeadWithin l q)) where
    pub tale_facts : Facts config steady (WasFenced whole) (TookPart whole) (LedFrom whole) (LeaderHad whole) (IsCommitted config whole)
    tale_facts = record {
      chain = λ t q o v h.
          let w = opens_within whole steps t q o in
          let k = term_rises leader whole steps w.0 t Led w.1 w.2 in
          let j = within w.0 in
          chain v (omega arith);
      ready = ready;
      chosen = chosen;
      held = λ t p c. c.held;
      of_leader = λ t p c. (c.list, c.leads, c.begins);
      own = λ t p c. c.own;
      opened = λ t q l. opened leader whole steps l.0 t q l.1;
      one = one leader whole steps;
      below = λ t q o. (opening leader whole steps t q o).below;
      rises = λ t q o. (opening leader whole steps t q o).rises;
      fenced_rises = λ n t l w. (sound leader whole steps n t Fenced l w).rises;
      stems = λ t q o h. unfold Stems in (opening leader whole steps t q o).stems_of q (begins_itself q) (some_entries q h);
      kept = kept whole steps faithful (λ _ _ _ _ w. w);
    }

    -- of nodes that meet the newest config one with the highest head may be chosen, so it has what was committed
    pub recoverable :
        (nodes : ℕ → Bool) → IsTrue (meets_config nodes (config newest)) → (best : ℕ) →
        ((n : ℕ) → IsTrue (nodes n) → IsHeadWithin (latest whole n).entries (latest whole best).entries) →
        (u : ℕ) (p : List Entry) → IsCommitted config whole u p → Begins p (latest whole best).entries
    recoverable nodes meets best highest u p commits =
        let all = complete config steady _ _ _ _ _ tale_facts in
        let sound_at = λ (n : ℕ). latest_sound leader whole n (sound leader whole steps) in
        let up : u ≤ newest =
        let k = term_rises leader whole steps commits.leads.0 u Led commits.list commits.leads.1 in
        let j = within commits.leads.0 in
        omega arith in
        candidate_has config steady _ _ _ _ _ tale_facts
        newest (suc newest) (λ v _. all v) (latest whole best).entries
        (record {
          chain = chain;
          below = let k = (sound_at best).most in let j = within best in omega arith;
          stems = λ h.
              let list = (latest whole best).entries in
              unfold Stems in latest_stems leader whole best (stems leader whole steps) list (begins_itself list) (some_entries list h);
          poll = record {
            nodes = nodes;
            quorum = meets;
            each = λ n h. (
              (latest whole n).entries,
              (
                λ u x p _ stood commits front. holds whole steps faithful (λ _ _ _ _ w. w) n u x p stood commits front (λ v _. all v),
                (sound_at n).rises,
                highest n h,
              ),
            );
          };
        })
        (omega arith) u p up (omega arith) commits

    all_complete : (t : ℕ) → AreComplete (LedFrom whole) (IsCommitted config whole) t
    all_complete = complete config steady _ _ _ _ _ tale_facts

    -- a list of a leader has what was committed in lower terms
    pub leader_has :
        (t : ℕ) (x : List Entry) → LeaderHad whole t x → (u : ℕ) (p : List Entry) → u < t → IsCommitted config whole u p →
        Begins p x
    leader_has t x leads u p h commits =
        let o = opened leader whole steps leads.0 t x leads.1 in begins_on (all_complete t o.0 o.1 u h p commits) o.2

    -- and so has the list of a node that was fenced and may be chosen, before it leads
    pub elect_has :
        (n t : ℕ) (q : List Entry) → 0 < t → WasFenced whole n t q →
        QuorumHas (config t) (λ n l. WasFenced whole n t l × IsHeadWithin l q) →
        (u : ℕ) (p : List Entry) → u < t → IsCommitted config whole u p → Begins p q
    elect_has n t q some w poll u p h commits =
        let top : t ≤ newest = let k = term_rises leader whole steps n t Fenced q w in let j = within n in omega arith in
        candidate_has config steady _ _ _ _ _ tale_facts
        t t (λ v _. all_complete v) q
        (record {
          chain = λ v k. chain v (omega arith);
          below = (sound leader whole steps n t Fenced q w).less refl some;
          stems = λ k. unfold Stems in stems leader whole steps n t Fenced q w q (begins_itself q) (some_entries q k);
          poll = record {
            nodes = poll.nodes;
            quorum = poll.quorum;
            each = λ k e.
                let l = poll.each k e in (
                  l.0,
                  (
                    λ v x y j stood committed front.
                        kept whole steps faithful (λ _ _ _ _ w. w) k t v l.0 x y l.1.0 stood j committed front (λ v _. all_complete v),
                    (sound leader whole steps k t Fenced l.0 l.1.0).rises,
                    l.1.1,
                  ),
                );
          };
        })
        (omega arith) u p (omega arith) h commits

-- ---- of a story

module _ (s : Story) (is : IsStory s) where
  story_facts :
      Facts s.config s.steady (WasFenced s.tale) (TookPart s.tale) (LedFrom s.tale) (LeaderHad s.tale)
      (IsCommitted s.config s.tale)
  story_facts = tale_facts s.config s.leader s.tale is.steps is.faithful s.steady s.newest is.chain is.within is.ready is.chosen

  pub story_complete : LeadersAreComplete s
  story_complete t u q p opens h commits = complete s.config s.steady _ _ _ _ _ story_facts t q opens u h p commits

  pub story_candidates : CandidatesAreComplete s
  story_candidates n t q some w poll u p h commits =
      elect_has s.config s.leader s.tale is.steps is.faithful s.steady s.newest is.chain is.within is.ready is.chosen
      n t q some w poll u p h commits

  pub story_agrees : HasOneHistory s
  story_agrees = agree s.config s.steady _ _ _ _ _ story_facts

  pub story_recoverable : IsRecoverable s
  story_recoverable =
      recoverable s.config s.leader s.tale is.steps is.faithful s.steady s.newest is.chain is.within is.ready is.chosen
