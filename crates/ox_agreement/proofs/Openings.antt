-- What a node has before it begins to lead.
use Rattle.std.proofs.Common.{◌≡◌, ℕ, ◌<◌, List, [], ◌∷◌, subst, arith, inl, inr}
use Rattle.ox_types.specs.declared.log.Entry.{Entry}
use Rattle.ox_types.specs.declared.log.Seat.TheVariants.{Fenced, Led}
use Rattle.ox_agreement.specs.Entries.{last_term}
use Rattle.ox_agreement.specs.Tale.{Moment, latest, LedFrom}
use Rattle.ox_agreement.specs.Steps.{BeginsToLead, Step, IsTale}
use Rattle.ox_agreement.specs.Steps.Step.{ByFencing, ByLeading, ByWriting, ByAttaching, ByGrowing}
use Rattle.ox_agreement.proofs.Fronts.{TermsNeverFall}
use Rattle.ox_agreement.proofs.Moments.{not_fenced_led, not_attached_led}
use Rattle.ox_agreement.proofs.Soundness.{latest_sound, sound}
use Rattle.ox_agreement.proofs.Stems.{Stems, stems_later, latest_stems, stems}

-- its terms never fall and are lower, and each of its beginnings is one of a list of a leader
pub record IsOpening (ms : List Moment) (t : ℕ) (q : List Entry) : Type 0 where
  pub below : last_term q < t
  pub rises : TermsNeverFall q
  pub stems_of : Stems ms q

module _ (leader : ℕ → ℕ) where
  opening_later : (m : Moment) (ms : List Moment) (t : ℕ) (q : List Entry) → IsOpening ms t q → IsOpening (m ∷ ms) t q
  opening_later m ms t q o = record {
    below = o.below;
    rises = o.rises;
    stems_of = stems_later m ms q o.stems_of;
  }

  opening_new_leader :
      (ms : List Moment) (m : Moment) → IsTale leader ms → BeginsToLead leader (latest ms m.node) m →
      IsOpening ms m.term (latest ms m.node).entries
  opening_new_leader ms m tale s =
      let before = latest_sound leader ms m.node (sound leader ms tale) in
      record {
        below = let h = s.some_term in let e = s.term in let k = before.less s.was (omega arith) in omega arith;
        rises = before.rises;
        stems_of = latest_stems leader ms m.node (stems leader ms tale);
      }

  opening_new :
      (ms : List Moment) (m : Moment) → IsTale leader ms → m.seat ≡ Led → (latest ms m.node).seat ≡ Fenced →
      Step leader ms (latest ms m.node) m →
      IsOpening ms m.term (latest ms m.node).entries
  opening_new ms m tale led was (ByFencing s) = absurd (not_fenced_led led s.seat)
  opening_new ms m tale led was (ByLeading s) = opening_new_leader ms m tale s
  opening_new ms m tale led was (ByWriting s) = absurd (not_fenced_led s.was was)
  opening_new ms m tale led was (ByAttaching s) = absurd (not_attached_led led s.seat)
  opening_new ms m tale led was (ByGrowing s) = absurd (not_attached_led led s.seat)

  pub opening : (ms : List Moment) → IsTale leader ms → (t : ℕ) (q : List Entry) → LedFrom ms t q → IsOpening ms t q
  opening [] tale t q o = absurd o
  opening (m ∷ ms) tale t q (inl o) =
      subst (λ t. IsOpening (m ∷ ms) t q) o.0
      (subst (λ q. IsOpening (m ∷ ms) m.term q) o.3
      (opening_later m ms m.term (latest ms m.node).entries (opening_new ms m tale.1 o.1 o.2 tale.0)))
  opening (m ∷ ms) tale t q (inr o) = opening_later m ms t q (opening ms tale.1 t q o)
