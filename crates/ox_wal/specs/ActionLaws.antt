-- The forms of actions are exact.
use Rattle.std.proofs.Common.{◌≡◌, ℕ, List, Some, refl, sym, ap}
use Rattle.std.proofs.lemmas.Option.{same_Some}
use Rattle.ox_types.specs.declared.log.Head.{Head}
use Rattle.ox_types.specs.declared.log.Entry.{Entry}
use Rattle.ox_types.specs.declared.log.Seat.{Seat}
use Rattle.ox_types.specs.declared.durable.Action.{Action}
use Rattle.ox_types.specs.declared.durable.Action.TheVariants as action_is
use Rattle.ox_bytes.specs.Form.{IsExact, pair, empty}
use Rattle.ox_bytes.specs.FormLaws.{pair_exact, empty_exact, is_variant}
use Rattle.ox_bytes.specs.Fields.{octets, list}
use Rattle.ox_bytes.specs.FieldLaws.{octets_exact, list_exact, choice_exact}
use Rattle.ox_bytes.specs.LogForms.{term, count, head, entry, seat}
use Rattle.ox_bytes.specs.LogLaws.{term_exact, count_exact, head_exact, entry_exact, seat_exact}
use Rattle.ox_wal.specs.ActionForms.{action_tag, action_term, action_attach, action_lead, action_append, action_restore, action, actions}

-- the fields of a Restore
abbrev Restored : Type 0
Restored = ℕ × (Seat × (Head × List ℕ))

action_term_there : (x : Action) (a : ℕ) → action_term x ≡ Some a → action_is.Term a ≡ x
action_term_there (action_is.Term k) a h = cc
action_term_there _ a h = absurd cc

action_attach_there : (x : Action) (a : ℕ) → action_attach x ≡ Some a → action_is.Attach a ≡ x
action_attach_there (action_is.Attach k) a h = cc
action_attach_there _ a h = absurd cc

action_lead_there : (x : Action) (a : Unit {0}) → action_lead x ≡ Some a → action_is.Lead ≡ x
action_lead_there action_is.Lead a h = refl
action_lead_there _ a h = absurd cc

action_append_there : (x : Action) (a : List Entry) → action_append x ≡ Some a → action_is.Append a ≡ x
action_append_there (action_is.Append k) a h = cc
action_append_there _ a h = absurd cc

action_restore_there : (x : Action) (a : Restored) → action_restore x ≡ Some a → action_is.Restore a.0 a.1.0 a.1.1.0 a.1.1.1 ≡ x
action_restore_there (action_is.Restore k l m n) a h =
    sym (ap (λ (p : Restored). action_is.Restore p.0 p.1.0 p.1.1.0 p.1.1.1) (same_Some (k, (l, (m, n))) a h))
action_restore_there _ a h = absurd cc

pub action_exact : IsExact action
unfolding action
action_exact = choice_exact action_tag _ (
  is_variant action_tag 0 (λ p. action_is.Term p) action_term term action_term_there (λ a. refl) (λ a. refl) term_exact,
  (
    is_variant action_tag 1 (λ p. action_is.Attach p) action_attach count action_attach_there (λ a. refl) (λ a. refl) count_exact,
    (
      is_variant action_tag 2 (λ _. action_is.Lead) action_lead empty action_lead_there (λ a. refl) (λ a. refl) empty_exact,
      (
        is_variant action_tag 3 (λ p. action_is.Append p) action_append (list entry) action_append_there (λ a. refl) (λ a. refl) (list_exact entry entry_exact),
        (
          is_variant action_tag 4 (λ p. action_is.Restore p.0 p.1.0 p.1.1.0 p.1.1.1) action_restore (pair term (pair seat (pair head octets))) action_restore_there (λ a. refl) (λ a. refl)
              (pair_exact term _ term_exact (pair_exact seat _ seat_exact (pair_exact head octets head_exact octets_exact))),
          tt,
        ),
      ),
    ),
  ),
)

pub actions_exact : IsExact actions
actions_exact = list_exact action action_exact
