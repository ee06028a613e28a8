-- The bytes of what a replica writes to its disks (docs/FORMATS.md).
use Rattle.std.specs.Prelude.{ℕ, List, [], ◌∷◌, Option, Some, None}
use Rattle.ox_types.specs.declared.log.Head.{Head}
use Rattle.ox_types.specs.declared.log.Entry.{Entry}
use Rattle.ox_types.specs.declared.log.Seat.{Seat}
use Rattle.ox_types.specs.declared.durable.Action.{Action}
use Rattle.ox_types.specs.declared.durable.Action.TheVariants as action_is
use Rattle.ox_bytes.specs.Form.{Form, pair, empty, variant}
use Rattle.ox_bytes.specs.Fields.{octets, list, choice}
use Rattle.ox_bytes.specs.LogForms.{term, count, head, entry, seat}

-- the byte of an action, and its fields where it is of this kind
abbrev pub action_tag : Action → ℕ
action_tag (action_is.Term k) = 0
action_tag (action_is.Attach k) = 1
action_tag action_is.Lead = 2
action_tag (action_is.Append k) = 3
action_tag (action_is.Restore k l m n) = 4

abbrev pub action_term : Action → Option ℕ
action_term (action_is.Term k) = Some k
action_term _ = None

abbrev pub action_attach : Action → Option ℕ
action_attach (action_is.Attach k) = Some k
action_attach _ = None

abbrev pub action_lead : Action → Option (Unit {0})
action_lead action_is.Lead = Some tt
action_lead _ = None

abbrev pub action_append : Action → Option (List Entry)
action_append (action_is.Append k) = Some k
action_append _ = None

abbrev pub action_restore : Action → Option (ℕ × (Seat × (Head × List ℕ)))
action_restore (action_is.Restore k l m n) = Some (k, (l, (m, n)))
action_restore _ = None

-- an action
unfoldable pub action : Form Action
action = choice action_tag (
    variant (λ p. action_is.Term p) action_term term
    ∷ variant (λ p. action_is.Attach p) action_attach count
    ∷ variant (λ _. action_is.Lead) action_lead empty
    ∷ variant (λ p. action_is.Append p) action_append (list entry)
    ∷ variant (λ p. action_is.Restore p.0 p.1.0 p.1.1.0 p.1.1.1) action_restore (pair term (pair seat (pair head octets)))
    ∷ [])

-- the actions of a batch
abbrev pub actions : Form (List Action)
actions = list action
