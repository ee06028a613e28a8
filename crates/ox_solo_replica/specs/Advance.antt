-- What is told to the clients that wait for entries, where these are applied; and what makes entries fit to be applied.
use Rattle.std.specs.Prelude.{ℕ, ◌==◌, nat_le, Bool, true, ◌&&◌, List, [], ◌∷◌, ◌++◌, filter, is_some, Option, Some, None, if◌then◌else◌}
use Rattle.ox_types.specs.declared.log.Entry.{Entry}
use Rattle.ox_types.specs.declared.log.EntryBody.{EntryBody}
use Rattle.ox_types.specs.declared.log.EntryBody.TheVariants as body
use Rattle.ox_wire.specs.declared.message.Outcome.TheVariants as outcome
use Rattle.ox_machine.specs.Meaning.{Meaning}
use Rattle.ox_machine.specs.Store.{command_in, after, reply_to}
use Rattle.ox_solo_replica.specs.declared.leading.Pending.{Pending}
use Rattle.ox_solo_replica.specs.declared.output.Answered.{Answered}

-- the tag of the client that waits for the entry at this offset
abbrev pub waits_at : ℕ → List Pending → Option ℕ
waits_at offset [] = None
waits_at offset (p ∷ pending) = if p.offset == offset then Some p.tag else waits_at offset pending

-- the clients that still wait where so many entries are committed
abbrev pub still_pending : ℕ → List Pending → List Pending
still_pending commit pending = filter (λ p. nat_le commit p.offset) pending

module _ {S C R Q A : Type 0} (M : Meaning S C R Q A) where
  -- what the client that waits for this offset is told
  abbrev pub ack_of : ℕ → ℕ → Option ℕ → Option R → List Answered
  ack_of term offset None reply = []
  ack_of term offset (Some tag) None = []
  ack_of term offset (Some tag) (Some reply) = record { tag = tag; outcome = outcome.Ack term offset (M.replies.text reply) } ∷ []

  -- what clients are told where these entries are applied to a state, by offset
  abbrev pub acks_of : ℕ → List Pending → S → List Entry → List Answered
  acks_of term pending s [] = []
  acks_of term pending s (e ∷ entries) = ack_of term e.offset (waits_at e.offset pending) (reply_to M s e) ++ acks_of term pending (after M s e) entries

  -- a Pass, or a command that the machine reads
  abbrev pub is_read : EntryBody → Bool
  is_read body.Pass = true
  is_read (body.Command bytes) = is_some (command_in M bytes)

  -- the machine reads the entry, and its time is within the clock's limit
  abbrev pub is_entry : Entry → Bool
  is_entry e = nat_le e.time 9007199254740992 && is_read e.body
