-- Which requests the events of a run may carry.
use Rattle.std.specs.Prelude.{◌≡◌, ℕ, Bool, true, false, List, slice_get, Some, Ok, IsTrue}
use Rattle.ox_bytes.specs.Texts.{value_in}
use Rattle.ox_machine.specs.Meaning.{Meaning}
use Rattle.ox_wire.specs.declared.event.Request.{Request}
use Rattle.ox_wire.specs.Events.{RunEvent as Event}
use Rattle.ox_wire.specs.declared.event.Turn.TheVariants as turn
use Rattle.ox_solo_safety.specs.Moments.{turn_of}

module _ {S C R Q A : Type 0} (M : Meaning S C R Q A) where
  -- What its bytes are read as, if anything, is lawful in its form. It is so wherever they are bytes: numbers below 256.
  abbrev pub IsLawful : Request → Type 0
  IsLawful q = if_write q.write
    where
      if_write : Bool → Type 0
      if_write true = (c : C) → value_in M.commands q.body ≡ Ok c → IsTrue (M.commands.is_lawful c)
      if_write false = (x : Q) → value_in M.queries q.body ≡ Ok x → IsTrue (M.queries.is_lawful x)

  -- each request of the events is so
  abbrev pub AskLawfully : List Event → Type 0
  AskLawfully es = (k node shard : ℕ) (e : Event) (q : Request) → slice_get es k ≡ Some e → turn_of e ≡ Some (turn.Client node shard q) → IsLawful q
