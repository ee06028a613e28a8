-- Which bytes are a message, and what reading all of them answers.
use Rattle.std.specs.Prelude.{◌≡◌, ℕ, ◌-◌, List, Result, Ok, Err, IsTrue}
use Rattle.ox_bytes.specs.declared.fault.BadField.{BadField}
use Rattle.ox_wire.specs.declared.message.Message.{Message}
use Rattle.ox_wire.specs.declared.fault.WireFault.{WireFault}
use Rattle.ox_wire.specs.declared.fault.WireFault.TheVariants.{BadMessage, NoMemory}
use Rattle.ox_wire.specs.MessageForms.{message}

-- the fields of the message keep their rules, and the bytes are its text
pub record Spells (bytes : List ℕ) (m : Message) : Type 0 where
  pub lawful : IsTrue (message.is_lawful m)
  pub is_text : bytes ≡ message.text m

-- the bytes are a message
abbrev pub IsMessage : List ℕ → Type 0
IsMessage bytes = (m : Message) × Spells bytes m

-- the message that is read, or the place of the first field at fault in so many bytes, and the rule that it breaks
abbrev pub placed : ℕ → Result Message BadField → Result Message WireFault
placed count (Ok m) = Ok m
placed count (Err field) = Err (BadMessage (count - field.left) field.rule)

-- what a call answered is this, unless memory ran out
abbrev pub Answers : Result Message WireFault → Result Message WireFault → Type 0
Answers (Ok m) expected = expected ≡ Ok m
Answers (Err NoMemory) expected = Unit {0}
Answers (Err (BadMessage at rule)) expected = expected ≡ Err (BadMessage at rule)

-- where the bytes are said to be no message, the fact holds
abbrev pub OnBad : Result Message WireFault → Type 0 → Type 0
OnBad (Err (BadMessage at rule)) fact = fact
OnBad _ fact = Unit {0}
