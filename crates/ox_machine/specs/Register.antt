-- A register: one number, at first 0.
use Rattle.std.specs.Prelude.{ℕ, ◌==◌, ◌<◌, ◌^◌, [], None, if◌then◌else◌}
use Rattle.ox_bytes.specs.Fields.{number64}
use Rattle.ox_machine.specs.declared.register.RegisterCommand.{RegisterCommand}
use Rattle.ox_machine.specs.declared.register.RegisterCommand.TheVariants.{Set, CompareAndSet}
use Rattle.ox_machine.specs.declared.register.RegisterQuery.{RegisterQuery}
use Rattle.ox_machine.specs.declared.register.RegisterQuery.TheVariants.{Read}
use Rattle.ox_machine.specs.declared.register.RegisterReply.{RegisterReply}
use Rattle.ox_machine.specs.declared.register.RegisterReply.TheVariants.{Done, Differs}
use Rattle.ox_machine.specs.Forms.{command, query, reply}
use Rattle.ox_machine.specs.Meaning.{Meaning}

-- the value after a command: a compare-and-set stores where the value is the expected one
abbrev pub value_after : ℕ → RegisterCommand → ℕ
value_after value (Set to) = to
value_after value (CompareAndSet expected to) = if value == expected then to else value

-- the reply to a command: a compare-and-set that doesn't store tells the value
abbrev pub reply_to : ℕ → RegisterCommand → RegisterReply
reply_to value (Set to) = Done
reply_to value (CompareAndSet expected to) = if value == expected then Done else Differs value

-- the answer to a query is the value
abbrev pub answer_to : ℕ → RegisterQuery → ℕ
answer_to value Read = value

-- A register as a machine. Each of its values fits every count; no command has a fault, and there are no timers.
abbrev pub register_meaning : Meaning ℕ RegisterCommand RegisterReply RegisterQuery ℕ
register_meaning = record {
  opening = 0;
  step = λ value _ _ c. value_after value c;
  reply = λ value _ _ c. reply_to value c;
  answer = answer_to;
  fault = λ _. None;
  timers = λ _. [];
  heard = λ _. None;
  expiry = λ _. Set 0;
  fits = λ _ value. value < 2 ^ 64;
  commands = command;
  queries = query;
  replies = reply;
  answers = number64;
}
