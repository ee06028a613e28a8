-- A register keeps the laws of machines.
use Rattle.std.proofs.Common.{ℕ, ◌≤◌, ◌<◌, ◌^◌, Bool, true, false, cond, nat_eq, length, refl, arith, length-append, inl}
use Rattle.std.proofs.lemmas.Bool.{and_parts, ltb-true, lt-ltb}
use Rattle.std.specs.Prelude.{IsTrue}
use Rattle.ox_bytes.specs.Numbers.{be64}
use Rattle.ox_bytes.specs.NumberLaws.{number64_exact, length-be64}
use Rattle.ox_bytes.specs.Fields.{number64}
use Rattle.ox_machine.specs.declared.register.RegisterCommand.{RegisterCommand}
use Rattle.ox_machine.specs.declared.register.RegisterCommand.TheVariants.{Set, CompareAndSet}
use Rattle.ox_machine.specs.declared.register.RegisterQuery.{RegisterQuery}
use Rattle.ox_machine.specs.declared.register.RegisterQuery.TheVariants.{Read}
use Rattle.ox_machine.specs.declared.register.RegisterReply.TheVariants.{Done, Differs}
use Rattle.ox_machine.specs.Forms.{command, reply}
use Rattle.ox_machine.specs.FormLaws.{command_exact, query_exact, reply_exact}
use Rattle.ox_machine.specs.Laws.{IsMachine, command_limit}
use Rattle.ox_machine.specs.Register.{register_meaning, value_after, reply_to, answer_to}

below_either : (test : Bool) (a b : ℕ) → a < 2 ^ 64 → b < 2 ^ 64 → cond test a b < 2 ^ 64
below_either true a b ha hb = ha
below_either false a b ha hb = hb

-- the value after a lawful command is a u64
pub value_after_fits : (value : ℕ) (c : RegisterCommand) → value < 2 ^ 64 → IsTrue (command.is_lawful c) → value_after value c < 2 ^ 64
unfolding command
value_after_fits value (Set to) fits h = ltb-true to (2 ^ 64) h
value_after_fits value (CompareAndSet expected to) fits h =
    below_either (nat_eq value expected) to value (ltb-true to (2 ^ 64) (and_parts (number64.is_lawful expected) (number64.is_lawful to) h).1) fits

lawful_either : (test : Bool) (value : ℕ) → value < 2 ^ 64 → IsTrue (reply.is_lawful (cond test Done (Differs value)))
unfolding reply
lawful_either true value fits = refl
lawful_either false value fits = lt-ltb value (2 ^ 64) fits

-- each reply of a u64 can be written
pub reply_lawful : (value : ℕ) (c : RegisterCommand) → value < 2 ^ 64 → IsTrue (reply.is_lawful (reply_to value c))
unfolding reply
reply_lawful value (Set to) fits = refl
reply_lawful value (CompareAndSet expected to) fits = lawful_either (nat_eq value expected) value fits

answer_lawful : (value : ℕ) (q : RegisterQuery) → value < 2 ^ 64 → IsTrue (number64.is_lawful (answer_to value q))
answer_lawful value Read fits = lt-ltb value (2 ^ 64) fits

-- the command of an expiry can be written
pub set_0_lawful : IsTrue (command.is_lawful (Set 0))
unfolding command
set_0_lawful = refl

-- a command has at most 17 bytes
pub command_small : (c : RegisterCommand) → length (command.text c) ≤ command_limit
unfolding command
command_small (Set to) = omega (arith, length-be64 to)
command_small (CompareAndSet expected to) = omega (arith, length-append (be64 expected) (be64 to), length-be64 expected, length-be64 to)

pub register_is_machine : IsMachine register_meaning
register_is_machine = record {
  commands_exact = command_exact;
  queries_exact = query_exact;
  replies_exact = reply_exact;
  answers_exact = number64_exact;
  opens = omega arith;
  stays = λ few many s h fits. fits;
  steps = λ s id time c can. value_after_fits s c can.fits can.lawful;
  replies_lawful = λ s id time c can. reply_lawful s c can.fits;
  answers_lawful = λ count s q most fits h. answer_lawful s q fits;
  read_is = λ c h. (λ _. inl refl, λ _. refl);
  expiries_lawful = λ id h. set_0_lawful;
  small = λ c h r. command_small c;
  rise = λ count s h. tt;
}
