-- The forms of a register's commands, queries and replies are exact.
use Rattle.std.proofs.Common.{◌≡◌, ℕ, Some, refl}
use Rattle.ox_bytes.specs.Form.{IsExact, pair, empty}
use Rattle.ox_bytes.specs.FormLaws.{empty_exact, is_variant, pair_exact}
use Rattle.ox_bytes.specs.Fields.{number64}
use Rattle.ox_bytes.specs.NumberLaws.{number64_exact}
use Rattle.ox_bytes.specs.FieldLaws.{choice_exact}
use Rattle.ox_machine.specs.declared.register.RegisterCommand.{RegisterCommand}
use Rattle.ox_machine.specs.declared.register.RegisterCommand.TheVariants as command_is
use Rattle.ox_machine.specs.declared.register.RegisterQuery.{RegisterQuery}
use Rattle.ox_machine.specs.declared.register.RegisterQuery.TheVariants as query_is
use Rattle.ox_machine.specs.declared.register.RegisterReply.{RegisterReply}
use Rattle.ox_machine.specs.declared.register.RegisterReply.TheVariants as reply_is
use Rattle.ox_machine.specs.Forms.{command_tag, command_set, command_compare_and_set, command, query_tag, query_read, query, reply_tag, reply_done, reply_differs, reply}

command_set_there : (x : RegisterCommand) (a : ℕ) → command_set x ≡ Some a → command_is.Set a ≡ x
command_set_there (command_is.Set to) a h = cc
command_set_there _ a h = absurd cc

command_compare_and_set_there : (x : RegisterCommand) (a : ℕ × ℕ) → command_compare_and_set x ≡ Some a → command_is.CompareAndSet a.0 a.1 ≡ x
command_compare_and_set_there (command_is.CompareAndSet expected to) a h = cc
command_compare_and_set_there _ a h = absurd cc

pub command_exact : IsExact command
unfolding command
command_exact = choice_exact command_tag _ (
  is_variant command_tag 0 (λ p. command_is.Set p) command_set number64 command_set_there (λ a. refl) (λ a. refl) number64_exact,
  (
    is_variant command_tag 1 (λ p. command_is.CompareAndSet p.0 p.1) command_compare_and_set (pair number64 number64) command_compare_and_set_there (λ a. refl) (λ a. refl) (pair_exact number64 number64 number64_exact number64_exact),
    tt,
  ),
)

query_read_there : (x : RegisterQuery) (a : Unit {0}) → query_read x ≡ Some a → query_is.Read ≡ x
query_read_there query_is.Read a h = refl

pub query_exact : IsExact query
unfolding query
query_exact = choice_exact query_tag _ (is_variant query_tag 0 (λ _. query_is.Read) query_read empty query_read_there (λ a. refl) (λ a. refl) empty_exact, tt)

reply_done_there : (x : RegisterReply) (a : Unit {0}) → reply_done x ≡ Some a → reply_is.Done ≡ x
reply_done_there reply_is.Done a h = refl
reply_done_there _ a h = absurd cc

reply_differs_there : (x : RegisterReply) (a : ℕ) → reply_differs x ≡ Some a → reply_is.Differs a ≡ x
reply_differs_there (reply_is.Differs found) a h = cc
reply_differs_there _ a h = absurd cc

pub reply_exact : IsExact reply
unfolding reply
reply_exact = choice_exact reply_tag _ (
  is_variant reply_tag 0 (λ _. reply_is.Done) reply_done empty reply_done_there (λ a. refl) (λ a. refl) empty_exact,
  (
    is_variant reply_tag 1 (λ p. reply_is.Differs p) reply_differs number64 reply_differs_there (λ a. refl) (λ a. refl) number64_exact,
    tt,
  ),
)
