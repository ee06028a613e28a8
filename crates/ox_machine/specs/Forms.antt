-- The bytes of a register's commands, queries and replies: the byte of the variant, then its fields.
use Rattle.std.specs.Prelude.{ℕ, [], ◌∷◌, Option, Some, None}
use Rattle.ox_bytes.specs.Form.{Form, pair, empty, variant}
use Rattle.ox_bytes.specs.Fields.{number64, choice}
use Rattle.ox_machine.specs.declared.register.RegisterCommand.{RegisterCommand}
use Rattle.ox_machine.specs.declared.register.RegisterCommand.TheVariants as command_is
use Rattle.ox_machine.specs.declared.register.RegisterQuery.{RegisterQuery}
use Rattle.ox_machine.specs.declared.register.RegisterQuery.TheVariants as query_is
use Rattle.ox_machine.specs.declared.register.RegisterReply.{RegisterReply}
use Rattle.ox_machine.specs.declared.register.RegisterReply.TheVariants as reply_is

-- the byte of a command, and its fields where it is of this kind
abbrev pub command_tag : RegisterCommand → ℕ
command_tag (command_is.Set to) = 0
command_tag (command_is.CompareAndSet expected to) = 1

abbrev pub command_set : RegisterCommand → Option ℕ
command_set (command_is.Set to) = Some to
command_set _ = None

abbrev pub command_compare_and_set : RegisterCommand → Option (ℕ × ℕ)
command_compare_and_set (command_is.CompareAndSet expected to) = Some (expected, to)
command_compare_and_set _ = None

-- a command
unfoldable pub command : Form RegisterCommand
command = choice command_tag (
    variant (λ p. command_is.Set p) command_set number64
    ∷ variant (λ p. command_is.CompareAndSet p.0 p.1) command_compare_and_set (pair number64 number64)
    ∷ [])

-- the byte of a query, and whether it is of this kind
abbrev pub query_tag : RegisterQuery → ℕ
query_tag query_is.Read = 0

abbrev pub query_read : RegisterQuery → Option (Unit {0})
query_read query_is.Read = Some tt

-- a query
unfoldable pub query : Form RegisterQuery
query = choice query_tag (variant (λ _. query_is.Read) query_read empty ∷ [])

-- the byte of a reply, and its field where it is of this kind
abbrev pub reply_tag : RegisterReply → ℕ
reply_tag reply_is.Done = 0
reply_tag (reply_is.Differs found) = 1

abbrev pub reply_done : RegisterReply → Option (Unit {0})
reply_done reply_is.Done = Some tt
reply_done _ = None

abbrev pub reply_differs : RegisterReply → Option ℕ
reply_differs (reply_is.Differs found) = Some found
reply_differs _ = None

-- a reply
unfoldable pub reply : Form RegisterReply
reply = choice reply_tag (
    variant (λ _. reply_is.Done) reply_done empty
    ∷ variant (λ p. reply_is.Differs p) reply_differs number64
    ∷ [])
