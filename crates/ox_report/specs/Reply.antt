-- The text of the replies to a command.
use Rattle.std.specs.Prelude.{ℕ, List, ◌++◌, codes}
use Rattle.std.specs.List.{join_by}
use Rattle.ox_ops.specs.declared.reply.OpReply.{OpReply}
use Rattle.ox_ops.specs.declared.reply.OpReply.TheVariants as reply
use Rattle.ox_ops.specs.declared.reply.ShardReply.{ShardReply}
use Rattle.ox_text.specs.Words.{spelt, field, field_or}
use Rattle.ox_report.specs.Field.{meta_fields}

-- the reply to one operation: its word and its fields in order
abbrev pub reply_text : OpReply → List ℕ
reply_text (reply.Put key meta) = codes "put " ++ spelt key ++ meta_fields meta
reply_text reply.Deleted = codes "deleted"
reply_text (reply.Ranged removed) = codes "ranged" ++ field removed
reply_text reply.KeyNotFound = codes "no-key"
reply_text (reply.UnexpectedVersion found) = codes "version" ++ field_or (codes "none") found
reply_text (reply.SessionDoesNotExist session) = codes "no-session" ++ field session
reply_text (reply.ShardFull weight limit) = codes "full" ++ field weight ++ field limit
reply_text (reply.SequenceSpent group) = codes "spent" ++ field group
reply_text (reply.Opened session) = codes "opened" ++ field session
reply_text (reply.Closed removed) = codes "closed" ++ field removed

-- the replies to a command, with `; ` between two
abbrev pub replies_text : ShardReply → List ℕ
replies_text r = join_by reply_text (codes "; ") r.ops
