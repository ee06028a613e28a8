-- The line of what is seen of an event.
use Rattle.std.specs.Prelude.{ℕ, List, [], ◌∷◌, ◌++◌, Result, Ok, Err, codes, decimal}
use Rattle.std.specs.List.{join_by}
use Rattle.ox_types.specs.declared.bad.MachineFault.{MachineFault}
use Rattle.ox_types.specs.declared.durable.KeptAs.{KeptAs}
use Rattle.ox_types.specs.declared.durable.KeptAs.TheVariants as kept
use Rattle.ox_types.specs.declared.log.Head.{Head}
use Rattle.ox_bytes.specs.Texts.{value_in}
use Rattle.ox_ops.specs.declared.answer.ShardAnswer.{ShardAnswer}
use Rattle.ox_ops.specs.declared.reply.ShardReply.{ShardReply}
use Rattle.ox_ops.specs.Forms.{shard_reply, answer}
use Rattle.ox_wire.specs.declared.message.Outcome.{Outcome}
use Rattle.ox_wire.specs.declared.message.Outcome.TheVariants as outcome
use Rattle.ox_text.specs.Words.{behind_space, field}
use Rattle.ox_wire.specs.Effects.{Effect}
use Rattle.ox_wire.specs.Effects.{Effect as effect}
use Rattle.ox_report.specs.Reply.{replies_text}
use Rattle.ox_report.specs.Answer.{answer_text}
use Rattle.ox_report.specs.Refusal.{seat_name, refusal_text}
use Rattle.ox_report.specs.Message.{peer_text, head_text, body_text}

-- ---- answers

-- the replies that bytes spell, and nothing where they spell none
abbrev pub reply_told : Result ShardReply MachineFault → List ℕ
reply_told (Ok r) = replies_text r
reply_told (Err fault) = []

abbrev pub reply_text_in : List ℕ → List ℕ
reply_text_in bytes = reply_told (value_in shard_reply bytes)

-- the answer that bytes spell, and nothing where they spell none
abbrev pub answer_told : Result ShardAnswer MachineFault → List ℕ
answer_told (Ok a) = answer_text a
answer_told (Err fault) = []

abbrev pub answer_text_in : List ℕ → List ℕ
answer_text_in bytes = answer_told (value_in answer bytes)

-- what the client of an arrival is told
abbrev pub outcome_text : ℕ → Outcome → List ℕ
outcome_text a (outcome.Ack term offset reply) = codes "ack" ++ field a ++ field term ++ field offset ++ behind_space (reply_text_in reply)
outcome_text a (outcome.Read term prefix told) = codes "read" ++ field a ++ field term ++ field prefix ++ behind_space (answer_text_in told)
outcome_text a (outcome.Refused r) = codes "refuse" ++ field a ++ behind_space (refusal_text r)

-- ---- what is kept

-- one act of a batch
abbrev pub act_text : KeptAs → List ℕ
act_text (kept.Term t) = codes "term=" ++ decimal t
act_text (kept.Attach count) = codes "attach=" ++ decimal count
act_text kept.Lead = codes "lead"
act_text (kept.Append entries) = codes "append=" ++ decimal entries
act_text (kept.Install head) = codes "install=" ++ head_text head
act_text (kept.Rebase count) = codes "rebase=" ++ decimal count

-- the acts, with a comma between two, and the head of the log with them
abbrev pub kept_text : List KeptAs → Head → List ℕ
kept_text acts head = codes "kept " ++ join_by act_text (codes ",") acts ++ codes " head=" ++ head_text head

-- ---- effects

-- what is seen: its word and its fields in order
abbrev pub effect_text : Effect → List ℕ
effect_text effect.Down = codes "down"
effect_text effect.Unknown = codes "unknown"
effect_text effect.Ignored = codes "ignored"
effect_text (effect.Arrival a) = codes "arrival" ++ field a
effect_text (effect.Opened shard term seat head) =
    codes "opened" ++ field shard ++ codes " term=" ++ decimal term ++ codes " seat=" ++ seat_name seat ++ codes " head=" ++ head_text head
effect_text (effect.Kept acts head) = kept_text acts head
effect_text effect.WasCut = codes "cut"
effect_text effect.Whole = codes "whole"
effect_text (effect.Sent k from to shard b) =
    codes "sent" ++ field k ++ behind_space (peer_text from) ++ behind_space (peer_text to) ++ field shard ++ behind_space (body_text b)
effect_text (effect.Answered a o) = outcome_text a o

-- its line, behind two spaces
abbrev pub effect_line : Effect → List ℕ
effect_line e = codes "  " ++ effect_text e ++ 10 ∷ []
