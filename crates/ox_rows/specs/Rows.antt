-- Histories of the store as lists of commands with their times, and what they answer.
use Rattle.std.specs.Prelude.{ℕ, ◌+◌, List, [], ◌∷◌, ◌++◌, Some, None, codes}
use Rattle.ox_order.specs.declared.range.Lo.TheVariants.{Start, At}
use Rattle.ox_order.specs.declared.range.Hi.TheVariants.{End, Before}
use Rattle.ox_order.specs.declared.range.KeyRange.{KeyRange}
use Rattle.ox_ops.specs.declared.write.Expect.{Expect}
use Rattle.ox_ops.specs.declared.write.Expect.TheVariants.{Any, Absent, Exactly}
use Rattle.ox_ops.specs.declared.write.Put.{Put}
use Rattle.ox_ops.specs.declared.write.ShardCommand.{ShardCommand}
use Rattle.ox_ops.specs.declared.write.ShardCommand.TheVariants as command
use Rattle.ox_ops.specs.declared.reply.Meta.{Meta}
use Rattle.ox_ops.specs.declared.reply.OpReply.{OpReply}
use Rattle.ox_ops.specs.declared.query.ShardQuery.{ShardQuery}
use Rattle.ox_ops.specs.declared.notice.Notice.TheVariants as notice
use Rattle.ox_ops.specs.declared.notice.NoticeBatch.{NoticeBatch}
use Rattle.ox_ops.specs.declared.answer.ShardAnswer.{ShardAnswer}
use Rattle.ox_ops.specs.State.{ShardState, empty_state}
use Rattle.ox_ops.specs.Apply.{apply_entry, retained}
use Rattle.ox_ops.specs.Answer.{answer_to}

-- a command of an entry, and the entry's time
pub record Timed : Type 0 where
  pub time : ℕ
  pub command : ShardCommand

abbrev pub at_0 : ShardCommand → Timed
at_0 c = record { time = 0; command = c }

-- the replies to the commands, the first of them at offset `offset`
abbrev pub replies_from : ShardState → ℕ → List Timed → List OpReply
replies_from s offset [] = []
replies_from s offset (c ∷ cs) = (apply_entry s offset c.time c.command).replies ++ replies_from (apply_entry s offset c.time c.command).state (offset + 1) cs

-- the state behind them
abbrev pub state_from : ShardState → ℕ → List Timed → ShardState
state_from s offset [] = s
state_from s offset (c ∷ cs) = state_from (apply_entry s offset c.time c.command).state (offset + 1) cs

-- offset 0 is a pass
abbrev pub replies_of : List Timed → List OpReply
replies_of cs = replies_from empty_state 1 cs

abbrev pub asked_after : List Timed → ShardQuery → ShardAnswer
asked_after cs q = answer_to (state_from empty_state 1 cs) q

-- puts, deletes and ranges, each as a batch of one
abbrev pub put_of : List ℕ → List ℕ → Put
put_of key value = record { key = key; value = value; expect = Any; session = None; deltas = []; indexes = [] }

abbrev pub one_put : Put → ShardCommand
one_put p = command.Write (record { puts = p ∷ []; deletes = []; ranges = [] })

abbrev pub put : List ℕ → List ℕ → ShardCommand
put key value = one_put (put_of key value)

abbrev pub put_if : List ℕ → List ℕ → Expect → ShardCommand
put_if key value e = one_put (record (put_of key value) { expect = e })

abbrev pub put_in : List ℕ → List ℕ → ℕ → ShardCommand
put_in key value id = one_put (record (put_of key value) { session = Some id })

abbrev pub put_seq : List ℕ → List ℕ → List ℕ → ShardCommand
put_seq key value deltas = one_put (record (put_of key value) { deltas = deltas })

abbrev pub put_by : List ℕ → List ℕ → List ℕ → List ℕ → ShardCommand
put_by key value name second = one_put (record (put_of key value) { indexes = record { name = name; key = second } ∷ [] })

abbrev pub delete : List ℕ → ShardCommand
delete key = command.Write (record { puts = []; deletes = record { key = key; expect = Any } ∷ []; ranges = [] })

abbrev pub range_delete : List ℕ → List ℕ → ShardCommand
range_delete low high = command.Write (record { puts = []; deletes = []; ranges = record { lo = At low; hi = Before high } ∷ [] })

abbrev pub all_keys : KeyRange
all_keys = record { lo = Start; hi = End }

abbrev pub keys_order : List Timed
keys_order = at_0 (put (codes "b") (codes "x")) ∷ at_0 (put (codes "/a/b") (codes "x")) ∷ at_0 (put (codes "/a") (codes "x")) ∷ at_0 (put (codes "a") (codes "x")) ∷ at_0 (put (codes "/b") (codes "x")) ∷ at_0 (put (codes "/b/a") (codes "x")) ∷ at_0 (put (codes "/a/a") (codes "x")) ∷ []

abbrev pub expectations : List Timed
expectations = at_0 (put_if (codes "a") (codes "x") Absent) ∷ at_0 (put_if (codes "a") (codes "y") Absent) ∷ at_0 (delete (codes "a")) ∷ at_0 (put_if (codes "a") (codes "z") (Exactly 0)) ∷ []

abbrev pub sequence : List Timed
sequence = at_0 (put_seq (codes "q") (codes "x") (1 ∷ [])) ∷ at_0 (put_seq (codes "q") (codes "x") (3 ∷ [])) ∷ at_0 (put_seq (codes "q") (codes "x") (18446744073709551615 ∷ [])) ∷ []

abbrev pub sessions : List Timed
sessions = at_0 (command.Open 5000) ∷ at_0 (put_in (codes "e1") (codes "x") 1) ∷ at_0 (put_in (codes "e2") (codes "x") 1) ∷ at_0 (put (codes "e1") (codes "y")) ∷ at_0 (command.Close 1) ∷ []

abbrev pub retention : ℕ → List Timed
retention time = at_0 (put (codes "a") (codes "x")) ∷ record { time = time; command = put (codes "b") (codes "y") } ∷ []

-- a batch of one notice
abbrev pub batch_at : ℕ → ℕ → NoticeBatch
batch_at offset time = record { offset = offset; time = time; notices = notice.Deleted (codes "a") ∷ [] }

-- batches of which the one in the middle is the oldest
abbrev pub falling : List NoticeBatch
falling = batch_at 1 1 ∷ batch_at 2 0 ∷ batch_at 3 1 ∷ []

-- what is kept of them an hour after the first
abbrev pub after_falling : ShardState
after_falling = retained (record empty_state { time = 3600001 }) falling

abbrev pub owners : List Timed
owners = at_0 (put_by (codes "a") (codes "x") (codes "owner") (codes "b1")) ∷ at_0 (put_by (codes "b") (codes "y") (codes "owner") (codes "b1")) ∷ []

abbrev pub ranged : List Timed
ranged = at_0 (put (codes "a") (codes "x")) ∷ at_0 (put (codes "b") (codes "y")) ∷ at_0 (range_delete (codes "a") (codes "c")) ∷ at_0 (range_delete (codes "a") (codes "c")) ∷ []

-- an item that is its own size
abbrev pub itself : ℕ → ℕ
itself n = n

-- what a record that was put once, at time 0, tells of its version
abbrev pub once : ℕ → Meta
once version = record { version = version; modifications = 0; created = 0; modified = 0 }
