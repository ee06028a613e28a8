-- The text of the history of a shard.
use Rattle.std.specs.Prelude.{ℕ, ◌==◌, ◌&&◌, List, [], ◌∷◌, ◌++◌, length, Result, Ok, Err, codes, if◌then◌else◌}
use Rattle.std.specs.List.{flat_map}
use Rattle.ox_types.specs.declared.bad.MachineFault.{MachineFault}
use Rattle.ox_types.specs.declared.log.Entry.{Entry}
use Rattle.ox_types.specs.declared.log.EntryBody.{EntryBody}
use Rattle.ox_types.specs.declared.log.EntryBody.TheVariants.{Pass, Command}
use Rattle.ox_bytes.specs.Texts.{value_in}
use Rattle.ox_ops.specs.declared.write.ShardCommand.{ShardCommand}
use Rattle.ox_ops.specs.declared.write.ShardCommand.TheVariants.{Write, Open, Close, Expire}
use Rattle.ox_ops.specs.Forms.{command}
use Rattle.ox_text.specs.Words.{behind_space, field}
use Rattle.ox_wire.specs.declared.origin.Cause.{Cause}
use Rattle.ox_wire.specs.declared.origin.Cause.TheVariants as cause
use Rattle.ox_wire.specs.declared.origin.Origin.{Origin}

-- where an entry of the shard comes from
abbrev pub cause_of : ℕ → Entry → List Origin → Cause
cause_of shard e [] = cause.Opening
cause_of shard e (x ∷ xs) = if (x.shard == shard) && ((x.term == e.term) && (x.offset == e.offset)) then x.cause else cause_of shard e xs

-- a word, and the arrival that an entry comes from
abbrev pub by_arrival : List ℕ → Cause → List ℕ
by_arrival word cause.Opening = word
by_arrival word (cause.Arrival a) = word ++ field a
by_arrival word (cause.Expiry id) = word

-- what a command is in a history
abbrev pub command_text : ShardCommand → Cause → List ℕ
command_text (Write batch) x = by_arrival (codes "write") x
command_text (Open timeout) x = by_arrival (codes "open") x
command_text (Close session) x = by_arrival (codes "close") x
command_text (Expire session) x = codes "expire" ++ field session

-- the command that was read, and nothing where there is none
abbrev pub command_told : Result ShardCommand MachineFault → Cause → List ℕ
command_told (Ok c) x = command_text c x
command_told (Err fault) x = []

-- what an entry says
abbrev pub what_text : EntryBody → Cause → List ℕ
what_text Pass x = codes "pass"
what_text (Command bytes) x = command_told (value_in command bytes) x

-- the line of an entry: its offset, its term, its time, and what it says
abbrev pub entry_text : Entry → Cause → List ℕ
entry_text e x = codes " " ++ field e.offset ++ field e.term ++ field e.time ++ behind_space (what_text e.body x) ++ 10 ∷ []

abbrev pub entry_line : List Origin → ℕ → Entry → List ℕ
entry_line origins shard e = entry_text e (cause_of shard e origins)

-- the history of a shard, entry by entry
abbrev pub history_text : List Origin → ℕ → List Entry → List ℕ
history_text origins shard history = codes "history" ++ field shard ++ field (length history) ++ (10 ∷ flat_map (entry_line origins shard) history)
