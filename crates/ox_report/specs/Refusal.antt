-- The text of a refusal.
use Rattle.std.specs.Prelude.{ℕ, List, ◌++◌, codes}
use Rattle.ox_types.specs.declared.bad.Part.{Part}
use Rattle.ox_types.specs.declared.bad.Part.TheVariants as part
use Rattle.ox_types.specs.declared.bad.Rule.{Rule}
use Rattle.ox_types.specs.declared.bad.Rule.TheVariants as rule
use Rattle.ox_types.specs.declared.bad.Bad.{Bad}
use Rattle.ox_types.specs.declared.log.Seat.{Seat}
use Rattle.ox_types.specs.declared.log.Seat.TheVariants as seat
use Rattle.ox_types.specs.declared.refusal.Refusal.{Refusal}
use Rattle.ox_types.specs.declared.refusal.Refusal.TheVariants as refusal
use Rattle.ox_text.specs.Words.{behind_space, field, field_or}

-- the part of a request that is at fault
abbrev pub part_name : Part → List ℕ
part_name part.Bytes = codes "bytes"
part_name part.Batch = codes "batch"
part_name part.Put = codes "put"
part_name part.Session = codes "session"

-- the rule that it breaks
abbrev pub bad_rule_name : Rule → List ℕ
bad_rule_name rule.Grammar = codes "grammar"
bad_rule_name rule.Ops = codes "ops"
bad_rule_name rule.Size = codes "size"
bad_rule_name rule.Deltas = codes "deltas"
bad_rule_name rule.First = codes "first"
bad_rule_name rule.Sequence = codes "sequence"
bad_rule_name rule.Long = codes "long"
bad_rule_name rule.Indexes = codes "indexes"
bad_rule_name rule.Repeated = codes "repeated"
bad_rule_name rule.Timeout = codes "timeout"
bad_rule_name rule.Expire = codes "expire"

-- the seat that a replica has
abbrev pub seat_name : Seat → List ℕ
seat_name seat.Fenced = codes "fenced"
seat_name seat.Attached = codes "attached"
seat_name seat.Led = codes "led"

-- the fault of a request: its part, the place of the put, and the rule
abbrev pub bad_text : Bad → List ℕ
bad_text bad = codes "bad-request" ++ behind_space (part_name bad.part) ++ field bad.index ++ behind_space (bad_rule_name bad.rule)

-- the refusal: its name and its fields in order
abbrev pub refusal_text : Refusal → List ℕ
refusal_text (refusal.OldTerm asked has) = codes "old-term" ++ field asked ++ field has
refusal_text (refusal.UnknownTerm asked has) = codes "unknown-term" ++ field asked ++ field has
refusal_text (refusal.SeatTaken term seat) = codes "seat-taken" ++ field term ++ behind_space (seat_name seat)
refusal_text (refusal.NotLeader term hint) = codes "not-leader" ++ field term ++ field_or (codes "-") hint
refusal_text (refusal.Recovering term begin commit) = codes "recovering" ++ field term ++ field begin ++ field commit
refusal_text (refusal.TooManyPending limit) = codes "too-many-pending" ++ field limit
refusal_text (refusal.LogSpent count) = codes "log-spent" ++ field count
refusal_text (refusal.LogFull need free) = codes "log-full" ++ field need ++ field free
refusal_text (refusal.LeaderGone term by) = codes "leader-gone" ++ field term ++ field by
refusal_text (refusal.BadRequest bad) = bad_text bad
refusal_text (refusal.NoSuchShard asked shards) = codes "no-such-shard" ++ field asked ++ field shards
