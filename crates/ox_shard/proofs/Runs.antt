-- One step of operations that follow each other.
use Rattle.std.proofs.Common.{◌≡◌, ◌∙◌, sym, ap, refl, ℕ, ◌+◌, ◌<◌, List, [], ◌∷◌, ◌++◌, length, drop, get_or}
use Rattle.std.proofs.lemmas.List.{at_drop_more}
use Rattle.ox_ops.specs.State.{ShardState}
use Rattle.ox_ops.specs.Operation.{Effect}
use Rattle.ox_ops.specs.Apply.{Applied, and_then, each_on, some_notice}
use Rattle.ox_puts.specs.declared.change.Change.{Change}
use Rattle.ox_puts.specs.Records.{RecordsState}
use Rattle.ox_puts.specs.Changes.{effect}
use Rattle.ox_shard.specs.declared.done.Done.{Done}
use Rattle.ox_shard.specs.Done.{applied_of}

pub each-step : {A : Type 0} (op : ShardState → A → Effect) (before after : Applied) (xs : List A) (i : ℕ) (x : A) → i < length xs → x ≡ get_or xs i x → after ≡ and_then before (op before.state x) → each_on op after (drop (i + 1) xs) ≡ each_on op before (drop i xs)
each-step op before after xs i x within is e =
    ap (λ a. each_on op a (drop (i + 1) xs)) e
    ∙ ap (λ y. each_on op before (y ∷ drop (i + 1) xs)) is
    ∙ sym (at_drop_more (each_on op before) xs i x within)

-- a change of the records is what the operation makes of the shard
pub made-is : (s : ShardState) (after : RecordsState) (old new : Done) (change : Change) (e : Effect) → e ≡ effect s after change → new ≡ record { replies = old.replies ++ change.reply ∷ []; notices = old.notices ++ some_notice change.notice }
    → applied_of (record s { records = after.records; next_version = after.next_version }) new ≡ and_then (applied_of s old) e
made-is s after old new change e h n = rw (n, h) refl
