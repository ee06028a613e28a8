-- What puts, deletes and range deletes make of the records.
use Rattle.std.proofs.Common.{◌≡◌, ℕ, List, Option, Some, None, Result, Ok, Err, filter, leb, refl, inl, inr}
use Rattle.std.specs.Prelude.{not}
use Rattle.std.proofs.lemmas.Bool.{cases_Bool}
use Rattle.ox_order.specs.declared.range.KeyRange.{KeyRange}
use Rattle.ox_order.specs.Range.{in_range}
use Rattle.ox_ops.specs.declared.write.Put.{Put}
use Rattle.ox_ops.specs.declared.write.Delete.{Delete}
use Rattle.ox_ops.specs.declared.reply.OpReply.{OpReply}
use Rattle.ox_ops.specs.declared.reply.OpReply.TheVariants as reply
use Rattle.ox_ops.specs.declared.answer.Record.{Record}
use Rattle.ox_ops.specs.State.{ShardState, record_of, with_record, without_key, is_open}
use Rattle.ox_ops.specs.Weight.{weight_of, weight_limit}
use Rattle.ox_ops.specs.Operation.{Effect, meets, put_record, put_at, put_key, put_under, put_in_session, put_on, unless_full, delete_on, delete_found, range_on}
use Rattle.ox_shard.specs.Lists.{stored_key, IsOpenIfSome}

-- A put that stored a record under a key, or none.
abbrev pub StoresAs : ShardState → Put → List Record → Option (List ℕ) → Type 0
StoresAs s p after None = after ≡ s.records
StoresAs s p after (Some key) = IsOpenIfSome p.session s.sessions × (after ≡ with_record (put_record s p key) s.records)

abbrev pub Stores : ShardState → Put → Effect → Type 0
Stores s p e = StoresAs s p e.state.records (stored_key e.reply)

module _ (s : ShardState) (p : Put) (live : IsOpenIfSome p.session s.sessions) where
  unless : (key : List ℕ) (weight : ℕ) → Stores s p (unless_full s (put_record s p key) weight)
  unless key weight = elim (cases_Bool (leb weight weight_limit)) [
    | inl fits ↦ rw fits (live, refl)
    | inr full ↦ rw full refl
  ]

  at : (key : List ℕ) → Stores s p (put_at s p key)
  at key = elim (cases_Bool (meets p.expect (record_of key s.records))) [
    | inl holds ↦ rw holds (unless key (weight_of (with_record (put_record s p key) s.records) s.sessions))
    | inr fails ↦ rw fails refl
  ]

  under : (key : Result (List ℕ) ℕ) → Stores s p (put_under s p key)
  under (Ok key) = at key
  under (Err group) = refl

in_session : (s : ShardState) (p : Put) (session : Option ℕ) → p.session ≡ session → Stores s p (put_in_session s p session)
in_session s p None e = under s p (rw e tt) (put_key s p p.deltas)
in_session s p (Some id) e = elim (cases_Bool (is_open id s.sessions)) [
  | inl live ↦ rw live (under s p (rw e live) (put_key s p p.deltas))
  | inr closed ↦ rw closed refl
]

-- a put stores its record under the key of the reply, or none
pub put-stores : (s : ShardState) (p : Put) → Stores s p (put_on s p)
unfolding put_on
put-stores s p = in_session s p p.session refl

-- ---- deletes

abbrev pub RemovesAs : ShardState → List ℕ → List Record → OpReply → Type 0
RemovesAs s key after reply.Deleted = after ≡ without_key key s.records
RemovesAs s key after _ = after ≡ s.records

abbrev pub Removes : ShardState → Delete → Effect → Type 0
Removes s d e = RemovesAs s d.key e.state.records e.reply

delete-found : (s : ShardState) (d : Delete) (old : Option Record) → Removes s d (delete_found s d old)
delete-found s d None = refl
delete-found s d (Some old) = elim (cases_Bool (meets d.expect (Some old))) [
  | inl holds ↦ rw holds refl
  | inr fails ↦ rw fails refl
]

-- a delete removes the record of its key, or nothing
pub delete-removes : (s : ShardState) (d : Delete) → Removes s d (delete_on s d)
unfolding delete_on
delete-removes s d = delete-found s d (record_of d.key s.records)

-- a range delete removes the records of the range
pub range-removes : (s : ShardState) (range : KeyRange) → (range_on s range).state.records ≡ filter (λ (r : Record). not (in_range range r.key)) s.records
unfolding range_on
range-removes s range = refl
