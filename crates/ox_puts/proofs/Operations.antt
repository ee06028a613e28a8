-- Each case of a delete, of a range delete and of a put's session, told by the records.
use Rattle.std.proofs.Common.{◌≡◌, ◌∙◌, ℕ, Bool, true, false, Option, Some, None, length, filter, refl, sym, ap}
use Rattle.ox_order.specs.Range.{in_range}
use Rattle.ox_order.specs.declared.range.KeyRange.{KeyRange}
use Rattle.ox_ops.specs.declared.write.Put.{Put}
use Rattle.ox_ops.specs.declared.write.Delete.{Delete}
use Rattle.ox_ops.specs.declared.reply.OpReply.TheVariants as reply
use Rattle.ox_ops.specs.declared.answer.Record.{Record}
use Rattle.ox_ops.specs.State.{ShardState, record_of}
use Rattle.ox_ops.specs.Operation.{meets, delete_on, delete_found, range_on, put_key}
use Rattle.ox_puts.specs.declared.change.Change.{Change}
use Rattle.ox_puts.specs.Records.{RecordsState, IsOf}
use Rattle.ox_puts.specs.Given.{put_given, put_in_session_given, put_under_given}
use Rattle.ox_puts.specs.Changes.{effect, refusal_of, IsRemoved, IsRanged}
use Rattle.ox_puts.proofs.Puts.{refused-is}

module _ (s : ShardState) (t : RecordsState) (of : IsOf s t) where
  found-is : (d : Delete) (old : Option Record) → old ≡ record_of d.key t.records → delete_on s d ≡ delete_found s d old
  unfolding delete_on
  found-is d old e = ap (λ rs. delete_found s d (record_of d.key rs)) of.records ∙ ap (delete_found s d) (sym e)

  pub absent-is : (d : Delete) → None ≡ record_of d.key t.records → delete_on s d ≡ effect s t (refusal_of reply.KeyNotFound)
  absent-is d e = found-is d None e ∙ refused-is s t of reply.KeyNotFound

  pub mismatch-is : (d : Delete) (old : Record) → Some old ≡ record_of d.key t.records → meets d.expect (Some old) ≡ false → delete_on s d ≡ effect s t (refusal_of (reply.UnexpectedVersion (Some old.meta.version)))
  mismatch-is d old e fails = found-is d (Some old) e ∙ rw fails (refused-is s t of (reply.UnexpectedVersion (Some old.meta.version)))

  pub removed-is : (d : Delete) (old : Record) (after : RecordsState) (change : Change) → Some old ≡ record_of d.key t.records → meets d.expect (Some old) ≡ true → IsRemoved d.key t after change → delete_on s d ≡ effect s after change
  removed-is d old after change e holds made =
      found-is d (Some old) e ∙ rw holds (rw (of.records, made.then, made.reply, made.notice, ← of.next_version) refl)

  pub ranged-is : (range : KeyRange) (after : RecordsState) (change : Change) → IsRanged range t after change → range_on s range ≡ effect s after change
  unfolding range_on
  ranged-is range after change made = rw (of.records, made.then, made.reply, made.notice, ← of.next_version) refl

-- ---- the session of a put

module _ (s : ShardState) (other : ℕ) (p : Put) where
  pub no_session-is : (live : Bool) → p.session ≡ None → put_given s other live p ≡ put_under_given s other p (put_key s p p.deltas)
  unfolding put_given
  no_session-is live e = ap (put_in_session_given s other live p) e

  pub open_session-is : (live : Bool) (id : ℕ) → p.session ≡ Some id → live ≡ true → put_given s other live p ≡ put_under_given s other p (put_key s p p.deltas)
  unfolding put_given
  open_session-is live id e open' = ap (put_in_session_given s other live p) e ∙ rw open' refl

  pub closed_session-is : (live : Bool) (t : RecordsState) → IsOf s t → (id : ℕ) → p.session ≡ Some id → live ≡ false → put_given s other live p ≡ effect s t (refusal_of (reply.SessionDoesNotExist id))
  unfolding put_given
  closed_session-is live t of id e closed = ap (put_in_session_given s other live p) e ∙ rw closed (refused-is s t of (reply.SessionDoesNotExist id))
