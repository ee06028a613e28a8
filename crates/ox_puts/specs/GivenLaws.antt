-- The put of a shard is the one with the weight of its sessions, and with what it says of the session.
use Rattle.std.proofs.Common.{◌≡◌, ◌∙◌, ℕ, ◌+◌, ◌*◌, Bool, true, false, List, Option, Some, None, Result, Ok, Err, length, sum_by, refl, sym, ap}
use Rattle.std.specs.Prelude.{if◌then◌else◌}
use Rattle.ox_ops.specs.declared.write.Put.{Put}
use Rattle.ox_ops.specs.declared.reply.OpReply.TheVariants as reply
use Rattle.ox_ops.specs.State.{ShardState, record_of, with_record, is_open}
use Rattle.ox_ops.specs.Weight.{record_weight, session_weight}
use Rattle.ox_ops.specs.Operation.{Effect, refused, meets, version_of, put_record, unless_full, put_key, put_at, put_under, put_in_session, put_on}
use Rattle.ox_puts.specs.Records.{IsLive}
use Rattle.ox_puts.specs.Given.{put_at_given, put_under_given, put_in_session_given, put_given}

module _ (s : ShardState) (other : ℕ) (p : Put) (charged : session_weight * length s.sessions ≡ other) where
  at : (key : List ℕ) → put_at s p key ≡ put_at_given s other p key
  at key =
      ap (λ n. if meets p.expect (record_of key s.records)
      then unless_full s (put_record s p key) (sum_by record_weight (with_record (put_record s p key) s.records) + n)
      else refused s (reply.UnexpectedVersion (version_of (record_of key s.records)))) charged

  under : (key : Result (List ℕ) ℕ) → put_under s p key ≡ put_under_given s other p key
  under (Ok key) = at key
  under (Err group) = refl

  in_session : (live : Bool) (session : Option ℕ) → IsLive live session s.sessions → put_in_session s p session ≡ put_in_session_given s other live p session
  in_session live None is = under (put_key s p p.deltas)
  in_session live (Some id) is =
      ap (λ b. if b then put_under s p (put_key s p p.deltas) else refused s (reply.SessionDoesNotExist id)) (sym is)
      ∙ ap (λ e. if live then e else refused s (reply.SessionDoesNotExist id)) (under (put_key s p p.deltas))

-- from what is given to what the shard has
pub put_on-given : (s : ShardState) (other : ℕ) (live : Bool) (p : Put) → session_weight * length s.sessions ≡ other → IsLive live p.session s.sessions → put_on s p ≡ put_given s other live p
unfolding put_on put_given
put_on-given s other live p charged is = in_session s other p charged live p.session is
