-- When a run is legal: for each shard there is one history that only grows, and every answer is that of one thread over it.
use Rattle.std.specs.Prelude.{◌≡◌, ◌≢◌, ℕ, ◌+◌, ◌-◌, ◌<◌, ◌≤◌, Bool, true, false, List, length, take, drop, slice_get, Option, Some, None, Ok, ◌⊎◌}
use Rattle.ox_types.specs.declared.log.Entry.{Entry}
use Rattle.ox_types.specs.declared.log.EntryBody.TheVariants as body
use Rattle.ox_types.specs.Durable.{DurableState}
use Rattle.ox_bytes.specs.Texts.{value_in}
use Rattle.ox_ops.specs.declared.query.ShardQuery.{ShardQuery}
use Rattle.ox_ops.specs.declared.answer.ShardAnswer.{ShardAnswer}
use Rattle.ox_wire.specs.declared.message.Outcome.{Outcome}
use Rattle.ox_wire.specs.declared.message.Outcome.TheVariants as outcome
use Rattle.ox_machine.specs.Meaning.{Meaning}
use Rattle.ox_machine.specs.Store.{state_after, reply_at, answer_after}
use Rattle.ox_solo_replica.specs.State.{ReplicaState}
use Rattle.ox_solo_replica.specs.Client.{fault_of}
use Rattle.ox_wire.specs.declared.event.Request.{Request}
use Rattle.ox_wire.specs.Events.{RunEvent as Event}
use Rattle.ox_wire.specs.Effects.{Effect as effect}
use Rattle.ox_solo_safety.specs.declared.power.Power.TheVariants as power
use Rattle.ox_wire.specs.declared.origin.Cause.{Cause}
use Rattle.ox_wire.specs.declared.origin.Cause.TheVariants as cause
use Rattle.ox_solo_safety.specs.Moments.{Begins, history_at, power_at, replica_at, Shows, CameBefore, Acks, Reads, IsFrom}
use Rattle.ox_solo_safety.specs.Says.{Says}
use Rattle.ox_solo_safety.specs.Expiry.{IsExpiry}
use Rattle.ox_solo_safety.specs.Refusals.{RefusalsAreTrue}
use Rattle.ox_solo_safety.specs.Notices.{Noticing, NoticesAreComplete}

-- an acknowledgement answers a write, a told prefix a query, and a refusal either
abbrev pub Suits : Bool → Outcome → Type 0
Suits true (outcome.Ack term offset reply) = Unit {0}
Suits false (outcome.Ack term offset reply) = ⊥
Suits true (outcome.Read term prefix answer) = ⊥
Suits false (outcome.Read term prefix answer) = Unit {0}
Suits write (outcome.Refused refusal) = Unit {0}

module _ {S C R Q A : Type 0} (M : Meaning S C R Q A) (blocks : ℕ) (es : List Event) where
  -- the arrival came to a shard, in the event or before it, with a request of this kind
  pub record HasRequest (k arrival : ℕ) (told : Outcome) : Type 0 where
    pub shard : ℕ
    pub request : Request
    pub came : CameBefore M blocks es (k + 1) arrival shard request
    pub kind : Suits request.write told

  -- whoever is answered has asked
  abbrev pub AnswersHaveRequests : Type 0
  AnswersHaveRequests = (k j arrival : ℕ) (told : Outcome) → Shows M blocks es k j (effect.Answered arrival told) → HasRequest k arrival told

  -- the history has, at the offset, an entry of the term that comes from the arrival and whose command is the arrival's request
  pub record StandsInHistory (k arrival shard term offset : ℕ) : Type 0 where
    pub entry : Entry
    pub stands : slice_get (history_at M blocks es (k + 1) shard) offset ≡ Some entry
    pub term_is : entry.term ≡ term
    pub from : IsFrom M blocks es (k + 1) shard entry (cause.Arrival arrival)
    pub bytes : List ℕ
    pub came : CameBefore M blocks es (k + 1) arrival shard (record { write = true; body = bytes })
    pub same : entry.body ≡ body.Command bytes

  -- each acknowledged write stands where it was told, and no two acknowledgements share an arrival, nor an offset of a shard
  pub record IsAcknowledgedInPlace : Type 0 where
    pub stands : (k j a s t o : ℕ) (reply : List ℕ) → Acks M blocks es k j a s t o reply → StandsInHistory k a s t o
    pub once :
        (k j a s t o k' j' a' s' t' o' : ℕ) (reply reply' : List ℕ) →
        Acks M blocks es k j a s t o reply → Acks M blocks es k' j' a' s' t' o' reply' →
        ((k ≡ k') × (j ≡ j')) ⊎ ((a ≢ a') × (s ≡ s' → o ≢ o'))

  -- the bytes say the reply of the one-thread store to the entry at the offset
  pub record IsReply (k s o : ℕ) (bytes : List ℕ) : Type 0 where
    pub reply : R
    pub is : reply_at M (history_at M blocks es (k + 1) s) o ≡ Some reply
    pub says : Says M.replies bytes reply

  abbrev pub RepliesMatch : Type 0
  RepliesMatch = (k j a s t o : ℕ) (reply : List ℕ) → Acks M blocks es k j a s t o reply → IsReply k s o reply

  -- an arrival's command, which has no fault
  pub record IsCommand (k s a : ℕ) (e : Entry) : Type 0 where
    pub bytes : List ℕ
    pub came : CameBefore M blocks es k a s (record { write = true; body = bytes })
    pub faultless : fault_of M (value_in M.commands bytes) ≡ None
    pub same : e.body ≡ body.Command bytes

  -- an entry of a term's beginning is a Pass; one from an arrival is the command that came so; and one from a timer is the
  -- expiry of a session whose timer had run out
  abbrev pub IsCaused : ℕ → ℕ → Entry → Cause → Type 0
  IsCaused k s e cause.Opening = e.body ≡ body.Pass
  IsCaused k s e (cause.Arrival a) = IsCommand k s a e
  IsCaused k s e (cause.Expiry id) = IsExpiry M blocks es k s e id

  -- every entry of a history has its cause and its own offset, and no arrival stands in it twice
  pub record EntriesHaveCauses : Type 0 where
    pub caused : (k s o : ℕ) (e : Entry) → slice_get (history_at M blocks es k s) o ≡ Some e → (x : Cause) × IsFrom M blocks es k s e x × IsCaused k s e x
    pub once :
        (k s o p a : ℕ) (e f : Entry) → slice_get (history_at M blocks es k s) o ≡ Some e → slice_get (history_at M blocks es k s) p ≡ Some f →
        IsFrom M blocks es k s e (cause.Arrival a) → IsFrom M blocks es k s f (cause.Arrival a) → o ≡ p
    -- each entry has the offset at which it stands
    pub in_place : (k s o : ℕ) (e : Entry) → slice_get (history_at M blocks es k s) o ≡ Some e → e.offset ≡ o

  -- The told prefix is part of the history and the answer is the one-thread store's after it. It is above every offset
  -- acknowledged in a lower term, or earlier in its own, and it reaches every prefix told to a read so.
  pub record IsRead (k a s t p : ℕ) (answer : List ℕ) : Type 0 where
    pub bytes : List ℕ
    pub came : CameBefore M blocks es (k + 1) a s (record { write = false; body = bytes })
    pub query : Q
    pub asks : value_in M.queries bytes ≡ Ok query
    pub within : p ≤ length (history_at M blocks es (k + 1) s)
    pub says : Says M.answers answer (answer_after M (history_at M blocks es (k + 1) s) p query)
    pub above_lower : (k' j' b u o : ℕ) (reply : List ℕ) → Acks M blocks es k' j' b s u o reply → u < t → o < p
    pub above_earlier : (k' j' b o : ℕ) (reply : List ℕ) → k' < k → Acks M blocks es k' j' b s t o reply → o < p
    pub reaches_lower : (k' j' b u q : ℕ) (other : List ℕ) → Reads M blocks es k' j' b s u q other → u < t → q ≤ p
    pub reaches_earlier : (k' j' b q : ℕ) (other : List ℕ) → k' < k → Reads M blocks es k' j' b s t q other → q ≤ p

  -- each read names its prefix
  abbrev pub ReadsMatch : Type 0
  ReadsMatch = (k j a s t p : ℕ) (answer : List ℕ) → Reads M blocks es k j a s t p answer → IsRead k a s t p answer

  -- the saved state is that of the one-thread store after so many entries, and until there are any, there are none
  abbrev pub IsSaved : ℕ → Option (List ℕ) → Type 0
  IsSaved count None = count ≡ 0
  IsSaved count (Some bytes) = ⊥

  -- what the disks of a node that isn't lost stand for
  pub record IsDurable (d : DurableState) (history : List Entry) : Type 0 where
    pub within : d.base.count ≤ length history
    pub saved : IsSaved d.base.count d.saved

  -- what a replica that is up knows to be committed is the history's, and its machine has applied just that
  pub record Agrees (r : ReplicaState S) (history : List Entry) : Type 0 where
    pub within : r.live.commit ≤ length history
    pub same : take (r.live.commit - r.disk.base.count) r.disk.entries ≡ drop r.disk.base.count (take r.live.commit history)
    pub value : r.live.machine ≡ state_after M (take r.live.commit history)

  -- at each moment every replica agrees with the history, which only grows
  pub record ReplicasAgree : Type 0 where
    pub durable : (k n s : ℕ) (r : ReplicaState S) → power_at M blocks es k ≢ power.Lost → replica_at M blocks es k n s ≡ Some r → IsDurable r.disk (history_at M blocks es k s)
    pub agree : (k n s : ℕ) (r : ReplicaState S) → power_at M blocks es k ≡ power.Up → replica_at M blocks es k n s ≡ Some r → Agrees r (history_at M blocks es k s)
    pub grows : (j k s : ℕ) → j ≤ k → Begins (history_at M blocks es j s) (history_at M blocks es k s)

pub record IsLegal {S C R : Type 0} (M : Meaning S C R ShardQuery ShardAnswer) (blocks : ℕ) (es : List Event) (N : Noticing S C) : Type 0 where
  pub asked : AnswersHaveRequests M blocks es
  pub acknowledged : IsAcknowledgedInPlace M blocks es
  pub replies : RepliesMatch M blocks es
  pub causes : EntriesHaveCauses M blocks es
  pub reads : ReadsMatch M blocks es
  pub refusals : RefusalsAreTrue M blocks es
  pub replicas : ReplicasAgree M blocks es
  pub notices : NoticesAreComplete M N blocks es
