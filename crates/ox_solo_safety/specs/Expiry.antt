-- When the timer of a session starts anew at a leader, and when an entry is the expiry of a session.
use Rattle.std.specs.Prelude.{◌≡◌, ℕ, ◌+◌, ◌<◌, ◌≤◌, List, slice_get, Some, Ok, false}
use Rattle.ox_types.specs.declared.log.Entry.{Entry}
use Rattle.ox_types.specs.declared.log.EntryBody.TheVariants as body
use Rattle.ox_types.specs.declared.timer.Timer.{Timer}
use Rattle.ox_bytes.specs.Texts.{value_in}
use Rattle.ox_machine.specs.Meaning.{Meaning}
use Rattle.ox_solo_replica.specs.declared.leading.Leading.{Leading}
use Rattle.ox_solo_replica.specs.State.{ReplicaState}
use Rattle.ox_wire.specs.Events.{RunEvent as Event}
use Rattle.ox_wire.specs.declared.origin.Cause.TheVariants as cause
use Rattle.ox_solo_safety.specs.Moments.{Has, replica_at, Leads, CameBefore, Reads, IsFrom}

module _ {S C R Q A : Type 0} (M : Meaning S C R Q A) (blocks : ℕ) (es : List Event) where
  -- at moment m the node leads in term t, and it has committed that term's Pass
  pub record HasPass (m node shard t : ℕ) : Type 0 where
    pub replica : ReplicaState S
    pub leading : Leading
    pub leads : Leads M blocks es m node shard t replica leading
    pub place : ℕ
    pub entry : Entry
    pub stands : slice_get replica.disk.entries place ≡ Some entry
    pub committed : entry.offset < replica.live.commit
    pub entry_term : entry.term ≡ t
    pub pass : entry.body ≡ body.Pass

  -- at moment m the session is open in the store that the replica of the node has applied
  pub record IsOpen (m node shard id : ℕ) : Type 0 where
    pub replica : ReplicaState S
    pub there : replica_at M blocks es m node shard ≡ Some replica
    pub timer : Timer
    pub runs : Has (M.timers replica.live.machine) timer
    pub id_is : timer.id ≡ id

  -- event k answers a sign of life of the session, which came to the shard, in term t
  pub record Keeps (k node shard t id : ℕ) : Type 0 where
    pub effect : ℕ
    pub arrival : ℕ
    pub prefix : ℕ
    pub answer : List ℕ
    pub answered : Reads M blocks es k effect arrival shard t prefix answer
    pub bytes : List ℕ
    pub came : CameBefore M blocks es (k + 1) arrival shard (record { write = false; body = bytes })
    pub query : Q
    pub asks : value_in M.queries bytes ≡ Ok query
    pub session : M.heard query ≡ Some id
    pub open_then : IsOpen k node shard id

  -- The timer of the session starts anew at moment m, at the leader of term t: its Pass is committed then, the session is
  -- opened by what is committed then, or a sign of life was answered just before.
  pub data Restarts (m node shard t id : ℕ) : Type 0 where
    by_pass : HasPass m node shard t → ((j : ℕ) → j < m → ¬ (HasPass j node shard t)) → Restarts m node shard t id
    by_open : (j : ℕ) → (r : ReplicaState S) → (l : Leading) → m ≡ j + 1 → Leads M blocks es m node shard t r l → ¬ (IsOpen j node shard id) → IsOpen m node shard id → Restarts m node shard t id
    by_keep : (k : ℕ) → m ≡ k + 1 → Keeps k node shard t id → Restarts m node shard t id

  -- Before moment k a leader kept the entry as the expiry of a session. The session was open in the store that the leader
  -- had applied, and the leader's time, which the entry has, was at least the session's timeout above that of each moment at
  -- which its timer started anew there.
  pub record IsExpiry (k shard : ℕ) (e : Entry) (id : ℕ) : Type 0 where
    pub command : e.body ≡ body.Command (M.commands.text (M.expiry id))
    -- the event that kept it
    pub kept : ℕ
    pub before : kept + 1 ≤ k
    pub new : ¬ (IsFrom M blocks es kept shard e (cause.Expiry id)) × IsFrom M blocks es (kept + 1) shard e (cause.Expiry id)
    -- the leader before that event
    pub node : ℕ
    pub leader : ReplicaState S
    pub leading : Leading
    pub leads : Leads M blocks es kept node shard e.term leader leading
    pub timer : Timer
    pub runs : Has (M.timers leader.live.machine) timer
    pub id_is : timer.id ≡ id
    pub ran_out : (m : ℕ) (then : ReplicaState S) → m ≤ kept → Restarts m node shard e.term id → replica_at M blocks es m node shard ≡ Some then → then.live.now + timer.timeout ≤ e.time
