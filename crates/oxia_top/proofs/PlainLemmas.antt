-- A step of a replica appends entries, and drops none.
use Rattle.std.proofs.Common.{◌≡◌, ◌∙◌, ℕ, ◌+◌, ◌-◌, Bool, true, false, List, [], ◌∷◌, ◌++◌, length, take, drop, Option, Some, None, Result, Ok, Err, if◌then◌else◌, refl, sym, ap, arith, nat_lt, ◌==◌, append_assoc, append-nil, length-append}
use Rattle.std.proofs.Math.Seq.{drop-append_seam, take-length}
use Rattle.ox_types.specs.declared.bad.MachineFault.{MachineFault}
use Rattle.ox_types.specs.declared.durable.Action.{Action}
use Rattle.ox_types.specs.declared.durable.Action.TheVariants as action
use Rattle.ox_types.specs.declared.durable.LogView.{LogView}
use Rattle.ox_types.specs.declared.log.Entry.{Entry}
use Rattle.ox_types.specs.declared.log.TermTable.{TermTable}
use Rattle.ox_types.specs.declared.peer.Peer.{Peer}
use Rattle.ox_types.specs.declared.peer.Peer.TheVariants.{Node, Coordinator}
use Rattle.ox_types.specs.declared.refusal.Refusal.{Refusal}
use Rattle.ox_types.specs.Durable.{DurableState, count_of, folded, is_fenced}
use Rattle.ox_bytes.specs.Texts.{value_in}
use Rattle.ox_quorum.specs.declared.config.Config.{Config}
use Rattle.ox_wire.specs.declared.body.Body.{Body}
use Rattle.ox_wire.specs.declared.body.Body.TheVariants as body
use Rattle.ox_machine.specs.Meaning.{Meaning}
use Rattle.ox_timer.specs.Timers.{due}
use Rattle.ox_solo_replica.specs.declared.input.Input.{Input}
use Rattle.ox_solo_replica.specs.declared.input.Input.TheVariants as input
use Rattle.ox_solo_replica.specs.declared.leading.Leading.{Leading}
use Rattle.ox_solo_replica.specs.declared.live.Live.{Live}
use Rattle.ox_solo_replica.specs.State.{ReplicaState, Row, folded_all}
use Rattle.ox_solo_replica.specs.Client.{write_by, write_refusal, read_by, answers_or, not_ready}
use Rattle.ox_solo_replica.specs.Term.{new_term, become_leader, may_lead, lead_again, is_alone}
use Rattle.ox_solo_replica.specs.Tick.{time_at, ticks_leading, expires_due, has_room}
use Rattle.ox_solo_replica.specs.Step.{from_coordinator, from_peer, from_client, row_at, row_of, replica_step}
use Rattle.ox_solo_safety.specs.Run.{appended}
use Rattle.oxia_top.specs.Node.{between}

-- no action of these drops an entry
pub AreAdding : List Action → Type 0
AreAdding [] = Unit {0}
AreAdding (action.Append entries ∷ more) = AreAdding more
AreAdding (action.Term t ∷ more) = AreAdding more
AreAdding (action.Lead ∷ more) = AreAdding more
AreAdding (action.Attach count ∷ more) = ⊥
AreAdding (action.Restore term seat head saved ∷ more) = ⊥

pub record IsAdding {S : Type 0} (row : Row S) : Type 0 where
  pub is : AreAdding row.kept

either_adding : {S : Type 0} (b : Bool) (x y : Row S) → IsAdding x → IsAdding y → IsAdding (if b then x else y)
either_adding true x y p q = p
either_adding false x y p q = q

quiet_adding : {S : Type 0} (row : Row S) → row.kept ≡ [] → IsAdding row
unfolding AreAdding
quiet_adding row none = record { is = rw none tt }

one_adding : {S : Type 0} (row : Row S) (entries : List Entry) → row.kept ≡ action.Append entries ∷ [] → IsAdding row
unfolding AreAdding
one_adding row entries one = record { is = rw one tt }

module _ {S C R Q A : Type 0} (M : Meaning S C R Q A) (v : LogView) where
  new_term_adding : (live : Live S) (table : TermTable) (from t : ℕ) → IsAdding (new_term v live table from t)
  unfolding AreAdding
  new_term_adding live table from t =
      either_adding (nat_lt t v.term) _ _ (record { is = tt })
      (either_adding (nat_lt v.term t) _ _ (record { is = tt }) (either_adding (is_fenced v.seat) _ _ (record { is = tt }) (record { is = tt })))

  may_lead_adding : (live : Live S) (me chief t : ℕ) (config : Config) → IsAdding (may_lead v live me chief t config)
  unfolding AreAdding
  may_lead_adding live me chief t config =
      either_adding (v.count == 9007199254740992) _ _ (record { is = tt })
      (either_adding (v.free == 0) _ _ (record { is = tt }) (either_adding (is_alone me config) _ _ (record { is = tt }) (record { is = tt })))

  lead_again_adding : (live : Live S) (chief t : ℕ) (l : Option Leading) → IsAdding (lead_again v live chief t l)
  unfolding AreAdding
  lead_again_adding live chief t None = record { is = tt }
  lead_again_adding live chief t (Some l) = record { is = tt }

  become_leader_adding : (live : Live S) (me chief t : ℕ) (config : Config) → IsAdding (become_leader v live me chief t config)
  unfolding AreAdding
  become_leader_adding live me chief t config =
      either_adding (nat_lt t v.term) _ _ (record { is = tt })
      (either_adding (nat_lt v.term t) _ _ (record { is = tt })
      (either_adding (is_fenced v.seat) _ _ (may_lead_adding live me chief t config) (lead_again_adding live chief t live.leading)))

  coordinator_adding : (me : ℕ) (table : TermTable) (live : Live S) (from : ℕ) (b : Body) → IsAdding (from_coordinator me v table live from b)
  unfolding AreAdding
  coordinator_adding me table live from (body.NewTerm t) = new_term_adding live table from t
  coordinator_adding me table live from (body.BecomeLeader t config followers) = become_leader_adding live me from t config
  coordinator_adding me table live from (body.AddFollower t f) = record { is = tt }
  coordinator_adding me table live from (body.Fenced t ts) = record { is = tt }
  coordinator_adding me table live from (body.Ready t) = record { is = tt }
  coordinator_adding me table live from (body.Refused a t r) = record { is = tt }
  coordinator_adding me table live from (body.Truncate t n) = record { is = tt }
  coordinator_adding me table live from (body.Append t n k es) = record { is = tt }
  coordinator_adding me table live from (body.Snapshot c) = record { is = tt }
  coordinator_adding me table live from (body.Ack t n) = record { is = tt }
  coordinator_adding me table live from (body.Want t h n) = record { is = tt }

  write_adding : (live : Live S) (tag : ℕ) (bytes : List ℕ) (r : Option Refusal) → IsAdding (write_by M v live tag bytes r)
  unfolding AreAdding
  write_adding live tag bytes None = record { is = tt }
  write_adding live tag bytes (Some r) = record { is = tt }

  answers_adding : (live : Live S) (tag : ℕ) (q : Q) (r : Option Refusal) → IsAdding (answers_or M v live tag q r)
  unfolding AreAdding
  answers_adding live tag q None = record { is = tt }
  answers_adding live tag q (Some r) = record { is = tt }

  read_adding : (live : Live S) (tag : ℕ) (q : Result Q MachineFault) → IsAdding (read_by M v live tag q)
  unfolding AreAdding
  read_adding live tag (Ok q) = answers_adding live tag q (not_ready v live)
  read_adding live tag (Err fault) = record { is = tt }

  client_adding : (live : Live S) (tag : ℕ) (is_write : Bool) (bytes : List ℕ) → IsAdding (from_client M v live tag is_write bytes)
  client_adding live tag true bytes = write_adding live tag bytes (write_refusal M v live bytes)
  client_adding live tag false bytes = read_adding live tag (value_in M.queries bytes)

  due_adding : (live : Live S) (id : Option ℕ) → IsAdding (expires_due M v live id)
  unfolding AreAdding
  due_adding live None = record { is = tt }
  due_adding live (Some id) = either_adding (has_room M v live id) _ _ (record { is = tt }) (record { is = tt })

  tick_adding : (live : Live S) (l : Option Leading) → IsAdding (ticks_leading M v live l)
  unfolding AreAdding
  tick_adding live None = record { is = tt }
  tick_adding live (Some l) = either_adding (nat_lt v.commit l.begin) _ _ (record { is = tt }) (due_adding live (due live.now l.timers))

  peer_adding : (me : ℕ) (table : TermTable) (live : Live S) (from : Peer) (b : Body) → IsAdding (from_peer me v table live from b)
  unfolding AreAdding
  peer_adding me table live (Node n) b = record { is = tt }
  peer_adding me table live (Coordinator c) b = coordinator_adding me table live c b

  -- each row appends entries, and drops none
  pub row_adding : (me : ℕ) (table : TermTable) (live : Live S) (i : Input) → IsAdding (row_at M me v table live i)
  unfolding row_at
  row_adding me table live (input.Peer from b) = peer_adding me table live from b
  row_adding me table live (input.Client tag is_write bytes) = client_adding live tag is_write bytes
  row_adding me table live (input.Tick ms) = tick_adding (time_at live ms) live.leading

-- a log behind such a batch is the log before it and the entries of the batch
record GoesOn (d d' : DurableState) (entries : List Entry) : Type 0 where
  base : d'.base ≡ d.base
  entries_are : d'.entries ≡ d.entries ++ entries

folded_goes_on : (d : DurableState) (acts : List Action) → AreAdding acts → GoesOn d (folded_all d acts) (appended acts)
unfolding AreAdding
folded_goes_on d [] h = record { base = refl; entries_are = sym (append-nil d.entries) }
folded_goes_on d (action.Append entries ∷ more) h =
    let more_is = folded_goes_on (folded d (action.Append entries)) more h in
    record { base = more_is.base; entries_are = more_is.entries_are ∙ append_assoc d.entries entries (appended more) }
folded_goes_on d (action.Term t ∷ more) h = let more_is = folded_goes_on (folded d (action.Term t)) more h in record { base = more_is.base; entries_are = more_is.entries_are }
folded_goes_on d (action.Lead ∷ more) h = let more_is = folded_goes_on (folded d action.Lead) more h in record { base = more_is.base; entries_are = more_is.entries_are }
folded_goes_on d (action.Attach count ∷ more) h = absurd h
folded_goes_on d (action.Restore term seat head saved ∷ more) h = absurd h

behind_is : (base : ℕ) (old new more : List Entry) → new ≡ old ++ more
    → take (base + length new - (base + length old)) (drop (base + length old - base) new) ≡ more
behind_is base old new more is =
    let from : base + length old - base ≡ length old = omega arith in
    let some : length new ≡ length old + length more = ap length is ∙ length-append old more in
    let count : base + length new - (base + length old) ≡ length more = omega (arith, some) in
    let rest : drop (length old) new ≡ more = ap (drop (length old)) is ∙ drop-append_seam old more in
    rw (count, from, rest) (take-length more)

goes_on_between : (d d' : DurableState) (entries : List Entry) → GoesOn d d' entries → between d' (count_of d) (count_of d') ≡ entries
goes_on_between d d' entries g = rw g.base (behind_is d.base.count d.entries d'.entries entries g.entries_are)

-- the entries behind a step from the old count on are those that it appended
pub step_appends : {S C R Q A : Type 0} (M : Meaning S C R Q A) (me all : ℕ) (r : ReplicaState S) (i : Input)
    → between (replica_step M me all r i).state.disk (count_of r.disk) (count_of (replica_step M me all r i).state.disk) ≡ appended (replica_step M me all r i).kept
unfolding replica_step
step_appends M me all r i = goes_on_between r.disk _ _ (folded_goes_on r.disk (row_of M me all r i).kept (row_adding M _ me _ r.live i).is)

pub none_between : (d : DurableState) → between d (count_of d) (count_of d) ≡ []
none_between d = let e : count_of d - count_of d ≡ 0 = omega arith in rw e refl
