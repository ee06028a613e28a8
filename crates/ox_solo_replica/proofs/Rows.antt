-- Which batch each row keeps, and that it leaves the machine where it stood.
use Rattle.std.proofs.Common.{◌≡◌, ℕ, ◌<◌, ◌≤◌, Bool, true, false, cond, List, [], ◌∷◌, Option, Some, None, refl, sym, subst, arith}
use Rattle.std.specs.Prelude.{nat_lt, ◌==◌, Result, Ok, Err}
use Rattle.std.proofs.lemmas.Bool.{cond_both, ltb-true, ltb-false, leb-true, eqb-false, and_parts}
use Rattle.ox_types.specs.declared.log.Entry.{Entry}
use Rattle.ox_types.specs.declared.log.TermTable.{TermTable}
use Rattle.ox_types.specs.declared.durable.Action.{Action}
use Rattle.ox_types.specs.declared.durable.Action.TheVariants as action_is
use Rattle.ox_types.specs.declared.bad.MachineFault.{MachineFault}
use Rattle.ox_types.specs.declared.durable.LogView.{LogView}
use Rattle.ox_types.specs.declared.refusal.Refusal.{Refusal}
use Rattle.ox_types.specs.Durable.{DurableState, count_of, is_fenced}
use Rattle.ox_bytes.specs.LogForms.{entry_blocks}
use Rattle.ox_bytes.specs.Texts.{value_in}
use Rattle.ox_machine.specs.Meaning.{Meaning}
use Rattle.ox_timer.specs.Timers.{due}
use Rattle.ox_types.specs.declared.peer.Peer.{Peer}
use Rattle.ox_types.specs.declared.peer.Peer.TheVariants as peer_is
use Rattle.ox_wire.specs.declared.body.Body.{Body}
use Rattle.ox_wire.specs.declared.body.Body.TheVariants as body_is
use Rattle.ox_solo_replica.specs.Inputs.{IsMessage}
use Rattle.ox_solo_replica.specs.Step.{from_coordinator, from_peer, from_client}
use Rattle.ox_quorum.specs.declared.config.Config.{Config}
use Rattle.ox_solo_replica.specs.declared.leading.Leading.{Leading}
use Rattle.ox_solo_replica.specs.declared.live.Live.{Live}
use Rattle.ox_solo_replica.specs.Client.{command_entry, first_of, not_ready, too_many_by, no_room, room_of, bad_request, fault_of, write_refusal, write, write_by, read, read_by, answers_or}
use Rattle.ox_solo_replica.specs.Term.{pass_entry, is_alone, may_lead, lead_again, become_leader, new_term}
use Rattle.ox_solo_replica.specs.Tick.{has_room, expiry_entry, expires_at, expires_due, ticks_leading}
use Rattle.ox_solo_replica.specs.Keeping.{IsShort, IsSmall}
use Rattle.ox_solo_replica.specs.State.{Row, view_at}
use Rattle.ox_solo_replica.proofs.Batches.{IsNext, Batch, Stays}
use Rattle.ox_solo_replica.proofs.Entries.{pass_blocks}
use Rattle.ox_solo_replica.proofs.Batches.Batch.{Nothing, Raises, Leads, Appends}

-- a row of a replica in this state
pub record Fine {S : Type 0} (all : ℕ) (d : DurableState) (live : Live S) (row : Row S) : Type 0 where
  pub batch : Batch all d live.now row.kept
  pub stays : Stays live row.live

first_none : (a b : Option Refusal) → first_of a b ≡ None → (a ≡ None) × (b ≡ None)
first_none None b e = (refl, e)
first_none (Some x) b e = absurd cc

cond_none : (b : Bool) (x : Refusal) (y : Option Refusal) → cond b (Some x) y ≡ None → (b ≡ false) × (y ≡ None)
cond_none true x y e = absurd cc
cond_none false x y e = (refl, e)

no_room_none : (v : LogView) (need : ℕ) → no_room v need ≡ None → (v.count ≡ 9007199254740992 → ⊥) × (need ≤ room_of v)
no_room_none v need e =
    let a = cond_none _ _ _ e in
    let b = cond_none (nat_lt (room_of v) need) _ None a.1 in
    (eqb-false v.count 9007199254740992 a.0, ltb-false (room_of v) need b.0)

module _ {S : Type 0} (all : ℕ) (d : DurableState) (live : Live S) (small : count_of d ≤ 9007199254740992) (clock : live.now ≤ 9007199254740992) where
  abbrev v : LogView
  v = view_at all d live.commit

  -- nothing is kept, and the machine stands
  still : (row : Row S) → row.kept ≡ [] → row.live.commit ≡ live.commit → row.live.machine ≡ live.machine → row.live.now ≡ live.now → Fine all d live row
  still row kept commit machine now = record {
    batch = subst (λ (b : List Action). Batch all d live.now b) (sym kept) Nothing;
    stays = record { commit = commit; machine = machine; now = omega (arith, now) };
  }

  -- the next entry is appended
  appended : (e : Entry) → (row : Row S) → IsNext all d live.now e → IsShort e.body → row.kept ≡ action_is.Append (e ∷ []) ∷ [] → row.live.commit ≡ live.commit → row.live.machine ≡ live.machine → row.live.now ≡ live.now → Fine all d live row
  appended e row is short kept commit machine now = record {
    batch = subst (λ (b : List Action). Batch all d live.now b) (sym kept) (Appends e is short);
    stays = record { commit = commit; machine = machine; now = omega (arith, now) };
  }

  command_next : (bytes : List ℕ) → (v.count ≡ 9007199254740992 → ⊥) → entry_blocks (command_entry v live bytes) ≤ room_of v → IsNext all d live.now (command_entry v live bytes)
  command_next bytes more room = record {
    term_is = refl;
    offset_is = refl;
    time_is = refl;
    more = omega (arith, more);
    room = omega (arith, room);
  }

  module _ {C R Q A : Type 0} (M : Meaning S C R Q A) where
    write_by_fine : (tag : ℕ) (bytes : List ℕ) (x : Option Refusal) → (x ≡ None → IsNext all d live.now (command_entry v live bytes)) → IsSmall (write_by M v live tag bytes x).kept → Fine all d live (write_by M v live tag bytes x)
    write_by_fine tag bytes None next small = appended (command_entry v live bytes) _ (next refl) small.0.0 refl refl refl refl
    write_by_fine tag bytes (Some x) next small = still _ refl refl refl refl

    pub write_fine : (tag : ℕ) (bytes : List ℕ) → IsSmall (write M v live tag bytes).kept → Fine all d live (write M v live tag bytes)
    write_fine tag bytes small = write_by_fine tag bytes (write_refusal M v live bytes) (λ e.
        let a = first_none (bad_request (fault_of M (value_in M.commands bytes))) _ e in
        let b = first_none (not_ready v live) _ a.1 in
        let c = first_none (too_many_by v live.leading) _ b.1 in
        let free = no_room_none v (entry_blocks (command_entry v live bytes)) c.1 in
        command_next bytes free.0 free.1) small

    answers_or_fine : (tag : ℕ) (query : Q) (x : Option Refusal) → Fine all d live (answers_or M v live tag query x)
    answers_or_fine tag query None = still _ refl refl refl refl
    answers_or_fine tag query (Some x) = still _ refl refl refl refl

    read_by_fine : (tag : ℕ) (found : Result Q MachineFault) → Fine all d live (read_by M v live tag found)
    read_by_fine tag (Ok query) = answers_or_fine tag query (not_ready v live)
    read_by_fine tag (Err fault) = still _ refl refl refl refl

    pub read_fine : (tag : ℕ) (bytes : List ℕ) → Fine all d live (read M v live tag bytes)
    read_fine tag bytes = read_by_fine tag (value_in M.queries bytes)

    expires_at_fine : (id : ℕ) → IsSmall (expires_at M v live id).kept → Fine all d live (expires_at M v live id)
    expires_at_fine id = cond_both (has_room M v live id) _ _ (λ (row : Row S). IsSmall row.kept → Fine all d live row)
        (λ e small.
        let both = and_parts (nat_lt v.count 9007199254740992) _ e in
        let more : v.count < 9007199254740992 = ltb-true v.count 9007199254740992 both.0 in
        let room = leb-true _ _ both.1 in
        appended (expiry_entry M v live id) _ (command_next (M.commands.text (M.expiry id)) (λ is. absurd (omega (arith, is))) room) small.0.0 refl refl refl refl)
        (λ _ _. still _ refl refl refl refl)

    expires_due_fine : (x : Option ℕ) → IsSmall (expires_due M v live x).kept → Fine all d live (expires_due M v live x)
    expires_due_fine None small = still _ refl refl refl refl
    expires_due_fine (Some id) small = expires_at_fine id small

    pub ticks_fine : (l : Option Leading) → IsSmall (ticks_leading M v live l).kept → Fine all d live (ticks_leading M v live l)
    ticks_fine None small = still _ refl refl refl refl
    ticks_fine (Some l) small = (cond_both (nat_lt v.commit l.begin) _ _ (λ (row : Row S). IsSmall row.kept → Fine all d live row)
        (λ _ _. still _ refl refl refl refl) (λ _. expires_due_fine (due live.now l.timers))) small

  module _ {C R Q A : Type 0} (M : Meaning S C R Q A) where
    pub client_fine : (tag : ℕ) (is_write : Bool) (bytes : List ℕ) → IsSmall (from_client M v live tag is_write bytes).kept → Fine all d live (from_client M v live tag is_write bytes)
    client_fine tag true bytes small = write_fine M tag bytes small
    client_fine tag false bytes small = read_fine M tag bytes

  pub new_term_fine : (table : TermTable) (from t : ℕ) → t ≤ 9007199254740992 → Fine all d live (new_term v live table from t)
  new_term_fine table from t le = cond_both (nat_lt t v.term) _ _ (λ (row : Row S). Fine all d live row)
      (λ _. still _ refl refl refl refl)
      (λ _. cond_both (nat_lt v.term t) _ _ (λ (row : Row S). Fine all d live row)
      (λ e. record { batch = Raises t (ltb-true v.term t e) le; stays = record { commit = refl; machine = refl; now = clock } })
      (λ _. cond_both (is_fenced v.seat) _ _ (λ (row : Row S). Fine all d live row) (λ _. still _ refl refl refl refl) (λ _. still _ refl refl refl refl)))

  may_lead_fine : (me chief t : ℕ) (config : Config) → is_fenced d.seat ≡ true → Fine all d live (may_lead v live me chief t config)
  may_lead_fine me chief t config fenced = cond_both (v.count == 9007199254740992) _ _ (λ (row : Row S). Fine all d live row)
      (λ _. still _ refl refl refl refl)
      (λ more. cond_both (v.free == 0) _ _ (λ (row : Row S). Fine all d live row)
      (λ _. still _ refl refl refl refl)
      (λ free. cond_both (is_alone me config) _ _ (λ (row : Row S). Fine all d live row)
      (λ _.
      let below : v.count ≡ 9007199254740992 → ⊥ = eqb-false v.count 9007199254740992 more in
      let some : v.free ≡ 0 → ⊥ = eqb-false v.free 0 free in
      record {
        batch = Leads (pass_entry v live) fenced (record { term_is = refl; offset_is = refl; time_is = refl; more = omega (arith, below); room = omega (arith, pass_blocks v.term v.count live.now, some) }) tt;
        stays = record { commit = refl; machine = refl; now = clock };
      })
      (λ _. still _ refl refl refl refl)))

  lead_again_fine : (chief t : ℕ) (l : Option Leading) → Fine all d live (lead_again v live chief t l)
  lead_again_fine chief t None = still _ refl refl refl refl
  lead_again_fine chief t (Some l) = still _ refl refl refl refl

  pub become_leader_fine : (me chief t : ℕ) (config : Config) → Fine all d live (become_leader v live me chief t config)
  become_leader_fine me chief t config = cond_both (nat_lt t v.term) _ _ (λ (row : Row S). Fine all d live row)
      (λ _. still _ refl refl refl refl)
      (λ _. cond_both (nat_lt v.term t) _ _ (λ (row : Row S). Fine all d live row)
      (λ _. still _ refl refl refl refl)
      (λ _. cond_both (is_fenced v.seat) _ _ (λ (row : Row S). Fine all d live row)
      (λ fenced. may_lead_fine me chief t config fenced)
      (λ _. lead_again_fine chief t live.leading)))

  -- the row of a message
  coordinator_fine : (me : ℕ) (table : TermTable) (from : ℕ) (body : Body) → IsMessage body → Fine all d live (from_coordinator me v table live from body)
  coordinator_fine me table from (body_is.NewTerm t) h = new_term_fine table from t h
  coordinator_fine me table from (body_is.BecomeLeader t config followers) h = become_leader_fine me from t config
  coordinator_fine me table from _ h = still _ refl refl refl refl

  pub peer_fine : (me : ℕ) (table : TermTable) (from : Peer) (body : Body) → IsMessage body → Fine all d live (from_peer me v table live from body)
  peer_fine me table (peer_is.Node n) body h = still _ refl refl refl refl
  peer_fine me table (peer_is.Coordinator c) body h = coordinator_fine me table c body h
