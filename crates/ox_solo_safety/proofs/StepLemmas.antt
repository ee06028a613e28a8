-- What one step of a replica that is alone does.
use Rattle.std.proofs.Common.{◌≡◌, ◌∙◌, ℕ, ◌+◌, ◌-◌, ◌<◌, ◌≤◌, Bool, true, false, cond, eqb, leb, ltb, List, [], ◌∷◌, ◌++◌, length, map, take, drop, slice_get, Option, Some, None, option_map, Result, Ok, Err, refl, sym, ap, subst, arith, append-nil, ◌⊎◌, inl, inr}
use Rattle.std.specs.Prelude.{nat_lt, ◌==◌}
use Rattle.std.proofs.lemmas.Bool.{cond_both, and_parts, ltb-true, le-ltb, lt-ltb, leb-true, lt-leb, eqb-true, eqb-false, eq-eqb}
use Rattle.ox_types.specs.declared.bad.Bad.{Bad}
use Rattle.ox_types.specs.declared.bad.MachineFault.{MachineFault}
use Rattle.ox_types.specs.declared.log.Entry.{Entry}
use Rattle.ox_types.specs.declared.log.EntryBody.TheVariants.{Pass, Command}
use Rattle.ox_types.specs.declared.log.Seat.{Seat}
use Rattle.ox_types.specs.declared.log.Seat.TheVariants as seat
use Rattle.ox_types.specs.declared.log.TermTable.{TermTable}
use Rattle.ox_types.specs.declared.durable.Action.TheVariants as action
use Rattle.ox_types.specs.declared.durable.LogView.{LogView}
use Rattle.ox_types.specs.declared.refusal.Refusal.{Refusal}
use Rattle.ox_types.specs.declared.refusal.Refusal.TheVariants as refusal
use Rattle.ox_types.specs.declared.peer.Peer.{Peer}
use Rattle.ox_types.specs.declared.peer.Peer.TheVariants as peer
use Rattle.ox_types.specs.Durable.{DurableState, count_of, is_fenced, table_of}
use Rattle.ox_quorum.specs.declared.config.Config.{Config}
use Rattle.ox_bytes.specs.LogForms.{entry_blocks}
use Rattle.ox_bytes.specs.Texts.{value_in}
use Rattle.ox_wire.specs.declared.body.Body.{Body}
use Rattle.ox_wire.specs.declared.body.Body.TheVariants as body
use Rattle.ox_wire.specs.declared.body.Asked.{Asked}
use Rattle.ox_wire.specs.declared.body.Asked.TheVariants as asked
use Rattle.ox_wire.specs.declared.body.Follower.{Follower}
use Rattle.ox_wire.specs.declared.message.Outcome.TheVariants as outcome
use Rattle.ox_machine.specs.Meaning.{Meaning}
use Rattle.ox_machine.specs.Store.{after, reply_to, state_from, state_after}
use Rattle.ox_timer.specs.declared.running.Running.{Running}
use Rattle.ox_timer.specs.Timers.{started, retimed, heard, noted, due}
use Rattle.ox_solo_replica.specs.declared.input.Input.{Input}
use Rattle.ox_solo_replica.specs.declared.input.Input.TheVariants as input
use Rattle.ox_solo_replica.specs.declared.leading.Leading.{Leading}
use Rattle.ox_solo_replica.specs.declared.leading.Pending.{Pending}
use Rattle.ox_solo_replica.specs.declared.live.Live.{Live}
use Rattle.ox_solo_replica.specs.declared.output.Outgoing.{Outgoing}
use Rattle.ox_solo_replica.specs.declared.output.Answered.{Answered}
use Rattle.ox_solo_replica.specs.Advance.{waits_at, still_pending, ack_of, acks_of}
use Rattle.ox_solo_replica.specs.Client.{not_ready, not_ready_by, no_room, room_of, too_many_by, first_of, bad_request, fault_of, command_entry, grammar, hears_by, waits, write_refusal, write_by, write, refuses_client, answers, answers_or, read_by}
use Rattle.ox_solo_replica.specs.Moving.{Advanced, entries_from, unmoved, leading_after, moved, advance}
use Rattle.ox_solo_replica.specs.Sound.{IsUnsaved}
use Rattle.ox_solo_replica.specs.State.{ReplicaState, Row, quiet, view_of, clock_limit}
use Rattle.ox_solo_replica.specs.Step.{Stepped, from_coordinator, from_peer, from_client, with_advance, stepped, row_at, replica_step}
use Rattle.ox_solo_replica.specs.Term.{all_gone, is_alone, pass_entry, leading_at, refuses, fences, leads, may_lead, lead_again, new_term, become_leader}
use Rattle.ox_solo_replica.specs.Tick.{time_at, only_advances, notes, has_room, expiry_entry, expires, expires_due, ticks_leading}
use Rattle.ox_solo_safety.specs.Refusals.{ClientRefusal, PeerRefusal}
use Rattle.ox_solo_safety.proofs.RunningLemmas.{timer_in}
use Rattle.ox_solo_safety.proofs.ListLemmas.{drop_last, longer_by_one, some_is}

-- a query that starts a timer anew, and one that doesn't
abbrev pub hears_with : ℕ → Option ℕ → List Running → List Running
hears_with now None timers = timers
hears_with now (Some id) timers = heard id now timers

abbrev pub unchanged : List Running → List Running
unchanged timers = timers

-- a log with one entry more
abbrev pub longer : DurableState → Entry → DurableState
longer d e = record d { entries = d.entries ++ e ∷ [] }

-- The log has an entry by which its term began, and which is committed.
pub record HasOwnPass {S : Type 0} (r : ReplicaState S) : Type 0 where
  pub place : ℕ
  pub entry : Entry
  pub stands : slice_get r.disk.entries place ≡ Some entry
  pub committed : entry.offset < r.live.commit
  pub term_is : entry.term ≡ r.disk.term
  pub is_pass : entry.body ≡ Pass

-- It led before as this leader, but for its coordinator and its timers, which this makes of those that ran.
pub record WasLeading {S : Type 0} (r : ReplicaState S) (f : List Running → List Running) (new : Leading) : Type 0 where
  pub old : Leading
  pub was : r.live.leading ≡ Some old
  pub begin : new.begin ≡ old.begin
  pub pending : new.pending ≡ old.pending
  pub timers : new.timers ≡ f old.timers

-- its clock stays within the limit
abbrev pub IsTimed : {S : Type 0} → ReplicaState S → Stepped S → Type 0
IsTimed r o = r.live.now ≤ clock_limit → o.state.live.now ≤ clock_limit

-- its log wasn't spent
abbrev pub HasRoom : {S : Type 0} → ReplicaState S → Type 0
HasRoom r = length r.disk.entries ≤ clock_limit → length r.disk.entries < clock_limit

-- Nothing is kept and nothing is applied.
pub record IsStill {S : Type 0} (r : ReplicaState S) (o : Stepped S) (f : List Running → List Running) : Type 0 where
  pub kept : o.kept ≡ []
  pub disk : o.state.disk ≡ r.disk
  pub commit : o.state.live.commit ≡ r.live.commit
  pub machine : o.state.live.machine ≡ r.live.machine
  pub later : r.live.now ≤ o.state.live.now
  pub bounded : IsTimed r o
  pub back : (l : Leading) → o.state.live.leading ≡ Some l → WasLeading r f l

module _ {S C R Q A : Type 0} (M : Meaning S C R Q A) where
  -- ---- a replica that is alone, between its steps

  -- one that leads has committed and applied all of its log, and nobody waits
  pub record IsLoneLeader (r : ReplicaState S) (l : Leading) : Type 0 where
    pub seat_is : r.disk.seat ≡ seat.Led
    pub all : r.live.commit ≡ length r.disk.entries
    pub none : l.pending ≡ []
    pub begun : l.begin ≤ r.live.commit
    pub timed : map timer_in l.timers ≡ M.timers r.live.machine
    pub pass : HasOwnPass r

  pub record IsLone (r : ReplicaState S) : Type 0 where
    pub unsaved : IsUnsaved r.disk
    pub within : r.live.commit ≤ length r.disk.entries
    pub value : r.live.machine ≡ state_after M (take r.live.commit r.disk.entries)
    pub leader : (l : Leading) → r.live.leading ≡ Some l → IsLoneLeader r l

  -- ---- the kinds of steps

  -- A leader appends one entry, commits it and applies it.
  pub record IsAppending (r : ReplicaState S) (o : Stepped S) (e : Entry) (l : Leading) (f : List Running → List Running) : Type 0 where
    pub was : r.live.leading ≡ Some l
    pub term_is : e.term ≡ r.disk.term
    pub offset_is : e.offset ≡ length r.disk.entries
    pub time_is : e.time ≡ o.state.live.now
    pub later : r.live.now ≤ o.state.live.now
    pub bounded : IsTimed r o
    pub room : HasRoom r
    pub kept : o.kept ≡ action.Append (e ∷ []) ∷ []
    pub disk : o.state.disk ≡ longer r.disk e
    pub commit : o.state.live.commit ≡ length r.disk.entries + 1
    pub machine : o.state.live.machine ≡ after M r.live.machine e
    pub leads : o.state.live.leading ≡ Some (record l { pending = []; timers = retimed o.state.live.now (M.timers (after M r.live.machine e)) (f l.timers) })
    pub sends : o.sends ≡ []

  -- the entry is a client's command
  pub record IsWriting (r : ReplicaState S) (i : Input) (o : Stepped S) : Type 0 where
    pub tag : ℕ
    pub bytes : List ℕ
    pub is : i ≡ input.Client tag true bytes
    pub faultless : fault_of M (value_in M.commands bytes) ≡ None
    pub entry : Entry
    pub body_is : entry.body ≡ Command bytes
    pub leading : Leading
    pub appends : IsAppending r o entry leading unchanged
    pub replies : o.replies ≡ ack_of M r.disk.term entry.offset (Some tag) (reply_to M r.live.machine entry)

  -- the entry is the expiry of a timer that is due
  pub record IsExpiring (r : ReplicaState S) (i : Input) (o : Stepped S) : Type 0 where
    pub ms : ℕ
    pub is : i ≡ input.Tick ms
    pub id : ℕ
    pub leading : Leading
    pub due_is : due (time_at r.live ms).now leading.timers ≡ Some id
    pub entry : Entry
    pub time_is : entry.time ≡ (time_at r.live ms).now
    pub body_is : entry.body ≡ Command (M.commands.text (M.expiry id))
    pub appends : IsAppending r o entry leading (noted id)
    pub replies : o.replies ≡ []

  -- a query is answered
  pub record IsReading (r : ReplicaState S) (i : Input) (o : Stepped S) : Type 0 where
    pub tag : ℕ
    pub bytes : List ℕ
    pub is : i ≡ input.Client tag false bytes
    pub query : Q
    pub asks : value_in M.queries bytes ≡ Ok query
    pub leading : Leading
    pub was : r.live.leading ≡ Some leading
    pub still : IsStill r o (hears_with r.live.now (M.heard query))
    pub now_is : o.state.live.now ≡ r.live.now
    pub leads : o.state.live.leading ≡ Some (hears_by r.live.now (M.heard query) leading)
    pub sends : o.sends ≡ []
    pub replies : o.replies ≡ record { tag = tag; outcome = outcome.Read r.disk.term r.live.commit (M.answers.text (M.answer r.live.machine query)) } ∷ []

  module _ (blocks : ℕ) where
    -- a message that refuses is true of the replica
    abbrev pub IsTrueBody : ReplicaState S → Body → Type 0
    IsTrueBody r (body.Refused what t x) = PeerRefusal M blocks r t x
    IsTrueBody r _ = Unit {0}

    abbrev pub AreTrue : ReplicaState S → List Outgoing → Type 0
    AreTrue r [] = Unit {0}
    AreTrue r (o ∷ sends) = IsTrueBody r o.body × AreTrue r sends

    -- nobody is told anything, or the client is refused, which is true of the replica
    pub data Tells (r : ReplicaState S) (i : Input) (replies : List Answered) : Type 0 where
      nobody : replies ≡ [] → Tells r i replies
      client :
          (tag : ℕ) → (write : Bool) → (bytes : List ℕ) → (x : Refusal) → i ≡ input.Client tag write bytes → ClientRefusal M blocks r (record { write = write; body = bytes }) x →
          replies ≡ record { tag = tag; outcome = outcome.Refused x } ∷ [] → Tells r i replies

    -- a higher term begins
    pub record IsFencing (r : ReplicaState S) (i : Input) (o : Stepped S) : Type 0 where
      pub from : ℕ
      pub term : ℕ
      pub is : i ≡ input.Peer (peer.Coordinator from) (body.NewTerm term)
      pub above : r.disk.term < term
      pub kept : o.kept ≡ action.Term term ∷ []
      pub disk : o.state.disk ≡ record r.disk { term = term; seat = seat.Fenced }
      pub commit : o.state.live.commit ≡ r.live.commit
      pub machine : o.state.live.machine ≡ r.live.machine
      pub bounded : IsTimed r o
      pub leads : o.state.live.leading ≡ None
      pub sends : AreTrue r o.sends
      pub replies : o.replies ≡ []

    -- it leads from here on, and commits and applies its log with a Pass more
    pub record IsBeginning (r : ReplicaState S) (i : Input) (o : Stepped S) : Type 0 where
      pub from : ℕ
      pub says : Body
      pub is : i ≡ input.Peer (peer.Coordinator from) says
      pub seat_was : r.disk.seat ≡ seat.Fenced
      pub pass : Entry
      pub term_is : pass.term ≡ r.disk.term
      pub offset_is : pass.offset ≡ length r.disk.entries
      pub is_pass : pass.body ≡ Pass
      pub time_is : pass.time ≡ o.state.live.now
      pub bounded : IsTimed r o
      pub room : HasRoom r
      pub kept : o.kept ≡ action.Lead ∷ action.Append (pass ∷ []) ∷ []
      pub disk : o.state.disk ≡ record (longer r.disk pass) { seat = seat.Led }
      pub commit : o.state.live.commit ≡ length r.disk.entries + 1
      pub machine : o.state.live.machine ≡ state_from M r.live.machine (drop r.live.commit (r.disk.entries ++ pass ∷ []))
      pub leading : Leading
      pub leads : o.state.live.leading ≡ Some leading
      pub begin : leading.begin ≡ length r.disk.entries + 1
      pub pending : leading.pending ≡ []
      pub timers : leading.timers ≡ started o.state.live.now (M.timers o.state.live.machine)
      pub sends : AreTrue r o.sends
      pub replies : o.replies ≡ []

    -- What a step does.
    pub data Steps (r : ReplicaState S) (i : Input) (o : Stepped S) : Type 0 where
      rests : IsStill r o unchanged → AreTrue r o.sends → Tells r i o.replies → Steps r i o
      reads : IsReading r i o → Steps r i o
      writes : IsWriting r i o → Steps r i o
      expiring : IsExpiring r i o → Steps r i o
      fencing : IsFencing r i o → Steps r i o
      beginning : IsBeginning r i o → Steps r i o

    -- ---- each step is of one of these kinds

    module _ (r : ReplicaState S) (lone : IsLone r) where
      abbrev v : LogView
      v = view_of blocks r

      abbrev live : Live S
      live = r.live

      abbrev Becomes : Input → Row S → Type 0
      Becomes i row = Steps r i (stepped M r.disk row)

      as_it_was : (l : Leading) → r.live.leading ≡ Some l → WasLeading r unchanged l
      as_it_was l is = record { old = l; was = is; begin = refl; pending = refl; timers = refl }

      -- nothing is kept, and it leads as it did
      rest : (i : Input) (now : ℕ) (leading : Option Leading) (sends : List Outgoing) (replies : List Answered) → r.live.now ≤ now → (r.live.now ≤ clock_limit → now ≤ clock_limit) → ((l : Leading) → leading ≡ Some l → WasLeading r unchanged l)
          → AreTrue r sends → Tells r i replies → Becomes i (record (quiet (record live { now = now; leading = leading })) { sends = sends; replies = replies })
      rest i now leading sends replies later bounded back true_sends tells =
          rests (record { kept = refl; disk = refl; commit = refl; machine = refl; later = later; bounded = bounded; back = back })
          (subst (AreTrue r) (sym (append-nil sends)) true_sends) (subst (Tells r i) (sym (append-nil replies)) tells)

      still : (i : Input) → Becomes i (quiet live)
      still i = rest i live.now live.leading [] [] (omega arith) (λ h. h) as_it_was tt (nobody refl)

      says : (i : Input) (sends : List Outgoing) → AreTrue r sends → Becomes i (record (quiet live) { sends = sends })
      says i sends true_sends = rest i live.now live.leading sends [] (omega arith) (λ h. h) as_it_was true_sends (nobody refl)

      refuses_row : (i : Input) (from : ℕ) (what : Asked) (t : ℕ) (x : Refusal) → PeerRefusal M blocks r t x → Becomes i (refuses live from what t x)
      refuses_row i from what t x true_of = says i (record { to = peer.Coordinator from; body = body.Refused what t x } ∷ []) (true_of, tt)

      refused : (tag : ℕ) (write : Bool) (bytes : List ℕ) (x : Refusal) → ClientRefusal M blocks r (record { write = write; body = bytes }) x → Becomes (input.Client tag write bytes) (refuses_client live tag x)
      refused tag write bytes x true_of = rest (input.Client tag write bytes) live.now live.leading [] _ (omega arith) (λ h. h) as_it_was tt (client tag write bytes x refl true_of refl)

      -- ---- what a leader commits

      moves : (d : DurableState) (new : Live S) (l : Leading) → new.leading ≡ Some l → new.commit < count_of d → advance M d new ≡ moved M d new l
      unfolding advance
      moves d new l leads below = rw (leads, lt-ltb new.commit (count_of d) below) refl

      stays : (d : DurableState) (new : Live S) (l : Leading) → new.leading ≡ Some l → count_of d ≤ new.commit → advance M d new ≡ unmoved new
      unfolding advance
      stays d new l leads all = rw (leads, le-ltb new.commit (count_of d) all) refl

      led_on : (count now : ℕ) (opens : Bool) (made machine : S) (l : Leading) → opens ≡ false → made ≡ machine → still_pending count l.pending ≡ []
          → leading_after M count now opens made l ≡ record l { pending = []; timers = retimed now (M.timers machine) l.timers }
      led_on count now opens made machine l shut is none = rw (shut, is, none) refl

      -- an entry that a leader appends, in a row of its own
      abbrev append_row : Live S → Entry → Row S
      append_row new e = record { kept = action.Append (e ∷ []) ∷ []; live = new; advances = true; sends = []; replies = [] }

      module _ (l : Leading) (was : r.live.leading ≡ Some l) (now : ℕ) (waiting : List Pending) (timers : List Running) (e : Entry) (offset_is : e.offset ≡ count_of r.disk) where
        lead : IsLoneLeader r l
        lead = lone.leader l was

        abbrev new_leading : Leading
        new_leading = record l { pending = waiting; timers = timers }

        abbrev new_live : Live S
        new_live = record live { now = now; leading = Some new_leading }

        counted : count_of (longer r.disk e) ≡ length r.disk.entries + 1
        counted = let none = lone.unsaved.count in omega (arith, longer_by_one r.disk.entries e, none)

        fresh : entries_from (longer r.disk e) live.commit ≡ e ∷ []
        fresh =
            let none = lone.unsaved.count in
            drop_last (live.commit - r.disk.base.count) r.disk.entries (e ∷ []) (omega (arith, none, lead.all))

        abbrev behind : Stepped S
        behind = with_advance M (longer r.disk e) (append_row new_live e) (moved M (longer r.disk e) new_live new_leading)

        moves_on : advance M (longer r.disk e) new_live ≡ moved M (longer r.disk e) new_live new_leading
        moves_on = moves (longer r.disk e) new_live new_leading refl (omega (arith, counted, lead.all))

        made : state_from M live.machine (entries_from (longer r.disk e) live.commit) ≡ after M live.machine e
        made = ap (state_from M live.machine) fresh

        shut : ltb live.commit l.begin ≡ false
        shut = le-ltb live.commit l.begin lead.begun

        appending : (f : List Running → List Running) → timers ≡ f l.timers → still_pending (length r.disk.entries + 1) waiting ≡ [] → e.term ≡ r.disk.term → e.time ≡ now → live.now ≤ now → (live.now ≤ clock_limit → now ≤ clock_limit) → HasRoom r → IsAppending r behind e l f
        appending f timers-is done term time later bounded room = record {
          was = was;
          term_is = term;
          offset_is = (let none = lone.unsaved.count in omega (arith, offset_is, none));
          time_is = time;
          later = later;
          bounded = bounded;
          room = room;
          kept = refl;
          disk = refl;
          commit = counted;
          machine = made;
          leads =
              ap (λ (x : Leading). Some x) (led_on (count_of (longer r.disk e)) now _ _ (after M live.machine e) new_leading shut made (ap (λ n. still_pending n waiting) counted ∙ done))
              ∙ ap (λ ts. Some (record l { pending = []; timers = retimed now (M.timers (after M live.machine e)) ts })) timers-is;
          sends = rw shut refl;
        }

        told : behind.replies ≡ ack_of M r.disk.term e.offset (waits_at e.offset waiting) (reply_to M live.machine e)
        told = ap (acks_of M r.disk.term waiting live.machine) fresh ∙ append-nil _

        becomes : (i : Input) → Steps r i behind → Becomes i (append_row new_live e)
        becomes i h = subst (λ (a : Advanced S). Steps r i (with_advance M (longer r.disk e) (append_row new_live e) a)) (sym moves_on) h

      -- ---- the rows of a client's requests

      first_none : (a b : Option Refusal) → first_of a b ≡ None → (a ≡ None) × (b ≡ None)
      first_none None b e = (refl, e)
      first_none (Some x) b e = absurd cc

      first_some : (a b : Option Refusal) (x : Refusal) → first_of a b ≡ Some x → (a ≡ Some x) ⊎ (b ≡ Some x)
      first_some None b x e = inr e
      first_some (Some y) b x e = inl e

      bad_none : (bad : Option Bad) → bad_request bad ≡ None → bad ≡ None
      bad_none None e = refl
      bad_none (Some b) e = absurd cc

      abbrev RefusesTruly : Bool → List ℕ → Refusal → Type 0
      RefusesTruly write bytes x = ClientRefusal M blocks r (record { write = write; body = bytes }) x

      bad_truly : (bytes : List ℕ) (bad : Option Bad) (x : Refusal) → fault_of M (value_in M.commands bytes) ≡ bad → bad_request bad ≡ Some x → RefusesTruly true bytes x
      bad_truly bytes None x is e = absurd cc
      bad_truly bytes (Some b) x is e = subst (RefusesTruly true bytes) (some_is (refusal.BadRequest b) x e) is

      not_ready_truly : (write : Bool) (bytes : List ℕ) (l : Option Leading) (x : Refusal) → r.live.leading ≡ l → not_ready_by v live.hint l ≡ Some x → RefusesTruly write bytes x
      not_ready_truly write bytes None x is e = subst (RefusesTruly write bytes) (some_is (refusal.NotLeader v.term live.hint) x e) (is, refl, refl)
      not_ready_truly write bytes (Some l) x is e = by_test (ltb live.commit l.begin) refl e
        where
          by_test : (test : Bool) → ltb live.commit l.begin ≡ test → cond test (Some (refusal.Recovering v.term l.begin v.commit)) None ≡ Some x → RefusesTruly write bytes x
          by_test true t g = subst (RefusesTruly write bytes) (some_is (refusal.Recovering v.term l.begin v.commit) x g) (l, is, (refl, refl, refl, ltb-true live.commit l.begin t))
          by_test false t g = absurd cc

      too_many_truly : (bytes : List ℕ) (l : Option Leading) (x : Refusal) → r.live.leading ≡ l → too_many_by v l ≡ Some x → RefusesTruly true bytes x
      too_many_truly bytes None x is e = absurd cc
      too_many_truly bytes (Some l) x is e = by_test (leb 1024 (length l.pending)) refl e
        where
          by_test : (test : Bool) → leb 1024 (length l.pending) ≡ test → cond test (Some (refusal.TooManyPending 1024)) None ≡ Some x → RefusesTruly true bytes x
          by_test true t g = subst (RefusesTruly true bytes) (some_is (refusal.TooManyPending 1024) x g) (l, is, (refl, leb-true 1024 (length l.pending) t))
          by_test false t g = absurd cc

      no_room_truly : (bytes : List ℕ) (x : Refusal) → no_room v (entry_blocks (command_entry v live bytes)) ≡ Some x → RefusesTruly true bytes x
      no_room_truly bytes x e = by_spent (eqb v.count clock_limit) refl e
        where
          need : ℕ
          need = entry_blocks (command_entry v live bytes)

          by_full : (test : Bool) → ltb (room_of v) (entry_blocks (command_entry v live bytes)) ≡ test → cond test (Some (refusal.LogFull (entry_blocks (command_entry v live bytes)) (room_of v))) None ≡ Some x → RefusesTruly true bytes x
          by_full true t g = subst (RefusesTruly true bytes) (some_is (refusal.LogFull (entry_blocks (command_entry v live bytes)) (room_of v)) x g) (refl, refl, ltb-true _ _ t)
          by_full false t g = absurd cc

          by_spent :
              (test : Bool) → eqb v.count clock_limit ≡ test
              → cond test (Some (refusal.LogSpent v.count)) (cond (ltb (room_of v) (entry_blocks (command_entry v live bytes))) (Some (refusal.LogFull (entry_blocks (command_entry v live bytes)) (room_of v))) None) ≡ Some x
              → RefusesTruly true bytes x
          by_spent true t g = subst (RefusesTruly true bytes) (some_is (refusal.LogSpent v.count) x g) (refl, eqb-true v.count clock_limit t)
          by_spent false t g = by_full (ltb (room_of v) (entry_blocks (command_entry v live bytes))) refl g

      refusal_truly : (bytes : List ℕ) (x : Refusal) → write_refusal M v live bytes ≡ Some x → RefusesTruly true bytes x
      refusal_truly bytes x e = elim (first_some (bad_request (fault_of M (value_in M.commands bytes))) _ x e) [
        | inl a ↦ bad_truly bytes (fault_of M (value_in M.commands bytes)) x refl a
        | inr b ↦ elim (first_some (not_ready v live) _ x b) [
          | inl c ↦ not_ready_truly true bytes live.leading x refl c
          | inr d ↦ elim (first_some (too_many_by v live.leading) _ x d) [
            | inl f ↦ too_many_truly bytes live.leading x refl f
            | inr g ↦ no_room_truly bytes x g
          ]
        ]
      ]

      waits_here : (tag n offset : ℕ) (pending : List Pending) → pending ≡ [] → n ≡ offset → waits_at offset (pending ++ record { tag = tag; offset = n } ∷ []) ≡ Some tag
      waits_here tag n offset pending none is = rw (none, eq-eqb n offset is) refl

      waits_no_more : (tag n count : ℕ) (pending : List Pending) → pending ≡ [] → n < count → still_pending count (pending ++ record { tag = tag; offset = n } ∷ []) ≡ []
      waits_no_more tag n count pending none below =
          let not : leb count n ≡ false = lt-leb count n below in
          rw (none, not) refl

      takes_writes : (tag : ℕ) (bytes : List ℕ) (l : Leading) → r.live.leading ≡ Some l → fault_of M (value_in M.commands bytes) ≡ None → HasRoom r
          → Becomes (input.Client tag true bytes) (append_row (record live { leading = Some (waits tag v.count l) }) (command_entry v live bytes))
      takes_writes tag bytes l was faultless room =
          let e : Entry = command_entry v live bytes in
          let waiting : List Pending = l.pending ++ record { tag = tag; offset = v.count } ∷ [] in
          let none = lone.unsaved.count in
          let lead = lone.leader l was in
          becomes l was live.now waiting l.timers e refl (input.Client tag true bytes) (writes (record {
            tag = tag;
            bytes = bytes;
            is = refl;
            faultless = faultless;
            entry = e;
            body_is = refl;
            leading = l;
            appends = appending l was live.now waiting l.timers e refl unchanged refl (waits_no_more tag v.count (length r.disk.entries + 1) l.pending lead.none (omega (arith, none))) refl refl (omega arith) (λ h. h) room;
            replies = told l was live.now waiting l.timers e refl ∙ ap (λ w. ack_of M r.disk.term e.offset w (reply_to M live.machine e)) (waits_here tag v.count e.offset l.pending lead.none refl);
          }))

      takes_row : (tag : ℕ) (bytes : List ℕ) (o : Option Leading) → r.live.leading ≡ o → fault_of M (value_in M.commands bytes) ≡ None → not_ready_by v live.hint o ≡ None → HasRoom r
          → Becomes (input.Client tag true bytes) (append_row (record live { leading = option_map (waits tag v.count) o }) (command_entry v live bytes))
      takes_row tag bytes None was faultless ready room = absurd cc
      takes_row tag bytes (Some l) was faultless ready room = takes_writes tag bytes l was faultless room

      -- a count that isn't the limit leaves room
      room_below : eqb v.count clock_limit ≡ false → HasRoom r
      room_below test few = let none = lone.unsaved.count in let other = eqb-false v.count clock_limit test in omega (arith, none, other, few)

      -- no refusal says that the log is spent
      room_left : (need : ℕ) → no_room v need ≡ None → HasRoom r
      room_left need none = by_test (eqb v.count clock_limit) refl none
        where
          by_test : (test : Bool) → eqb v.count clock_limit ≡ test → cond test (Some (refusal.LogSpent v.count)) (cond (ltb (room_of v) need) (Some (refusal.LogFull need (room_of v))) None) ≡ None → HasRoom r
          by_test true t g = absurd cc
          by_test false t g = room_below t

      write_row : (tag : ℕ) (bytes : List ℕ) (x : Option Refusal) → write_refusal M v live bytes ≡ x → Becomes (input.Client tag true bytes) (write_by M v live tag bytes x)
      write_row tag bytes (Some x) is = refused tag true bytes x (refusal_truly bytes x is)
      write_row tag bytes None is =
          let a = first_none (bad_request (fault_of M (value_in M.commands bytes))) _ is in
          let b = first_none (not_ready v live) _ a.1 in
          let d = first_none (too_many_by v live.leading) _ b.1 in
          takes_row tag bytes live.leading refl (bad_none (fault_of M (value_in M.commands bytes)) a.0) b.0 (room_left (entry_blocks (command_entry v live bytes)) d.1)

      hears_begin : (now : ℕ) (h : Option ℕ) (l : Leading) → (hears_by now h l).begin ≡ l.begin
      hears_begin now None l = refl
      hears_begin now (Some id) l = refl

      hears_pending : (now : ℕ) (h : Option ℕ) (l : Leading) → (hears_by now h l).pending ≡ l.pending
      hears_pending now None l = refl
      hears_pending now (Some id) l = refl

      hears_timers : (now : ℕ) (h : Option ℕ) (l : Leading) → (hears_by now h l).timers ≡ hears_with now h l.timers
      hears_timers now None l = refl
      hears_timers now (Some id) l = refl

      answers_row : (tag : ℕ) (bytes : List ℕ) (query : Q) (o : Option Leading) → value_in M.queries bytes ≡ Ok query → r.live.leading ≡ o → not_ready_by v live.hint o ≡ None
          → Becomes (input.Client tag false bytes) (record (answers M v live tag query) { live = record live { leading = option_map (hears_by live.now (M.heard query)) o } })
      answers_row tag bytes query None asks was ready = absurd cc
      answers_row tag bytes query (Some l) asks was ready = reads (record {
        tag = tag;
        bytes = bytes;
        is = refl;
        query = query;
        asks = asks;
        leading = l;
        was = was;
        still = record {
          kept = refl;
          disk = refl;
          commit = refl;
          machine = refl;
          later = omega arith;
          bounded = λ h. h;
          back = λ new is.
              let same : hears_by live.now (M.heard query) l ≡ new = some_is (hears_by live.now (M.heard query) l) new is in
              record {
                old = l;
                was = was;
                begin = ap (λ (x : Leading). x.begin) (sym same) ∙ hears_begin live.now (M.heard query) l;
                pending = ap (λ (x : Leading). x.pending) (sym same) ∙ hears_pending live.now (M.heard query) l;
                timers = ap (λ (x : Leading). x.timers) (sym same) ∙ hears_timers live.now (M.heard query) l;
              };
        };
        now_is = refl;
        leads = refl;
        sends = refl;
        replies = refl;
      })

      answers_or_row : (tag : ℕ) (bytes : List ℕ) (query : Q) (x : Option Refusal) → value_in M.queries bytes ≡ Ok query → not_ready v live ≡ x → Becomes (input.Client tag false bytes) (answers_or M v live tag query x)
      answers_or_row tag bytes query None asks ready = answers_row tag bytes query live.leading asks refl ready
      answers_or_row tag bytes query (Some x) asks ready = refused tag false bytes x (not_ready_truly false bytes live.leading x refl ready)

      read_row : (tag : ℕ) (bytes : List ℕ) (found : Result Q MachineFault) → value_in M.queries bytes ≡ found → Becomes (input.Client tag false bytes) (read_by M v live tag found)
      read_row tag bytes (Ok query) is = answers_or_row tag bytes query (not_ready v live) is refl
      read_row tag bytes (Err fault) is = refused tag false bytes (refusal.BadRequest grammar) (fault, is, refl)

      client_row : (tag : ℕ) (write : Bool) (bytes : List ℕ) → Becomes (input.Client tag write bytes) (from_client M v live tag write bytes)
      client_row tag true bytes = write_row tag bytes (write_refusal M v live bytes) refl
      client_row tag false bytes = read_row tag bytes (value_in M.queries bytes) refl

      -- ---- the rows of a tick

      module _ (ms : ℕ) where
        abbrev then : Live S
        then = time_at live ms

        then_bounded : live.now ≤ clock_limit → then.now ≤ clock_limit
        then_bounded h = omega (arith, h)

        waits_row : (l : Leading) → r.live.leading ≡ Some l → Becomes (input.Tick ms) (only_advances then)
        waits_row l was =
            let lead = lone.leader l was in
            let none = lone.unsaved.count in
            let same : advance M r.disk then ≡ unmoved then = stays r.disk then l was (omega (arith, none, lead.all)) in
            subst (λ (a : Advanced S). Steps r (input.Tick ms) (with_advance M r.disk (only_advances then) a)) (sym same)
            (rest (input.Tick ms) then.now live.leading [] [] (omega arith) then_bounded as_it_was tt (nobody refl))

        room_so : (id : ℕ) → has_room M v then id ≡ true → HasRoom r
        room_so id e few =
            let none = lone.unsaved.count in
            let both = and_parts (ltb v.count clock_limit) (leb (entry_blocks (expiry_entry M v then id)) (room_of v)) e in
            let below = ltb-true v.count clock_limit both.0 in
            omega (arith, none, below)

        expires_row : (l : Leading) (id : ℕ) → r.live.leading ≡ Some l → due then.now l.timers ≡ Some id → HasRoom r → Becomes (input.Tick ms) (append_row (record then { leading = Some (notes id l) }) (expiry_entry M v then id))
        expires_row l id was due_is room =
            let e : Entry = expiry_entry M v then id in
            let lead = lone.leader l was in
            let later : live.now ≤ then.now = omega arith in
            becomes l was then.now l.pending (noted id l.timers) e refl (input.Tick ms) (expiring (record {
              ms = ms;
              is = refl;
              id = id;
              leading = l;
              due_is = due_is;
              entry = e;
              time_is = refl;
              body_is = refl;
              appends = appending l was then.now l.pending (noted id l.timers) e refl (noted id) refl (ap (still_pending (length r.disk.entries + 1)) lead.none) refl refl later then_bounded room;
              replies = told l was then.now l.pending (noted id l.timers) e refl ∙ ap (λ p. ack_of M r.disk.term e.offset (waits_at e.offset p) (reply_to M live.machine e)) lead.none;
            }))

        expires_rows : (l : Leading) (id : ℕ) (o : Option Leading) → r.live.leading ≡ Some l → o ≡ Some l → due then.now l.timers ≡ Some id → HasRoom r → Becomes (input.Tick ms) (append_row (record then { leading = option_map (notes id) o }) (expiry_entry M v then id))
        expires_rows l id o was is due_is room = subst (λ p. Becomes (input.Tick ms) (append_row (record then { leading = option_map (notes id) p }) (expiry_entry M v then id))) (sym is) (expires_row l id was due_is room)

        due_row : (l : Leading) (x : Option ℕ) → r.live.leading ≡ Some l → due then.now l.timers ≡ x → Becomes (input.Tick ms) (expires_due M v then x)
        due_row l None was is = waits_row l was
        due_row l (Some id) was is = cond_both (has_room M v then id) (expires M v then id) (only_advances then) (Becomes (input.Tick ms)) (λ e. expires_rows l id live.leading was was is (room_so id e)) (λ _. waits_row l was)

        tick_row : (o : Option Leading) → r.live.leading ≡ o → Becomes (input.Tick ms) (ticks_leading M v then o)
        tick_row None was = rest (input.Tick ms) then.now live.leading [] [] (omega arith) then_bounded as_it_was tt (nobody refl)
        tick_row (Some l) was = cond_both (nat_lt v.commit l.begin) (only_advances then) _ (Becomes (input.Tick ms)) (λ _. waits_row l was) (λ _. due_row l (due then.now l.timers) was refl)

      -- ---- the rows of a coordinator's messages

      not_leading : r.disk.seat ≡ seat.Fenced → (o : Option Leading) → r.live.leading ≡ o → o ≡ None
      not_leading fenced None is = refl
      not_leading fenced (Some l) is = absurd (differ (sym fenced ∙ (lone.leader l is).seat_is))
        where
          differ : seat.Fenced ≡ seat.Led → ⊥
          differ e = cc

      none_gone : (t : ℕ) (o : Option Leading) → r.live.leading ≡ o → all_gone v.term t o ≡ []
      none_gone t None is = refl
      none_gone t (Some l) is = let none = (lone.leader l is).none in rw none refl

      module _ (table : TermTable) (from : ℕ) where
        fences_row : (t : ℕ) → r.disk.term < t → Becomes (input.Peer (peer.Coordinator from) (body.NewTerm t)) (fences v live table from t)
        fences_row t above = fencing (record {
          from = from;
          term = t;
          is = refl;
          above = above;
          kept = refl;
          disk = refl;
          commit = refl;
          machine = refl;
          bounded = λ h. h;
          leads = refl;
          sends = (tt, tt);
          replies = append-nil _ ∙ none_gone t live.leading refl;
        })

        new_term_row : (t : ℕ) → Becomes (input.Peer (peer.Coordinator from) (body.NewTerm t)) (new_term v live table from t)
        new_term_row t =
            let i : Input = input.Peer (peer.Coordinator from) (body.NewTerm t) in
            cond_both (nat_lt t v.term) _ _ (Becomes i) (λ e. refuses_row i from asked.NewTerm t (refusal.OldTerm t v.term) (refl, refl, ltb-true t v.term e))
            (λ _. cond_both (nat_lt v.term t) _ _ (Becomes i) (λ e. fences_row t (ltb-true v.term t e))
            (λ _. cond_both (is_fenced v.seat) _ _ (Becomes i) (λ _. says i (record { to = peer.Coordinator from; body = body.Fenced t table } ∷ []) (tt, tt)) (λ _. refuses_row i from asked.NewTerm t (refusal.SeatTaken v.term v.seat) (refl, refl))))

      module _ (chief t : ℕ) (config : Config) (followers : List Follower) where
        abbrev lead_input : Input
        lead_input = input.Peer (peer.Coordinator chief) (body.BecomeLeader t config followers)

        leads_row : r.disk.seat ≡ seat.Fenced → HasRoom r → Becomes lead_input (leads v live 1 chief config)
        leads_row fenced room = subst (λ (a : Advanced S). Steps r lead_input (with_advance M begun (leads v live 1 chief config) a)) (sym moves_on) (beginning (record {
          from = chief;
          says = body.BecomeLeader t config followers;
          is = refl;
          seat_was = fenced;
          pass = pass_entry v live;
          term_is = refl;
          offset_is = (let none = lone.unsaved.count in omega (arith, none));
          is_pass = refl;
          time_is = refl;
          bounded = λ h. h;
          room = room;
          kept = refl;
          disk = refl;
          commit = counted;
          machine = ap (state_from M live.machine) applied;
          leading = leading_after M (count_of begun) live.now (ltb live.commit fresh.begin) made fresh;
          leads = refl;
          begin = (let none = lone.unsaved.count in omega (arith, none));
          pending = refl;
          timers = rw opens refl;
          sends = rw opens (tt, tt);
          replies = nobody_waits (entries_from begun live.commit) live.machine;
        }))
          where
            begun : DurableState
            begun = record (longer r.disk (pass_entry v live)) { seat = seat.Led }

            fresh : Leading
            fresh = leading_at v.count 1 chief config

            new : Live S
            new = record live { leading = Some fresh }

            counted : count_of begun ≡ length r.disk.entries + 1
            counted = let none = lone.unsaved.count in omega (arith, longer_by_one r.disk.entries (pass_entry v live), none)

            applied : entries_from begun live.commit ≡ drop live.commit (r.disk.entries ++ pass_entry v live ∷ [])
            applied = let none = lone.unsaved.count in ap (λ n. drop n (r.disk.entries ++ pass_entry v live ∷ [])) (omega (arith, none))

            made : S
            made = state_from M live.machine (entries_from begun live.commit)

            opens : ltb live.commit (v.count + 1) ≡ true
            opens = let none = lone.unsaved.count in lt-ltb live.commit (v.count + 1) (omega (arith, none, lone.within))

            moves_on : advance M begun new ≡ moved M begun new fresh
            moves_on = moves begun new fresh refl (omega (arith, counted, lone.within))

            nobody_waits : (es : List Entry) (s : S) → acks_of M r.disk.term [] s es ≡ []
            nobody_waits [] s = refl
            nobody_waits (e ∷ es) s = nobody_waits es (after M s e)

        seat_fenced : (s : Seat) → is_fenced s ≡ true → s ≡ seat.Fenced
        seat_fenced seat.Fenced e = refl
        seat_fenced seat.Attached e = absurd cc
        seat_fenced seat.Led e = absurd cc

        may_lead_row : is_fenced v.seat ≡ true → Becomes lead_input (may_lead v live 1 chief t config)
        may_lead_row fenced =
            cond_both (v.count == clock_limit) _ _ (Becomes lead_input) (λ e. refuses_row lead_input chief asked.BecomeLeader t (refusal.LogSpent v.count) (refl, eqb-true v.count clock_limit e))
            (λ below. cond_both (v.free == 0) _ _ (Becomes lead_input) (λ e. refuses_row lead_input chief asked.BecomeLeader t (refusal.LogFull 1 0) (refl, sym (eqb-true v.free 0 e), omega arith))
            (λ _. cond_both (is_alone 1 config) _ _ (Becomes lead_input) (λ _. leads_row (seat_fenced r.disk.seat fenced) (room_below below)) (λ _. still lead_input)))

        ready_is_true : (test : Bool) → AreTrue r (cond test (record { to = peer.Coordinator chief; body = body.Ready t } ∷ []) [])
        ready_is_true true = (tt, tt)
        ready_is_true false = tt

        lead_again_row : (o : Option Leading) → r.live.leading ≡ o → Becomes lead_input (lead_again v live chief t o)
        lead_again_row None is = refuses_row lead_input chief asked.BecomeLeader t (refusal.SeatTaken v.term v.seat) (refl, refl)
        lead_again_row (Some l) is = rest lead_input live.now (Some (record l { chief = chief })) _ [] (omega arith) (λ h. h)
            (λ new e.
            let same : record l { chief = chief } ≡ new = some_is (record l { chief = chief }) new e in
            record { old = l; was = is; begin = ap (λ (x : Leading). x.begin) (sym same); pending = ap (λ (x : Leading). x.pending) (sym same); timers = ap (λ (x : Leading). x.timers) (sym same) })
            (ready_is_true (leb l.begin v.commit)) (nobody refl)

        become_leader_row : Becomes lead_input (become_leader v live 1 chief t config)
        become_leader_row =
            cond_both (nat_lt t v.term) _ _ (Becomes lead_input) (λ e. refuses_row lead_input chief asked.BecomeLeader t (refusal.OldTerm t v.term) (refl, refl, ltb-true t v.term e))
            (λ _. cond_both (nat_lt v.term t) _ _ (Becomes lead_input) (λ e. refuses_row lead_input chief asked.BecomeLeader t (refusal.UnknownTerm t v.term) (refl, refl, ltb-true v.term t e))
            (λ _. cond_both (is_fenced v.seat) _ _ (Becomes lead_input) (λ fenced. may_lead_row fenced) (λ _. lead_again_row live.leading refl)))

      coordinator_row : (table : TermTable) (from : ℕ) (says : Body) → Becomes (input.Peer (peer.Coordinator from) says) (from_coordinator 1 v table live from says)
      coordinator_row table from (body.NewTerm t) = new_term_row table from t
      coordinator_row table from (body.BecomeLeader t config followers) = become_leader_row from t config followers
      coordinator_row table from says = still (input.Peer (peer.Coordinator from) says)

      peer_row : (table : TermTable) (from : Peer) (says : Body) → Becomes (input.Peer from says) (from_peer 1 v table live from says)
      peer_row table (peer.Node n) says = still (input.Peer (peer.Node n) says)
      peer_row table (peer.Coordinator c) says = coordinator_row table c says

      row_is : (i : Input) → Becomes i (row_at M 1 v (table_of r.disk) live i)
      unfolding row_at
      row_is (input.Peer from says) = peer_row (table_of r.disk) from says
      row_is (input.Client tag write bytes) = client_row tag write bytes
      row_is (input.Tick ms) = tick_row ms live.leading refl

      -- what a step of a replica that is alone does
      pub step_is : (i : Input) → Steps r i (replica_step M 1 blocks r i)
      unfolding replica_step
      step_is i = row_is i
