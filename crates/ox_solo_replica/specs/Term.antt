-- The rows of a term's beginning: NewTerm and BecomeLeader.
use Rattle.std.specs.Prelude.{ℕ, ◌+◌, ◌==◌, nat_lt, nat_le, Bool, true, false, List, [], ◌∷◌, map, Option, Some, None, if◌then◌else◌}
use Rattle.ox_types.specs.declared.log.Entry.{Entry}
use Rattle.ox_types.specs.declared.log.EntryBody.TheVariants.{Pass}
use Rattle.ox_types.specs.declared.log.TermTable.{TermTable}
use Rattle.ox_types.specs.declared.durable.Action.TheVariants as action
use Rattle.ox_types.specs.declared.durable.LogView.{LogView}
use Rattle.ox_types.specs.declared.peer.Peer.TheVariants.{Coordinator}
use Rattle.ox_types.specs.declared.refusal.Refusal.{Refusal}
use Rattle.ox_types.specs.declared.refusal.Refusal.TheVariants.{OldTerm, UnknownTerm, SeatTaken, LogSpent, LogFull, LeaderGone}
use Rattle.ox_types.specs.Durable.{is_fenced}
use Rattle.ox_quorum.specs.declared.config.Config.{Config}
use Rattle.ox_quorum.specs.declared.config.Config.TheVariants.{One, Joint}
use Rattle.ox_wire.specs.declared.body.Asked.{Asked}
use Rattle.ox_wire.specs.declared.body.Asked.TheVariants as asked
use Rattle.ox_wire.specs.declared.body.Body.TheVariants as body
use Rattle.ox_wire.specs.declared.message.Outcome.TheVariants as outcome
use Rattle.ox_solo_replica.specs.declared.leading.Leading.{Leading}
use Rattle.ox_solo_replica.specs.declared.leading.Pending.{Pending}
use Rattle.ox_solo_replica.specs.declared.live.Live.{Live}
use Rattle.ox_solo_replica.specs.declared.output.Answered.{Answered}
use Rattle.ox_solo_replica.specs.State.{Row, quiet, clock_limit}

-- a coordinator is refused what it asked in a term
abbrev pub refuses : {S : Type 0} → Live S → ℕ → Asked → ℕ → Refusal → Row S
refuses live from what term refusal = record (quiet live) { sends = record { to = Coordinator from; body = body.Refused what term refusal } ∷ [] }

-- one pending client, and all of a leader, are told that the leader is gone
abbrev pub gone : ℕ → ℕ → Pending → Answered
gone old by p = record { tag = p.tag; outcome = outcome.Refused (LeaderGone old by) }

abbrev pub all_gone : ℕ → ℕ → Option Leading → List Answered
all_gone old by None = []
all_gone old by (Some l) = map (gone old by) l.pending

-- the config is this node alone
abbrev pub is_only : ℕ → List ℕ → Bool
is_only me [] = false
is_only me (n ∷ []) = n == me
is_only me (n ∷ m ∷ nodes) = false

abbrev pub is_alone : ℕ → Config → Bool
is_alone me (One nodes) = is_only me nodes
is_alone me (Joint first second) = false

-- a leader at its beginning, of a log with so many entries
abbrev pub leading_at : ℕ → ℕ → ℕ → Config → Leading
leading_at count me chief config = record { me = me; chief = chief; config = config; begin = count + 1; cursors = []; pending = []; timers = [] }

module _ {S : Type 0} (v : LogView) where
  -- it stands in its term, with the terms of its log
  abbrev pub says_fenced : Live S → TermTable → ℕ → ℕ → Row S
  says_fenced live table from t = record (quiet live) { sends = record { to = Coordinator from; body = body.Fenced t table } ∷ [] }

  -- a higher term begins: it leads no longer, and pending clients are told
  abbrev pub fences : Live S → TermTable → ℕ → ℕ → Row S
  fences live table from t = record {
    kept = action.Term t ∷ [];
    live = record live { hint = None; leading = None };
    advances = false;
    sends = record { to = Coordinator from; body = body.Fenced t table } ∷ [];
    replies = all_gone v.term t live.leading;
  }

  abbrev pub seat_taken : Live S → ℕ → Asked → ℕ → Row S
  seat_taken live from what t = refuses live from what t (SeatTaken v.term v.seat)

  abbrev pub new_term : Live S → TermTable → ℕ → ℕ → Row S
  new_term live table from t =
      if nat_lt t v.term then refuses live from asked.NewTerm t (OldTerm t v.term)
      else
      (if nat_lt v.term t then fences live table from t
      else (if is_fenced v.seat then says_fenced live table from t else seat_taken live from asked.NewTerm t))

  -- the first entry of a leader
  abbrev pub pass_entry : Live S → Entry
  pass_entry live = record { term = v.term; offset = v.count; time = live.now; body = Pass }

  -- it leads, and begins with a Pass
  abbrev pub leads : Live S → ℕ → ℕ → Config → Row S
  leads live me chief config = record {
    kept = action.Lead ∷ action.Append (pass_entry live ∷ []) ∷ [];
    live = record live { leading = Some (leading_at v.count me chief config) };
    advances = true;
    sends = [];
    replies = [];
  }

  abbrev pub may_lead : Live S → ℕ → ℕ → ℕ → Config → Row S
  may_lead live me chief t config =
      if v.count == clock_limit then refuses live chief asked.BecomeLeader t (LogSpent v.count)
      else
      (if v.free == 0 then refuses live chief asked.BecomeLeader t (LogFull 1 0)
      else (if is_alone me config then leads live me chief config else quiet live))

  -- it leads already: another coordinator may be told
  abbrev pub leads_on : Live S → ℕ → ℕ → Leading → Row S
  leads_on live chief t l = record (quiet live) {
    live = record live { leading = Some (record l { chief = chief }) };
    sends = if nat_le l.begin v.commit then record { to = Coordinator chief; body = body.Ready t } ∷ [] else [];
  }

  abbrev pub lead_again : Live S → ℕ → ℕ → Option Leading → Row S
  lead_again live chief t None = seat_taken live chief asked.BecomeLeader t
  lead_again live chief t (Some l) = leads_on live chief t l

  abbrev pub become_leader : Live S → ℕ → ℕ → ℕ → Config → Row S
  become_leader live me chief t config =
      if nat_lt t v.term then refuses live chief asked.BecomeLeader t (OldTerm t v.term)
      else
      (if nat_lt v.term t then refuses live chief asked.BecomeLeader t (UnknownTerm t v.term)
      else (if is_fenced v.seat then may_lead live me chief t config else lead_again live chief t live.leading))
