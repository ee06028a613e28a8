-- The batches of the rows: a log takes each of them, and what holds of a replica holds behind it.
use Rattle.std.proofs.Common.{◌≡◌, ℕ, ◌+◌, ◌-◌, ◌<◌, ◌≤◌, true, List, [], ◌∷◌, ◌++◌, length, None, refl, sym, subst, ◌∙◌, arith, length-append}
use Rattle.std.proofs.lemmas.Bool.{lt-ltb, cond-true}
use Rattle.ox_types.specs.declared.log.Entry.{Entry}
use Rattle.ox_types.specs.declared.log.Seat.{Seat}
use Rattle.ox_types.specs.declared.log.Seat.TheVariants as seat_is
use Rattle.ox_types.specs.declared.durable.Action.{Action}
use Rattle.ox_types.specs.declared.durable.Action.TheVariants as action_is
use Rattle.ox_types.specs.Durable.{DurableState, count_of, folded, is_fenced}
use Rattle.ox_bytes.specs.LogForms.{entry_blocks}
use Rattle.ox_machine.specs.Meaning.{Meaning}
use Rattle.ox_wal.specs.ActionForms.{action}
use Rattle.ox_wal.specs.Blocks.{blocks_used}
use Rattle.ox_solo_replica.specs.declared.live.Live.{Live}
use Rattle.ox_solo_replica.specs.Keeping.{IsKeepable, IsShort}
use Rattle.ox_solo_replica.specs.Sound.{IsSound}
use Rattle.ox_solo_replica.specs.State.{folded_all}
use Rattle.ox_solo_replica.proofs.Entries.{short_size, entry_lawful, append_lawful, append_size, lead_size, lead_lawful, term_size, term_lawful, nil_size, one_lawful, one_size, two_lawful, two_size, next_follows, room_for, runs_on, head_behind, short_bytes}

-- the entry that comes next, within its bounds, and for which there is room
pub record IsNext (all : ℕ) (d : DurableState) (now : ℕ) (e : Entry) : Type 0 where
  pub term_is : e.term ≡ d.term
  pub offset_is : e.offset ≡ count_of d
  pub time_is : e.time ≡ now
  pub more : count_of d < 9007199254740992
  pub room : entry_blocks e ≤ all - blocks_used d.entries

-- the batches of the rows
pub data Batch (all : ℕ) (d : DurableState) (now : ℕ) : List Action → Type 0 where
  Nothing : Batch all d now []
  Raises : (t : ℕ) → d.term < t → t ≤ 9007199254740992 → Batch all d now (action_is.Term t ∷ [])
  Leads : (e : Entry) → is_fenced d.seat ≡ true → IsNext all d now e → IsShort e.body → Batch all d now (action_is.Lead ∷ action_is.Append (e ∷ []) ∷ [])
  Appends : (e : Entry) → IsNext all d now e → IsShort e.body → Batch all d now (action_is.Append (e ∷ []) ∷ [])

-- what is known beside the disks, behind a row: the machine stands where it stood, and the clock has its bound
pub record Stays {S : Type 0} (live after : Live S) : Type 0 where
  pub commit : after.commit ≡ live.commit
  pub machine : after.machine ≡ live.machine
  pub now : after.now ≤ 9007199254740992

module _ {S C R Q A : Type 0} (M : Meaning S C R Q A) (all : ℕ) (d : DurableState) (live : Live S) (sound : IsSound M d live) where
  next_lawful : (e : Entry) → IsNext all d live.now e → IsShort e.body → action.is_lawful (action_is.Append (e ∷ [])) ≡ true
  next_lawful e is short =
      let now : live.now ≤ 9007199254740992 = sound.now in
      let top : d.term ≤ 9007199254740992 = sound.small_term in
      append_lawful e (entry_lawful e (omega (arith, is.term_is)) (omega (arith, is.offset_is, is.more)) (omega (arith, is.time_is)) short)

  -- a log takes each batch
  pub batch_keepable : (batch : List Action) → Batch all d live.now batch → IsKeepable all d batch
  batch_keepable _ Nothing = record { spelled = refl; size = omega (arith, nil_size); folds = refl; room = refl }
  batch_keepable _ (Raises t rises le) = record {
    spelled = one_lawful _ (term_lawful t le);
    size = omega (arith, one_size (action_is.Term t), term_size t);
    folds = cond-true _ _ None (lt-ltb d.term t rises);
    room = refl;
  }
  batch_keepable _ (Leads e fenced is short) = record {
    spelled = two_lawful _ _ lead_lawful (next_lawful e is short);
    size = omega (arith, two_size action_is.Lead (action_is.Append (e ∷ [])), lead_size, append_size e, short_size e short);
    folds = cond-true _ _ None fenced ∙ cond-true _ _ None (next_follows (folded d action_is.Lead) e sound.small_head is.term_is is.offset_is);
    room = rw (room_for all (folded d action_is.Lead) e is.room) refl;
  }
  batch_keepable _ (Appends e is short) = record {
    spelled = one_lawful _ (next_lawful e is short);
    size = omega (arith, one_size (action_is.Append (e ∷ [])), append_size e, short_size e short);
    folds = cond-true _ _ None (next_follows d e sound.small_head is.term_is is.offset_is);
    room = rw (room_for all d e is.room) refl;
  }

  -- behind a row that keeps nothing
  pub kept_sound : (after : Live S) → Stays live after → IsSound M d after
  kept_sound after stays = record {
    unsaved = sound.unsaved;
    small_term = sound.small_term;
    small_count = sound.small_count;
    small_head = sound.small_head;
    runs = sound.runs;
    now = stays.now;
    committed = omega (arith, sound.committed, stays.commit);
    fits = subst (λ (n : ℕ). M.fits n after.machine) (sym stays.commit) (subst (λ (s : S). M.fits live.commit s) (sym stays.machine) sound.fits);
  }

  with_next : (seat : Seat) (e : Entry) (after : Live S) → Stays live after → IsNext all d live.now e → IsShort e.body → IsSound M (record d { seat = seat; entries = d.entries ++ e ∷ [] }) after
  with_next seat e after stays is short =
      let base : d.base.count ≡ 0 = sound.unsaved.count in
      let at : e.offset ≡ 0 + length d.entries = omega (arith, is.offset_is) in
      let old : live.now ≤ 9007199254740992 = sound.now in
      record {
        unsaved = record { term = sound.unsaved.term; count = sound.unsaved.count; saved = sound.unsaved.saved };
        small_term = sound.small_term;
        small_count = omega (arith, is.more, length-append d.entries (e ∷ []));
        small_head = omega (arith, head_behind d.base d.entries e, is.term_is);
        runs = runs_on 0 d.entries e sound.runs (record { offset_is = at; offset_small = omega (arith, is.more); time_small = omega (arith, is.time_is); says_bytes = short_bytes e.body short });
        now = stays.now;
        committed = omega (arith, sound.committed, stays.commit, length-append d.entries (e ∷ []));
        fits = (kept_sound after stays).fits;
      }

  -- behind each batch what holds of a replica holds again
  pub batch_sound : (batch : List Action) (after : Live S) → Batch all d live.now batch → Stays live after → IsSound M (folded_all d batch) after
  batch_sound _ after Nothing stays = kept_sound after stays
  batch_sound _ after (Raises t rises le) stays = record {
    unsaved = record { term = sound.unsaved.term; count = sound.unsaved.count; saved = sound.unsaved.saved };
    small_term = le;
    small_count = sound.small_count;
    small_head = omega (arith, sound.small_head);
    runs = sound.runs;
    now = stays.now;
    committed = omega (arith, sound.committed, stays.commit);
    fits = (kept_sound after stays).fits;
  }
  batch_sound _ after (Leads e fenced is short) stays = with_next seat_is.Led e after stays is short
  batch_sound _ after (Appends e is short) stays = with_next d.seat e after stays is short
