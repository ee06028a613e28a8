-- What a replica is after a start, and from which durable states one starts.
use Rattle.std.specs.Prelude.{◌&&◌, ◌==◌, nat_le, Bool, None, is_none}
use Rattle.std.specs.List.{list_all}
use Rattle.ox_types.specs.Durable.{DurableState}
use Rattle.ox_machine.specs.Meaning.{Meaning}
use Rattle.ox_solo_replica.specs.Advance.{is_entry}
use Rattle.ox_solo_replica.specs.declared.live.Live.{Live}

-- nothing stands before the entries: snapshots are not there yet
abbrev pub is_unsaved : DurableState → Bool
is_unsaved d = d.base.term == 0 && d.base.count == 0 && is_none d.saved

module _ {S C R Q A : Type 0} (M : Meaning S C R Q A) where
  -- a replica starts from this durable state
  unfoldable pub is_usable : DurableState → Bool
  is_usable d = is_unsaved d && nat_le d.term 9007199254740992 && list_all (is_entry M) d.entries

  -- what is known beside the disks after a start: nothing is committed, and it doesn't lead
  abbrev pub recovered : DurableState → Live S
  recovered d = record { commit = d.base.count; machine = M.opening; now = 0; hint = None; leading = None }
