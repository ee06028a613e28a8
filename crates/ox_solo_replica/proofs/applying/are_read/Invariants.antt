use Rattle.std.proofs.Common.{◌≡◌, ℕ, ◌<◌, drop, slice_index_or}
use Rattle.std.specs.List.{list_all}
use Rattle.ox_types.specs.declared.log.Entry.{Entry}
use Rattle.ox_machine.specs.Store.{IsBody}
use Rattle.ox_solo_replica.specs.Advance.{is_entry}
use Rattle.ox_solo_replica.proofs.applying.are_read.Given as goal

-- the entries so far are read
abbrev pub invariant-loop-entry : goal.invariant-loop-entry
invariant-loop-entry g l = record {
  all : list_all (is_entry g.M.Machine.meaning) (drop l.entry-index l.entries) ≡ list_all (is_entry g.M.Machine.meaning) l.entries;
  bytes : (k : ℕ) (e : Entry) → k < l.entry-index → IsBody (slice_index_or l.entries k e).body;
}
