use Rattle.std.proofs.Common.{◌≡◌, ◌+◌, ◌++◌, drop}
use Rattle.ox_machine.specs.Store.{RunsFrom, state_from}
use Rattle.ox_solo_replica.specs.Advance.{acks_of}
use Rattle.ox_solo_replica.proofs.applying.apply_entries.Given as goal

-- the entries so far are applied, and those to come give the rest
abbrev pub invariant-loop-entry : goal.invariant-loop-entry
invariant-loop-entry g l = record {
  runs : RunsFrom (l.from + l.entry-index) (drop l.entry-index l.entries);
  fits : g.M.Machine.meaning.fits (l.from + l.entry-index) l.machine;
  state : state_from g.M.Machine.meaning l.machine (drop l.entry-index l.entries) ≡ state_from g.M.Machine.meaning l.initial.machine l.entries;
  told : l.replies ++ acks_of g.M.Machine.meaning l.term l.pending l.machine (drop l.entry-index l.entries) ≡ l.initial.replies ++ acks_of g.M.Machine.meaning l.term l.pending l.initial.machine l.entries;
}
