use Rattle.std.proofs.Common.{◌≡◌, ◌++◌, map}
use Rattle.std.specs.Map.Iter.{deref_pair}
use Rattle.ox_ops.specs.State.{timer_of}
use Rattle.ox_session.specs.Members.{sessions_of}
use Rattle.ox_session.proofs.sessions.Sessions.timers.Given as goal

abbrev pub invariant-loop-id : goal.invariant-loop-id
invariant-loop-id l = record {
  rest : map deref_pair l.yielded ++ l.id-iterator ≡ l.self;
  timers : l.timers ≡ map timer_of (sessions_of (map deref_pair l.yielded));
}
