use Rattle.std.proofs.Common.{◌∙◌, ◌-◌, [], ◌++◌, ℕ, List, take, drop, ap, subst, arith, append_assoc}
use Rattle.ox_journal.specs.Filling.{Gathers}
use Rattle.ox_journal.specs.Half.{Shut}
use Rattle.ox_journal.proofs.Steps.{continued}
use Rattle.ox_journal.proofs.Fill.{taken_on}
use Rattle.ox_journal.proofs.Calling.{piece_long, pieces_rest, pieces_calls}
use Rattle.ox_journal.proofs.filling.fill_all.Goals as goal

pub returns-in_err-fill_once-clause-any_moment : goal.returns-in_err-fill_once-clause-any_moment
returns-in_err-fill_once-clause-any_moment g c text told gathers =
    let inv = c.loop-at.invariant in
    continued (Shut []) _ _ _ (inv.any_moment text told gathers) (c.fill_once.ensures.any_moment _ told (inv.done text told gathers))

pub loop-at-preserved : goal.loop-at-preserved
loop-at-preserved g c =
    let inv = c.loop-at.invariant in
    let bytes = c.args.bytes.now in
    record {
      within = c.next_end-end.ensures.within;
      small = c.fill_once.ensures.small;
      gathered = c.fill_once.ensures.gathered;
      room = c.fill_once.ensures.room;
      pending = c.in_ok-fill_once.ensures.pending ∙ pieces_rest _ _ _ _ _ inv.pending (piece_long bytes c.loop-at.at c.next_end-end.result c.next_end-end.ensures.within c.next_end-end.ensures.later);
      calls = λ told. pieces_calls _ _ _ _ _ _ _ _ inv.pending (piece_long bytes c.loop-at.at c.next_end-end.result c.next_end-end.ensures.within c.next_end-end.ensures.later) (inv.calls told) (c.in_ok-fill_once.ensures.calls told);
      told = λ told. let some = inv.told told in (some.0 ++ take (c.next_end-end.result - c.loop-at.at) (drop c.loop-at.at bytes), c.in_ok-fill_once.ensures.done some.0 told some.1);
      done = λ text told gathers. subst (λ (t : List ℕ). Gathers (g.D.Disk.shows c.fill_once.new.disk) c.fill_once.new.filled c.fill_once.new.buffer.items t)
          (append_assoc text (take c.loop-at.at bytes) (take (c.next_end-end.result - c.loop-at.at) (drop c.loop-at.at bytes))
          ∙ ap (λ (l : List ℕ). text ++ l) (taken_on bytes c.loop-at.at c.next_end-end.result (let later = c.next_end-end.ensures.later in omega arith)))
          (c.in_ok-fill_once.ensures.done _ told (inv.done text told gathers));
      any_moment = λ text told gathers. continued (Shut []) _ _ _ (inv.any_moment text told gathers) (c.fill_once.ensures.any_moment _ told (inv.done text told gathers));
      aside = λ round text told gathers aside. c.in_ok-fill_once.ensures.aside round _ told (inv.done text told gathers) (inv.aside round text told gathers aside);
      later = let later = inv.later in let more = c.fill_once.ensures.cause.later in omega (arith, later, more);
    }
