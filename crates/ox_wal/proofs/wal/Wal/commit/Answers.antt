use Rattle.std.proofs.Common.{◌≢◌, ◌∙◌, ◌++◌, ◌∷◌, [], Some, refl, sym, ap}
use Rattle.ox_types.specs.Durable.{DurableState}
use Rattle.ox_journal.specs.declared.state.State.TheVariants.{Broken}
use Rattle.ox_wal.specs.State.{state_of}
use Rattle.ox_wal.specs.Files.{Keeps}
use Rattle.ox_wal.proofs.Batches.{state-push, batch_read}
use Rattle.ox_wal.proofs.Crashes.{leaves_weaker, idle, batch_left}
use Rattle.ox_wal.proofs.Turns.{batch_turn, batch_among}
use Rattle.ox_wal.proofs.wal.Wal.commit.Goals as goal

pub returns-in_err-draft-clause-any_moment : goal.returns-in_err-draft-clause-any_moment
returns-in_err-draft-clause-any_moment g c behind told up folds =
    rw c.stage.ensures.same.0 (idle _ _ _ _ _ (c.requires.told told up) behind)

pub returns-in-Ok-clause-any_moment : goal.returns-in-Ok-clause-any_moment
returns-in-Ok-clause-any_moment g c behind told up folds =
    let j = c.stage.new.self.journal in
    let keeps : Keeps (g.D.Disk.shows j.live) (g.D.Disk.shows j.spare) j.round j.end (state_of c.args.self.now.log) = rw c.stage.ensures.same.0 (c.requires.told told up) in
    let still : j.state ≢ Broken = rw c.stage.ensures.same.0 up in
    let text = batch_read c.args.actions.now c.as_slice.result.now c.requires.spelled (c.as_slice.ensures ∙ c.in_ok-draft.ensures.text) in
    rw (← c.stage.ensures.same.0) (leaves_weaker _ _ _ _ _ _
    (batch_left _ _ _ _ _ keeps c.as_slice.result.now behind (state-push keeps.payloads c.as_slice.result.now c.args.actions.now _ behind keeps.folds text folds))
    (c.append.ensures.any_moment keeps.payloads told still keeps.is_open))

pub returns-in-Err-clause-any_moment : goal.returns-in-Err-clause-any_moment
returns-in-Err-clause-any_moment g c behind told up folds =
    let j = c.stage.new.self.journal in
    let keeps : Keeps (g.D.Disk.shows j.live) (g.D.Disk.shows j.spare) j.round j.end (state_of c.args.self.now.log) = rw c.stage.ensures.same.0 (c.requires.told told up) in
    let still : j.state ≢ Broken = rw c.stage.ensures.same.0 up in
    let text = batch_read c.args.actions.now c.as_slice.result.now c.requires.spelled (c.as_slice.ensures ∙ c.in_ok-draft.ensures.text) in
    rw (← c.stage.ensures.same.0) (leaves_weaker _ _ _ _ _ _
    (batch_left _ _ _ _ _ keeps c.as_slice.result.now behind (state-push keeps.payloads c.as_slice.result.now c.args.actions.now _ behind keeps.folds text folds))
    (c.append.ensures.any_moment keeps.payloads told still keeps.is_open))

pub returns-in-Ok-clause-kept : goal.returns-in-Ok-clause-kept
returns-in-Ok-clause-kept g c told up =
    let j = c.stage.new.self.journal in
    let keeps : Keeps (g.D.Disk.shows j.live) (g.D.Disk.shows j.spare) j.round j.end (state_of c.args.self.now.log) = rw c.stage.ensures.same.0 (c.requires.told told up) in
    let still : j.state ≢ Broken = rw c.stage.ensures.same.0 up in
    let text = batch_read c.args.actions.now c.as_slice.result.now c.requires.spelled (c.as_slice.ensures ∙ c.in_ok-draft.ensures.text) in
    record {
      payloads = keeps.payloads ++ c.as_slice.result.now ∷ [];
      is_open = c.in-Ok.ensures.done keeps.payloads told still keeps.is_open;
      folds = state-push keeps.payloads c.as_slice.result.now c.args.actions.now _ _ keeps.folds text (c.in_ok-draft.ensures.state ∙ ap (λ (d : DurableState). Some d) (sym c.take_draft.ensures.state));
    }

pub returns-in_err-draft-clause-in_turn : goal.returns-in_err-draft-clause-in_turn
returns-in_err-draft-clause-in_turn g c behind told up folds = batch_turn _ behind g.D.Disk.shows _ _ _ _ _ _ (rw c.stage.ensures.same.0 refl) (returns-in_err-draft-clause-any_moment g c behind told up folds)

pub returns-in_err-draft-clause-among : goal.returns-in_err-draft-clause-among
returns-in_err-draft-clause-among g c behind told up folds = batch_among _ behind g.D.Disk.shows _ _ _ _ _ (returns-in_err-draft-clause-any_moment g c behind told up folds)

pub returns-in-Ok-clause-in_turn : goal.returns-in-Ok-clause-in_turn
returns-in-Ok-clause-in_turn g c behind told up folds = batch_turn _ behind g.D.Disk.shows _ _ _ _ _ _ (rw c.stage.ensures.same.0 at c.append.ensures.same.0) (returns-in-Ok-clause-any_moment g c behind told up folds)

pub returns-in-Ok-clause-among : goal.returns-in-Ok-clause-among
returns-in-Ok-clause-among g c behind told up folds = batch_among _ behind g.D.Disk.shows _ _ _ _ _ (returns-in-Ok-clause-any_moment g c behind told up folds)

pub returns-in-Err-clause-in_turn : goal.returns-in-Err-clause-in_turn
returns-in-Err-clause-in_turn g c behind told up folds = batch_turn _ behind g.D.Disk.shows _ _ _ _ _ _ (rw c.stage.ensures.same.0 at c.append.ensures.same.0) (returns-in-Err-clause-any_moment g c behind told up folds)

pub returns-in-Err-clause-among : goal.returns-in-Err-clause-among
returns-in-Err-clause-among g c behind told up folds = batch_among _ behind g.D.Disk.shows _ _ _ _ _ (returns-in-Err-clause-any_moment g c behind told up folds)

pub returns-then-is_empty-clause-any_moment : goal.returns-then-is_empty-clause-any_moment
returns-then-is_empty-clause-any_moment g c behind told up folds = idle _ _ _ _ _ (c.requires.told told up) behind

pub returns-then-is_empty-clause-in_turn : goal.returns-then-is_empty-clause-in_turn
returns-then-is_empty-clause-in_turn g c behind told up folds = batch_turn _ behind g.D.Disk.shows _ _ _ _ _ _ refl (returns-then-is_empty-clause-any_moment g c behind told up folds)

pub returns-then-is_empty-clause-among : goal.returns-then-is_empty-clause-among
returns-then-is_empty-clause-among g c behind told up folds = batch_among _ behind g.D.Disk.shows _ _ _ _ _ (returns-then-is_empty-clause-any_moment g c behind told up folds)
