use Rattle.std.proofs.Common.{◌≤◌, ◌<◌, ◌*◌, ℕ, All, arith}
use Rattle.std.proofs.lemmas.List.Elements.{All-nil, All-weaker}
use Rattle.ox_ops.specs.declared.notice.NoticeBatch.{NoticeBatch}
use Rattle.ox_ops.specs.State.{Session}
use Rattle.ox_shard.proofs.laws.states_fit_greater_counts.Goals as goal

pub returns-clause-empty : goal.returns-clause-empty
returns-clause-empty c = record {
  versions = omega arith;
  offsets = All-nil (λ (b : NoticeBatch). b.offset < 0);
  sessions = All-nil (λ (x : Session). x.id < 0);
}

pub returns-clause-greater : goal.returns-clause-greater
returns-clause-greater c count more s le h =
    let versions = h.versions in
    record {
      versions = omega arith;
      offsets = All-weaker (λ (b : NoticeBatch). b.offset < count) (λ (b : NoticeBatch). b.offset < more) (λ b lt. omega arith) s.batches h.offsets;
      sessions = All-weaker (λ (x : Session). x.id < count) (λ (x : Session). x.id < more) (λ x lt. omega arith) s.sessions h.sessions;
    }
