use Rattle.std.proofs.Common.{◌≡◌, ◌≤◌, sym, ap, subst, refl, All, List, arith}
use Rattle.ox_ops.specs.declared.notice.NoticeBatch.{NoticeBatch}
use Rattle.ox_ops.specs.State.{ShardState}
use Rattle.ox_ops.specs.Apply.{retained, with_batch}
use Rattle.ox_notice.specs.Kept.{Kept}
use Rattle.ox_shard.specs.Parts.{state_of}
use Rattle.ox_shard.proofs.Keeping.{All-kept}
use Rattle.ox_shard.proofs.parts.Parts.keep.Goals as goal

pub returns-clause-state : goal.returns-clause-state
returns-clause-state c =
    let s : ShardState = state_of c.args.self.now in
    ap (λ (k : Kept). record s { low = k.low; batches = k.batches }) (sym (c.in_ok-add.ensures.kept s refl refl))

pub returns-clause-tied : goal.returns-clause-tied
returns-clause-tied c =
    let s : ShardState = state_of c.args.self.now in
    let same : (retained s (with_batch c.args.offset s.time c.args.notices s.batches)).batches ≡ c.add.new.self.batches = ap (λ (k : Kept). k.batches) (c.in_ok-add.ensures.kept s refl refl) in
    record {
      listed = c.requires.tied.listed;
      entries = c.requires.tied.entries;
      sessions = c.requires.tied.sessions;
      charged = c.requires.tied.charged;
      times = subst (λ (bs : List NoticeBatch). All (λ (b : NoticeBatch). b.time ≤ s.time) bs) same (All-kept (λ (b : NoticeBatch). b.time ≤ s.time) s c.args.offset s.time c.args.notices s.batches (omega arith) c.requires.tied.times);
    }
