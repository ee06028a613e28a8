use Rattle.std.proofs.Common.{◌≡◌, ◌∙◌, ◌≤◌, ◌<◌, ◌+◌, ◌*◌, sym, ap, subst, All, List, arith}
use Rattle.ox_ops.specs.declared.notice.NoticeBatch.{NoticeBatch}
use Rattle.ox_ops.specs.State.{ShardState, Session}
use Rattle.ox_notice.specs.Kept.{Kept}
use Rattle.ox_session.specs.Members.{sessions_of}
use Rattle.ox_shard.specs.Parts.{state_of}
use Rattle.ox_shard.proofs.Keeping.{All-kept}
use Rattle.ox_shard.proofs.parts.Parts.apply.Goals as goal

pub returns-clause-fits : goal.returns-clause-fits
returns-clause-fits c =
    let step = c.in_ok-done.ensures.step in
    let next : c.move_to.new.self.records.next_version ≡ c.args.self.now.records.next_version = ap (λ (s : ShardState). s.next_version) c.move_to.ensures.state in
    let fit : c.args.self.now.records.next_version ≤ 1000 * c.args.offset = c.requires.fits.versions in
    let more : c.step.new.self.records.next_version ≤ c.move_to.new.self.records.next_version + 1000 = step.versions in
    let batches : c.step.new.self.notices.batches ≡ c.args.self.now.notices.batches = ap (λ (k : Kept). k.batches) step.notices ∙ ap (λ (s : ShardState). s.batches) c.move_to.ensures.state in
    let earlier : All (λ (b : NoticeBatch). b.offset < c.args.offset + 1) c.step.new.self.notices.batches =
    subst (λ (bs : List NoticeBatch). All (λ (b : NoticeBatch). b.offset < c.args.offset + 1) bs) (sym batches) (λ k d l. omega (arith, c.requires.fits.offsets k d l)) in
    let ids : All (λ (x : Session). x.id < c.args.offset) (sessions_of c.move_to.new.self.lists.sessions) =
    subst (λ (xs : List Session). All (λ (x : Session). x.id < c.args.offset) xs) (sym (ap (λ (s : ShardState). s.sessions) c.move_to.ensures.state)) c.requires.fits.sessions in
    rw c.in_ok-keep.ensures.state (record {
      versions = omega arith;
      offsets = All-kept (λ (b : NoticeBatch). b.offset < c.args.offset + 1) (state_of c.step.new.self) c.args.offset c.step.new.self.time c.in_ok-done.done.notices c.step.new.self.notices.batches (omega arith) earlier;
      sessions = step.ids ids;
    })
