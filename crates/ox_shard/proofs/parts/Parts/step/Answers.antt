use Rattle.std.proofs.Common.{◌≤◌, ◌+◌, ◌<◌, ap, length, arith}
use Rattle.std.proofs.lemmas.List.Elements.{All-weaker}
use Rattle.ox_ops.specs.State.{Session}
use Rattle.ox_session.specs.Members.{sessions_of}
use Rattle.ox_shard.specs.Fits.{is_expire}
use Rattle.ox_shard.proofs.Ready.{ready, few_puts}
use Rattle.ox_shard.proofs.parts.Parts.step.Goals as goal

pub write-requires-clause-ready : goal.write-requires-clause-ready
write-requires-clause-ready c = ready c.args.command.now c.in-Write.batch c.in-Write.is c.requires.lawful (c.requires.faultless (ap is_expire c.in-Write.is))

pub write-requires-clause-versions : goal.write-requires-clause-versions
write-requires-clause-versions c =
    let few : length c.in-Write.batch.puts ≤ 1000 = few_puts c.args.command.now c.in-Write.batch c.in-Write.is (c.requires.faultless (ap is_expire c.in-Write.is)) in
    let fit = c.requires.fits.versions in
    let low = c.requires.offset in
    omega arith

pub returns-in_ok-write-in-Write-clause-step : goal.returns-in_ok-write-in-Write-clause-step
returns-in_ok-write-in-Write-clause-step c =
    let few : length c.in-Write.batch.puts ≤ 1000 = few_puts c.args.command.now c.in-Write.batch c.in-Write.is (c.requires.faultless (ap is_expire c.in-Write.is)) in
    let more = c.in_ok-write-in-Write.ensures.versions in
    let beside = c.in_ok-write-in-Write.ensures.beside in
    record {
      time = beside.time;
      notices = beside.notices;
      versions = omega arith;
      ids = λ low. rw beside.sessions (All-weaker (λ (x : Session). x.id < c.args.offset) (λ (x : Session). x.id < c.args.offset + 1) (λ x lt. omega arith) (sessions_of c.args.self.now.lists.sessions) low);
    }
